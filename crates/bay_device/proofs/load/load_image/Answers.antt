use Rattle.std.proofs.Common.{◌≡◌, true}
use Rattle.std.proofs.lemmas.Result.{err_from_is_err_and}
use Rattle.std.proofs.lemmas.Str.{is_utf8-from_IsUtf8}
use Rattle.std.specs.Str.{is_utf8}
use Rattle.bay_device.proofs.LoadedLemmas.{image-device, image-loaded, image-refused}
use Rattle.bay_device.proofs.load.load_image.Goals as goal

pub returns-in_err-device-clause-refused : goal.returns-in_err-device-clause-refused
returns-in_err-device-clause-refused c =
    let bay = c.args.bay.now in
    let one : is_utf8 bay ≡ true =
    is_utf8-from_IsUtf8 bay (rw c.as_bytes.ensures.value at c.as_bytes.ensures.utf8) in
    let p = err_from_is_err_and c.from_residual.result c.from_residual.ensures.1 in
    rw (p.1, p.2) (image-refused bay c.args.image.now one _
    (rw c.as_bytes.ensures.value at c.in_err-device.ensures.refused))

pub returns-clause-ok : goal.returns-clause-ok
returns-clause-ok c =
    let bay = c.args.bay.now in
    let one : is_utf8 bay ≡ true =
    is_utf8-from_IsUtf8 bay (rw c.as_bytes.ensures.value at c.as_bytes.ensures.utf8) in
    image-device bay c.args.image.now one c.in_ok-device.device
    (rw c.as_bytes.ensures.value at c.in_ok-device.ensures.ok)

pub returns-clause-loaded : goal.returns-clause-loaded
returns-clause-loaded c =
    let bay = c.args.bay.now in
    let one : is_utf8 bay ≡ true =
    is_utf8-from_IsUtf8 bay (rw c.as_bytes.ensures.value at c.as_bytes.ensures.utf8) in
    image-loaded bay c.args.image.now one c.in_ok-device.device
    (rw c.as_bytes.ensures.value at c.in_ok-device.ensures.loaded)
