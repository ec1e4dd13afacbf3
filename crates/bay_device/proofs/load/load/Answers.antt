use Rattle.std.proofs.Common.{◌≡◌, true, Ok}
use Rattle.std.proofs.lemmas.Result.{err_from_is_err_and}
use Rattle.std.proofs.lemmas.Str.{is_utf8-from_IsUtf8}
use Rattle.std.specs.Str.{is_utf8}
use Rattle.bay_config.specs.Bay.{bay_of}
use Rattle.il_text.specs.Reading.{program_of}
use Rattle.bay_device.proofs.AcceptLemmas.{accepted-ok, refused-err}
use Rattle.bay_device.proofs.LoadedLemmas.{bay-sound, text-checked, text-device, text-loaded, text-refused, text-runs}
use Rattle.bay_device.proofs.load.load.Goals as goal

pub returns-in_err-device-clause-device : goal.returns-in_err-device-clause-device
returns-in_err-device-clause-device c =
    let bay = c.args.bay.now in
    let logic = c.args.logic.now in
    let one : is_utf8 bay ≡ true =
    is_utf8-from_IsUtf8 bay (rw c.as_bytes.ensures.value at c.as_bytes.ensures.utf8) in
    let two : is_utf8 logic ≡ true =
    is_utf8-from_IsUtf8 logic (rw c.as_bytes-2.ensures.value at c.as_bytes-2.ensures.utf8) in
    let p = err_from_is_err_and c.from_residual.result c.from_residual.ensures.1 in
    rw (p.1, p.2) (text-refused bay logic one two _
    (rw (c.as_bytes.ensures.value, c.as_bytes-2.ensures.value) at c.in_err-device.ensures.refused))

pub returns-in_err-device-clause-refused : goal.returns-in_err-device-clause-refused
returns-in_err-device-clause-refused c =
    refused-err c.args.bay.now c.args.logic.now c.from_residual.result
    (returns-in_err-device-clause-device c)

pub returns-clause-device : goal.returns-clause-device
returns-clause-device c =
    let bay = c.args.bay.now in
    let logic = c.args.logic.now in
    let one : is_utf8 bay ≡ true =
    is_utf8-from_IsUtf8 bay (rw c.as_bytes.ensures.value at c.as_bytes.ensures.utf8) in
    let two : is_utf8 logic ≡ true =
    is_utf8-from_IsUtf8 logic (rw c.as_bytes-2.ensures.value at c.as_bytes-2.ensures.utf8) in
    text-device bay logic one two c.in_ok-device.device
    (rw (c.as_bytes.ensures.value, c.as_bytes-2.ensures.value) at c.in_ok-device.ensures.ok)

pub returns-clause-loaded : goal.returns-clause-loaded
returns-clause-loaded c =
    let bay = c.args.bay.now in
    let logic = c.args.logic.now in
    let one : is_utf8 bay ≡ true =
    is_utf8-from_IsUtf8 bay (rw c.as_bytes.ensures.value at c.as_bytes.ensures.utf8) in
    let two : is_utf8 logic ≡ true =
    is_utf8-from_IsUtf8 logic (rw c.as_bytes-2.ensures.value at c.as_bytes-2.ensures.utf8) in
    text-loaded bay logic one two c.in_ok-device.device
    (rw (c.as_bytes.ensures.value, c.as_bytes-2.ensures.value) at c.in_ok-device.ensures.loaded)

pub returns-clause-runs : goal.returns-clause-runs
returns-clause-runs c =
    let bay = c.args.bay.now in
    let logic = c.args.logic.now in
    let s = c.in_ok-device.device in
    let loaded = returns-clause-loaded c in (
      loaded.made.checked,
      text-checked (bay_of bay) (program_of logic) s loaded,
      text-runs (bay_of bay) (program_of logic) s loaded
          (bay-sound bay loaded.bay loaded.read),
    )

pub returns-clause-accepted : goal.returns-clause-accepted
returns-clause-accepted c =
    accepted-ok c.args.bay.now c.args.logic.now (Ok c.in_ok-device.device) (returns-clause-runs c)
