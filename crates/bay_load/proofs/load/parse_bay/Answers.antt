use Rattle.std.proofs.Common.{◌≡◌, true, false, inr, refl}
use Rattle.std.proofs.lemmas.Str.{is_utf8-from_IsUtf8}
use Rattle.std.specs.Str.{is_utf8}
use Rattle.bay_base.proofs.ListLemmas.{is-utf8-false}
use Rattle.bay_load.proofs.LoadLemmas.{is-read}
use Rattle.bay_load.proofs.load.parse_bay.Goals as goal

pub returns-in-Ok-clause-file : goal.returns-in-Ok-clause-file
returns-in-Ok-clause-file c =
    let text : is_utf8 c.args.file.now ≡ true =
    is_utf8-from_IsUtf8 c.args.file.now c.in-Ok.ensures.cases.1 in
    rw text (rw c.in-Ok.ensures.cases.0 at c.read_bay.ensures.read)

pub returns-in-Ok-clause-read : goal.returns-in-Ok-clause-read
returns-in-Ok-clause-read c =
    is-read c.in-Ok.text.now c.read_bay.result c.read_bay.ensures.read c.read_bay.ensures.sound

pub returns-in-Err-clause-file : goal.returns-in-Err-clause-file
returns-in-Err-clause-file c =
    let bad : is_utf8 c.args.file.now ≡ false =
    is-utf8-false c.args.file.now c.in-Err.ensures.cases.0 in
    inr (rw bad refl)
