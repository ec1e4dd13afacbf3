use Rattle.std.proofs.Common.{◌≡◌, false, refl}
use Rattle.std.proofs.lemmas.Str.{is_utf8-from_IsUtf8}
use Rattle.std.specs.Str.{is_utf8}
use Rattle.bay_base.proofs.ListLemmas.{is-utf8-false}
use Rattle.bay_load.proofs.LoadLemmas.{text-ok, text-refused}
use Rattle.bay_load.proofs.load.parse_program.Goals as goal

pub returns-in-Ok-clause-ok : goal.returns-in-Ok-clause-ok
returns-in-Ok-clause-ok c =
    text-ok c.args.logic.now c.in-Ok.text.now c.read_program.result
    (is_utf8-from_IsUtf8 c.args.logic.now c.in-Ok.ensures.cases.1) c.in-Ok.ensures.cases.0
    c.read_program.ensures.ok

pub returns-in-Ok-clause-refused : goal.returns-in-Ok-clause-refused
returns-in-Ok-clause-refused c =
    text-refused c.args.logic.now c.in-Ok.text.now c.read_program.result
    (is_utf8-from_IsUtf8 c.args.logic.now c.in-Ok.ensures.cases.1) c.in-Ok.ensures.cases.0
    c.read_program.ensures.refused

pub returns-in-Err-clause-refused : goal.returns-in-Err-clause-refused
returns-in-Err-clause-refused c =
    let bad : is_utf8 c.args.logic.now ≡ false =
    is-utf8-false c.args.logic.now c.in-Err.ensures.cases.0 in
    λ other. rw bad refl
