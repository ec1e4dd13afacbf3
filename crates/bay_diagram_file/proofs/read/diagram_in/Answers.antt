use Rattle.std.proofs.Common.{◌≡◌, true, false, inr, refl}
use Rattle.std.proofs.lemmas.Str.{is_utf8-from_IsUtf8}
use Rattle.std.specs.Str.{is_utf8}
use Rattle.bay_base.proofs.ListLemmas.{is-utf8-false}
use Rattle.bay_diagram_file.proofs.PartLemmas.{gives-network}
use Rattle.bay_diagram_file.proofs.read.diagram_in.Goals as goal

pub returns-in-Ok-clause-file : goal.returns-in-Ok-clause-file
returns-in-Ok-clause-file c =
    let text : is_utf8 c.args.octets.now ≡ true =
    is_utf8-from_IsUtf8 c.args.octets.now c.in-Ok.ensures.cases.1 in
    rw text (rw c.in-Ok.ensures.cases.0 at c.named_diagram.ensures)

pub returns-in-Ok-clause-network : goal.returns-in-Ok-clause-network
returns-in-Ok-clause-network c =
    gives-network c.args.bay.now c.args.octets.now c.named_diagram.result
    (rw c.in-Ok.ensures.cases.0 at c.named_diagram.ensures)

pub returns-in-Err-clause-file : goal.returns-in-Err-clause-file
returns-in-Err-clause-file c =
    let bad : is_utf8 c.args.octets.now ≡ false =
    is-utf8-false c.args.octets.now c.in-Err.ensures.cases.0 in
    inr (rw (bad, c.file_fault.ensures) refl)
