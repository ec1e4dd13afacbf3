use Rattle.std.proofs.Common.{◌∙◌, ap, sym}
use Rattle.std.specs.Fmt.{decimal}
use Rattle.bay_io.proofs.SentLemmas.{Puts-as, Puts-nil, Puts-then}
use Rattle.cmd_audit.proofs.refusal.put_diagram_fault.Goals as goal

pub returns-in_default : goal.returns-in_default
returns-in_default g c = rw (sym c.code.ensures ∙ c.in_default.is) (Puts-nil _)

pub returns : goal.returns
returns g c =
    rw (sym c.in-Some.ensures)
    (Puts-then c.put.ensures
    (Puts-then (Puts-as _ (ap decimal c.from.ensures) c.put_number.ensures)
    (Puts-then c.put_table.ensures c.put-2.ensures)))
