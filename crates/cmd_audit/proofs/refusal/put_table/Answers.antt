use Rattle.std.proofs.Common.{sym}
use Rattle.bay_io.proofs.SentLemmas.{Puts-as, Puts-nil, Puts-then}
use Rattle.cmd_audit.proofs.refusal.put_table.Goals as goal

pub returns-in_default : goal.returns-in_default
returns-in_default g c =
    rw (sym (rw c.in_default.is at c.table_of.ensures)) (Puts-nil _)

pub returns-in-Some : goal.returns-in-Some
returns-in-Some g c =
    rw (sym c.in-Some.ensures)
    (Puts-then (Puts-as _ c.as_bytes.ensures.value c.put.ensures) c.put_number.ensures)
