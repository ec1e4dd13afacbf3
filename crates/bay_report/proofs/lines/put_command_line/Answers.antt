use Rattle.bay_io.proofs.SentLemmas.{Puts-then, Puts-as}
use Rattle.bay_report.proofs.lines.put_command_line.Goals as goal

pub returns : goal.returns
returns g c =
    Puts-then (Puts-then (Puts-then (c.put_number.ensures) (c.put.ensures)) (Puts-as _
    c.as_bytes.ensures.value c.put-2.ensures)) (Puts-as _ c.command_end.ensures c.put-3.ensures)
