use Rattle.std.proofs.Common.{ap}
use Rattle.bay_io.proofs.SentLemmas.{Puts-as, Puts-then}
use Rattle.bay_report.specs.Lines.{commands_text}
use Rattle.bay_server.specs.TurnLines.{closings_text, memory_closings_text}
use Rattle.bay_server.proofs.turns.put_turn.Goals as goal

pub returns : goal.returns
returns g c =
    Puts-then (Puts-then (Puts-then c.put_refused.ensures
    (Puts-as _ (ap (commands_text c.args.moment c.args.device.now) c.as_slice.ensures)
    c.put_commands.ensures))
    (Puts-as _ (ap (closings_text c.args.moment) c.as_slice-2.ensures) c.put_closings.ensures))
    (Puts-as _ (ap (memory_closings_text c.args.moment) c.as_slice-3.ensures)
    c.put_memories.ensures)
