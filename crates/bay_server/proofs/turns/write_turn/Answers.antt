use Rattle.std.proofs.Common.{refl}
use Rattle.bay_server.specs.TurnLines.{turn_text}
use Rattle.bay_report.specs.Report.{IsOutput}
use Rattle.bay_report.proofs.ReportLemmas.{Prints-last}
use Rattle.bay_server.proofs.turns.write_turn.Goals as goal

pub returns : goal.returns
returns g c =
    Prints-last (IsOutput (turn_text c.args.moment c.args.turn.now c.args.device.now) 0)
    c.finish.new.writer 0 c.finish.result (refl, refl) c.put_turn.ensures
    c.finish.ensures.finishes c.finish.ensures.status
