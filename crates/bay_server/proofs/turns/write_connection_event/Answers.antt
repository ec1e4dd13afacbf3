use Rattle.std.proofs.Common.{refl}
use Rattle.bay_server.specs.TurnLines.{connection_event_text}
use Rattle.bay_report.specs.Report.{IsOutput}
use Rattle.bay_report.proofs.ReportLemmas.{Prints-last}
use Rattle.bay_server.proofs.turns.write_connection_event.Goals as goal

pub returns : goal.returns
returns g c =
    Prints-last (IsOutput (connection_event_text c.args.moment c.args.connection_event.now) 0)
    c.finish.new.writer 0 c.finish.result (refl, refl) c.put_connection_event.ensures
    c.finish.ensures.finishes c.finish.ensures.status
