use Rattle.bay_server.proofs.LogLemmas.{logs-then}
use Rattle.bay_server.proofs.change_lines.log_ends.Goals as goal

pub returns : goal.returns
returns g c =
    logs-then g.W.Sink.contents g.W.Sink.does _ _ _ _ _ c.log_end.ensures
    (rw (c.reached_switch-reached_switch.ensures, c.operating.ensures) at c.log_end-2.ensures)
