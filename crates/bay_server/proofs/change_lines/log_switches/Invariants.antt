use Rattle.bay_server.proofs.LogLemmas.{LogsSwitches}
use Rattle.bay_server.proofs.change_lines.log_switches.Given as goal

abbrev pub invariant-loop-index : goal.invariant-loop-index
invariant-loop-index g l =
    LogsSwitches g.W.Sink.contents g.W.Sink.does l.column l.moment l.device l.before
    l.initial.writer l.index
    l.writer
