use Rattle.bay_server.specs.LogLines.{closed_line}
use Rattle.bay_server.proofs.LogLemmas.{up-to-start, up-to-next, up-to-end}
use Rattle.bay_server.proofs.log_lines.log_closings.Goals as goal

pub loop-entry-init : goal.loop-entry-init
loop-entry-init g c =
    up-to-start g.W.Sink.contents g.W.Sink.does (closed_line c.args.moment) c.args.closed.now _

pub loop-entry-preserved : goal.loop-entry-preserved
loop-entry-preserved g c =
    up-to-next g.W.Sink.contents g.W.Sink.does (closed_line c.args.moment) c.args.closed.now _ _ _
    c.loop-entry.entry-index _ c.loop-entry.invariant c.loop-entry-test.true c.log_closed.ensures

pub returns : goal.returns
returns g c =
    up-to-end g.W.Sink.contents g.W.Sink.does (closed_line c.args.moment) c.args.closed.now _ _
    c.loop-entry.entry-index c.loop-entry.invariant c.loop-entry-test.false
