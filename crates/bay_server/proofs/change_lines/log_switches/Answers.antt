use Rattle.bay_server.proofs.LogLemmas.{switches-start, switches-next, switches-end}
use Rattle.bay_server.proofs.change_lines.log_switches.Goals as goal

pub loop-index-init : goal.loop-index-init
loop-index-init g c =
    switches-start g.W.Sink.contents g.W.Sink.does c.args.column c.args.moment c.args.device.now
    c.args.before.now
    _

pub loop-index-preserved : goal.loop-index-preserved
loop-index-preserved g c =
    switches-next g.W.Sink.contents g.W.Sink.does c.args.column c.args.moment c.args.device.now
    c.args.before.now
    _ _ _ c.loop-index.index _ c.loop-index.invariant c.loop-index-test.true c.log_switch.ensures

pub returns : goal.returns
returns g c =
    switches-end g.W.Sink.contents g.W.Sink.does c.args.column c.args.moment c.args.device.now
    c.args.before.now _
    _ c.loop-index.index c.loop-index.invariant c.loop-index-test.false
