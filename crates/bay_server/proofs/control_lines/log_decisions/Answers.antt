use Rattle.std.proofs.Common.{subst}
use Rattle.bay_io.specs.Sent.{Logs}
use Rattle.bay_mms_services.specs.declared.answer.ControlDecision.{ControlDecision}
use Rattle.bay_server.specs.LogLines.{decision_line}
use Rattle.bay_server.proofs.LogLemmas.{up-to-start, up-to-next, up-to-end}
use Rattle.bay_server.proofs.control_lines.log_decisions.Goals as goal

pub loop-decision-init : goal.loop-decision-init
loop-decision-init g c =
    up-to-start g.W.Sink.contents g.W.Sink.does (decision_line c.args.moment c.args.device.now)
    c.args.decisions.now _

pub loop-decision-preserved : goal.loop-decision-preserved
loop-decision-preserved g c =
    up-to-next g.W.Sink.contents g.W.Sink.does (decision_line c.args.moment c.args.device.now)
    c.args.decisions.now _ _ _ c.loop-decision.decision-index _ c.loop-decision.invariant
    c.loop-decision-test.true
    (subst (λ (x : ControlDecision). Logs g.W.Sink.contents g.W.Sink.does c.loop-decision.writer
    (decision_line c.args.moment c.args.device.now x) c.log_decision.new.writer)
    c.decision-item.is c.log_decision.ensures)

pub returns : goal.returns
returns g c =
    up-to-end g.W.Sink.contents g.W.Sink.does (decision_line c.args.moment c.args.device.now)
    c.args.decisions.now _ _ c.loop-decision.decision-index c.loop-decision.invariant
    c.loop-decision-test.false
