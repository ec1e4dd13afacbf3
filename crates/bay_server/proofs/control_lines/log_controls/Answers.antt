use Rattle.std.proofs.Common.{List, Option, subst}
use Rattle.bay_mms_services.specs.declared.answer.ControlDecision.{ControlDecision}
use Rattle.bay_server.specs.Logging.{LogsAll}
use Rattle.bay_server.specs.LogLines.{decisions_log}
use Rattle.bay_server.proofs.LogLemmas.{from-start, from-next, from-end}
use Rattle.bay_server.proofs.control_lines.log_controls.Goals as goal

pub loop-decisions-init : goal.loop-decisions-init
loop-decisions-init g c =
    from-start g.W.Sink.contents g.W.Sink.does (decisions_log c.args.moment c.args.device.now)
    c.args.request.now _

pub loop-decisions-preserved : goal.loop-decisions-preserved
loop-decisions-preserved g c =
    from-next g.W.Sink.contents g.W.Sink.does (decisions_log c.args.moment c.args.device.now)
    c.args.request.now _ _ _ c.loop-decisions.decisions-index _ c.loop-decisions.invariant
    c.loop-decisions-test.true
    (subst (λ (x : Option (List ControlDecision)). LogsAll g.W.Sink.contents g.W.Sink.does
    c.loop-decisions.writer (decisions_log c.args.moment c.args.device.now x)
    c.log_requests.new.writer)
    c.decisions-item.is c.log_requests.ensures)

pub returns : goal.returns
returns g c =
    from-end g.W.Sink.contents g.W.Sink.does (decisions_log c.args.moment c.args.device.now)
    c.args.request.now _ _ c.loop-decisions.decisions-index c.loop-decisions.invariant
    c.loop-decisions-test.false
