use Rattle.bay_io.proofs.SentLemmas.{Rest-start, Rest-step}
use Rattle.bay_report.proofs.ReportLemmas.{sends-turn}
use Rattle.bay_report.proofs.lines.put_sends.Goals as goal

pub loop-sent-init : goal.loop-sent-init
loop-sent-init g c = Rest-start _ _

pub loop-sent-preserved : goal.loop-sent-preserved
loop-sent-preserved g c =
    Rest-step c.loop-sent.invariant
    (sends-turn c.args.moment c.args.sends.now c.loop-sent.sent-index c.sent-item.result
    c.sent-item.is c.loop-sent-test.true) c.put_send.ensures
