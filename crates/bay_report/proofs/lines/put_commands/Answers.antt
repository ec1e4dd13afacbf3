use Rattle.bay_io.proofs.SentLemmas.{Rest-start, Rest-step}
use Rattle.bay_report.proofs.ReportLemmas.{commands-turn}
use Rattle.bay_report.proofs.lines.put_commands.Goals as goal

pub loop-command-init : goal.loop-command-init
loop-command-init g c = Rest-start _ _

pub loop-command-preserved : goal.loop-command-preserved
loop-command-preserved g c =
    Rest-step c.loop-command.invariant
    (commands-turn c.args.moment c.args.device.now c.args.commands.now c.loop-command.command-index
    _ c.loop-command-test.true) c.put_command.ensures
