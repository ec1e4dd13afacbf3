use Rattle.std.proofs.Common.{ap}
use Rattle.std.proofs.lemmas.List.{drop_all}
use Rattle.bay_report.proofs.ReportLemmas.{commands-turn}
use Rattle.bay_report.specs.Lines.{commands_text}
use Rattle.bay_lines.proofs.PutLemmas.{puts-failed, puts-next, puts-nothing, puts-within}
use Rattle.bay_process_port.proofs.process_output.put_commands.Goals as goal

pub returns-then-not-put_command : goal.returns-then-not-put_command
returns-then-not-put_command c =
    c.loop-command.invariant.goes _ _
    (puts-failed _ _ _ _ _ _ c.put_command.ensures.fits
    (commands-turn c.args.moment c.args.device.now c.args.commands.now
    c.loop-command.command-index _ c.loop-command-test.true) _ c.if-not-put_command.true)

pub loop-command-preserved : goal.loop-command-preserved
loop-command-preserved c =
    let fit = c.if-not-put_command.false in
    record {
      within = puts-within _ _ _ _ _ c.put_command.ensures.fits fit
          (rw fit (c.put_command.ensures.after fit));
      goes = λ new answer rest. c.loop-command.invariant.goes _ _
          (puts-next _ _ _ _ _ _ c.put_command.ensures.fits
          (commands-turn c.args.moment c.args.device.now c.args.commands.now
          c.loop-command.command-index _ c.loop-command-test.true) _ _ _ fit
          (rw fit (c.put_command.ensures.after fit)) rest);
    }

pub returns : goal.returns
returns c =
    c.loop-command.invariant.goes _ _
    (puts-nothing _ _ _ c.loop-command.invariant.within
    (ap (commands_text c.args.moment c.args.device.now)
    (drop_all _ c.args.commands.now c.loop-command-test.false)))
