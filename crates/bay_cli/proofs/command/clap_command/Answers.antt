use Rattle.std.proofs.Common.{ap}
use Rattle.clap.specs.Words.{App}
use Rattle.bay_cli.proofs.OptionLemmas.{commands-step}
use Rattle.bay_cli.proofs.command.clap_command.Goals as goal

pub loop-entry-preserved : goal.loop-entry-preserved
loop-entry-preserved c =
    commands-step _ _ _ _ _ _ c.loop-entry.invariant c.loop-entry-test.true
    (ap (λ (a : App). a.top) c.in_ok-command_of.ensures.app)
    (c.in_ok-command-2.ensures.shape c.in_ok-command_of.ensures.local)
