use Rattle.std.proofs.Common.{◌≡◌, drop}
use Rattle.clap.specs.Words.{app_of}
use Rattle.bay_cli.specs.Jobs.{job_app}
use Rattle.bay_cli.specs.Options.{with_commands}
use Rattle.bay_cli.proofs.command.clap_command.Given as goal

abbrev pub invariant-loop-entry : goal.invariant-loop-entry
invariant-loop-entry l =
    with_commands (app_of l.command) (drop l.entry-index l.entry-items) ≡ job_app
