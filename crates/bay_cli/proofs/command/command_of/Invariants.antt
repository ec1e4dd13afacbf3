use Rattle.std.proofs.Common.{◌≡◌, drop, false}
use Rattle.clap.specs.Words.{app_of}
use Rattle.clap.specs.declared.builder.command.Command.TheViews.{out-Command as fields_of}
use Rattle.bay_cli.specs.Options.{app_in, with_rules}
use Rattle.bay_cli.proofs.command.command_of.Given as goal

abbrev pub invariant-loop-choice : goal.invariant-loop-choice
invariant-loop-choice l = record {
  app : with_rules (app_of l.command) (drop l.choice-index l.entry.options.now) ≡ app_in l.entry;
  local : (fields_of l.command).has_globals ≡ false;
}
