-- The table of commands, in the terms of `clap`.
use Rattle.std.specs.Prelude.{List, ◌∷◌, [], Some}
use Rattle.clap.specs.Words.{App, Rule, new_app, new_rule, with_rule, with_subcommand}
use Rattle.clap.specs.declared.builder.ArgAction.TheVariants.{Set, SetTrue}
use Rattle.clap.specs.declared.builder.value_parser.ValueParser.TheVariants as vp
use Rattle.bay_cli.specs.declared.command.OptionSpec.{OptionSpec}
use Rattle.bay_cli.specs.declared.command.Entry.{Entry}
use Rattle.bay_cli.specs.declared.command.OptionValue.{OptionValue}
use Rattle.bay_cli.specs.declared.command.OptionValue.TheVariants.{Nothing, Text, Number}

-- a rule of `clap` with the value that an option takes
abbrev pub rule_with_value : OptionValue → Rule → Rule
rule_with_value Nothing rule = record rule { action = Some SetTrue }
rule_with_value (Text name) rule = record rule { value_names = 1; action = Some Set }
rule_with_value (Number name least greatest) rule =
    record rule { value_names = 1; parser = Some (vp.Unsigned least greatest); action = Some Set }

-- the rule of `clap` for an option
abbrev pub rule_in : OptionSpec → Rule
rule_in choice =
    rule_with_value choice.value
    (record (new_rule choice.id.now) { long = Some choice.id.now; required = choice.required })

-- a command with further options
abbrev pub with_rules : App → List OptionSpec → App
with_rules app [] = app
with_rules app (choice ∷ choices) = with_rules (with_rule app (rule_in choice)) choices

-- the command of `clap` for an entry of the table
abbrev pub app_in : Entry → App
app_in entry = with_rules (new_app entry.name.now) entry.options.now

-- a program with further commands
abbrev pub with_commands : App → List Entry → App
with_commands app [] = app
with_commands app (entry ∷ entries) =
    with_commands (with_subcommand app (app_in entry).top) entries
