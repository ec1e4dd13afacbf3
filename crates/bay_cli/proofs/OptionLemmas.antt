-- Lemmas on the table of commands.
use Rattle.std.proofs.Common.{◌≡◌, ◌∙◌, ◌<◌, ◌+◌, ℕ, List, length, drop, get_or, sym}
use Rattle.std.proofs.lemmas.List.{at_drop_more}
use Rattle.clap.specs.Words.{App, Shape, with_subcommand}
use Rattle.bay_cli.specs.Options.{app_in, with_commands}
use Rattle.bay_cli.specs.declared.command.Entry.{Entry}

-- one more command of a table
pub commands-step : {all : App} (old new : App) (sub : Shape) (entries : List Entry) (k : ℕ)
    (d : Entry)
    → with_commands old (drop k entries) ≡ all → k < length entries
    → sub ≡ (app_in (get_or entries k d)).top → new ≡ with_subcommand old sub
    → with_commands new (drop (k + 1) entries) ≡ all
commands-step old new sub entries k d so lt is added =
    rw (added, is) (sym (at_drop_more (with_commands old) entries k d lt) ∙ so)
