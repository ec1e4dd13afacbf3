use Rattle.std.proofs.Common.{◌∙◌}
use Rattle.bay_config.proofs.KeyLemmas.{unknown-map}
use Rattle.bay_diagram_file.proofs.keys.has_unknown_key.Goals as goal

pub returns : goal.returns
returns c =
    c.has_unlisted_key.ensures ∙ unknown-map c.args.known.now c.args.table.now.entries
