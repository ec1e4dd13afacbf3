use Rattle.std.proofs.Common.{◌≡◌, ◌∙◌, sym, map, true, false}
use Rattle.toml.specs.View.{table_view}
use Rattle.bay_config.specs.Key.{has_unknown}
use Rattle.bay_config.proofs.KeyLemmas.{unknown-map}
use Rattle.bay_config.proofs.keys.check_keys.Goals as goal

pub returns-then-has_unknown_key : goal.returns-then-has_unknown_key
returns-then-has_unknown_key c =
    let known = c.args.known.now in
    let unknown : has_unknown (map (λ k. k.now) known) (table_view c.args.table.now) ≡ true =
    sym (unknown-map known c.args.table.now.entries) ∙ sym c.has_unknown_key.ensures
    ∙ c.if-has_unknown_key.true in
    rw unknown

pub returns : goal.returns
returns c =
    let known = c.args.known.now in
    let unknown : has_unknown (map (λ k. k.now) known) (table_view c.args.table.now) ≡ false =
    sym (unknown-map known c.args.table.now.entries) ∙ sym c.has_unknown_key.ensures
    ∙ c.if-has_unknown_key.false in
    rw unknown
