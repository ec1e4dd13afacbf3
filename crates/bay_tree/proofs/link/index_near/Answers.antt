use Rattle.std.proofs.Common.{◌≡◌, None, Some, [], sym, ap, ◌∙◌, arith}
use Rattle.std.proofs.lemmas.Grind.{common_steps}
use Rattle.std.proofs.lemmas.List.{get_or_default}
use Rattle.std.proofs.lemmas.Slice.Eq.{bytes_eq-Decides}
use Rattle.std.specs.Option.{option_copied}
use Rattle.bay_tree.specs.declared.row.Row.{Row}
use Rattle.bay_tree.specs.Rows.{name_at, row_index}
use Rattle.bay_tree.proofs.TreeLemmas.{place_of-own}
use Rattle.bay_tree.proofs.link.index_near.Goals as goal

pub returns-then-eq : goal.returns-then-eq
returns-then-eq c =
    let rows = c.args.rows.now in
    let row =
    get_or_default rows c.args.last c.index-rows-last.result (record { name = []; leaf = None })
    c.requires.within in
    let named : name_at rows c.args.last ≡ c.in_ok-name.name.now =
    sym (c.as_str.ensures ∙ ap (λ (r : Row). r.name) row)
    ∙ (bytes_eq-Decides c.as_str.result.now c.in_ok-name.name.now).0
    (sym c.eq.ensures ∙ c.if-eq.true) in
    let place : row_index rows c.in_ok-name.name.now ≡ Some c.args.last =
    sym (ap (row_index rows) named)
    ∙ place_of-own rows c.args.last c.requires.tree c.requires.within
    in
    let own : option_copied c.args.name ≡ Some c.in_ok-name.name.now =
    grind (arith, common_steps) in
    rw own (sym place)
