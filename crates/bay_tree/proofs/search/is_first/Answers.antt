use Rattle.std.proofs.Common.{◌≡◌, [], None, sym, ap, ◌∙◌}
use Rattle.std.proofs.lemmas.List.{get_or_default}
use Rattle.bay_tree.specs.declared.row.Row.{Row}
use Rattle.bay_tree.specs.Rows.{name_at, row_index}
use Rattle.bay_tree.proofs.TreeLemmas.{first-is, none-is}
use Rattle.bay_tree.proofs.search.is_first.Goals as goal

pub returns-in-Some : goal.returns-in-Some
returns-in-Some c =
    let rows = c.args.rows.now in
    let row =
    get_or_default rows c.args.place c.index-rows-place.result
    (record { name = []; leaf = None }) c.requires.within in
    let named : c.as_bytes.result.now ≡ name_at rows c.args.place =
    c.as_bytes.ensures.value ∙ c.as_str.ensures ∙ ap (λ (r : Row). r.name) row in
    first-is _ c.in-Some.first c.args.place
    (sym (ap (row_index rows) named) ∙ sym c.in-Some.ensures)

pub returns-in-None : goal.returns-in-None
returns-in-None c =
    let rows = c.args.rows.now in
    let row =
    get_or_default rows c.args.place c.index-rows-place.result
    (record { name = []; leaf = None }) c.requires.within in
    let named : c.as_bytes.result.now ≡ name_at rows c.args.place =
    c.as_bytes.ensures.value ∙ c.as_str.ensures ∙ ap (λ (r : Row). r.name) row in
    none-is _ c.args.place (sym (ap (row_index rows) named) ∙ sym c.in-None.ensures)
