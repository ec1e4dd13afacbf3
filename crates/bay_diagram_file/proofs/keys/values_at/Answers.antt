use Rattle.std.proofs.Common.{◌≡◌, ◌∙◌, Some, ap, map, sym}
use Rattle.toml.specs.Data.{as_array, get_member}
use Rattle.toml.specs.View.{items_view, table_view, view}
use Rattle.bay_diagram_file.proofs.PartLemmas.{list-of-items}
use Rattle.bay_diagram_file.proofs.keys.values_at.Goals as goal

pub returns-in-Some-as_array : goal.returns-in-Some-as_array
returns-in-Some-as_array c =
    let vs = c.as_slice.result.now in
    let at : get_member c.args.key.now (table_view c.args.table.now)
    ≡ Some (view c.in-Some.value.now) = sym c.in-Some.ensures in
    let list : as_array (view c.in-Some.value.now) ≡ Some (items_view vs) =
    sym c.in-Some-as_array.ensures
    ∙ ap (λ vs. Some (items_view vs)) (sym c.as_slice.ensures.value) in
    rw (at, list) (sym (list-of-items (map view vs)))
