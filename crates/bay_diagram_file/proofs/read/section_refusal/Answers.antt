use Rattle.std.proofs.Common.{◌≡◌, ◌∙◌, Some, ap, length, map, sym}
use Rattle.std.proofs.lemmas.List.{length-map}
use Rattle.toml.specs.Data.{as_array, get_member}
use Rattle.toml.specs.View.{items_view, table_view, view}
use Rattle.bay_diagram_file.specs.Row.{list_of}
use Rattle.bay_diagram_file.proofs.PartLemmas.{list-of-items}
use Rattle.bay_diagram_file.proofs.read.section_refusal.Goals as goal

pub returns-in-Some-as_array : goal.returns-in-Some-as_array
returns-in-Some-as_array c =
    let vs = c.as_slice.result.now in
    let at : get_member c.args.name.now (table_view c.args.file.now)
    ≡ Some (view c.in-Some.value.now) = sym c.in-Some.ensures in
    let list : as_array (view c.in-Some.value.now) ≡ Some (items_view vs) =
    sym c.in-Some-as_array.ensures
    ∙ ap (λ vs. Some (items_view vs)) (sym c.as_slice.ensures.value) in
    let long : length (list_of (items_view vs)) ≡ length vs =
    ap length (list-of-items (map view vs)) ∙ simp length-map in
    rw (at, list, long) c.count_refusal.ensures
