use Rattle.std.proofs.Common.{◌≡◌, ◌∙◌, Some, codes, ap, sym}
use Rattle.toml.specs.Data.{get_member, as_array}
use Rattle.toml.specs.View.{view, table_view, items_view}
use Rattle.bay_config.proofs.meters.read_meter_section.Goals as goal

pub returns-in-Some-as_array-clause-meters : goal.returns-in-Some-as_array-clause-meters
returns-in-Some-as_array-clause-meters c =
    let f = table_view c.args.file.now in
    let at : get_member (codes "meter") f ≡ Some (view c.in-Some.value.now) =
    sym c.in-Some.ensures in
    let list : as_array (view c.in-Some.value.now) ≡ Some (items_view c.as_slice.result.now) =
    sym c.in-Some-as_array.ensures
    ∙ ap (λ vs. Some (items_view vs)) (sym c.as_slice.ensures.value) in
    rw (at, list) c.read_meter_list.ensures
