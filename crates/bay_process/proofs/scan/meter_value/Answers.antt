use Rattle.std.proofs.Common.{◌≡◌, Some, w32, ap, sym, ◌∙◌, slice_get}
use Rattle.std.proofs.lemmas.Int.{to_z-of_z}
use Rattle.il_image.specs.declared.value.Value.TheVariants.{Long}
use Rattle.bay_process.specs.Values.{number_of_leaf}
use Rattle.bay_process.specs.Scans.{leaf_at_handle, meter_value}
use Rattle.bay_process.proofs.ListLemmas.{got-some, got-none}
use Rattle.bay_process.proofs.scan.meter_value.Goals as goal

pub returns-in-Some-clause-value : goal.returns-in-Some-clause-value
returns-in-Some-clause-value c =
    let rows = c.args.tree.now in
    let here : slice_get c.args.meters.now c.args.meter ≡ Some c.in-Some.bound.now =
    got-some _ c.args.meter c.in-Some.bound c.in-Some.ensures.lookup in
    ap (λ z. Long z) (to_z-of_z w32 c.count_at.result (record { sfits = c.count_at.type_inv }))
    ∙ sym (ap (λ o. Long (number_of_leaf o)) c.count_at.ensures)
    ∙ ap (λ r. Long (number_of_leaf (leaf_at_handle rows r.status.value))) c.field.ensures
    ∙ sym (ap (meter_value rows c.args.field) here)

pub returns-in-None-clause-value : goal.returns-in-None-clause-value
returns-in-None-clause-value c =
    sym (ap (meter_value c.args.tree.now c.args.field)
    (got-none _ c.args.meter c.in-None.ensures.lookup))
