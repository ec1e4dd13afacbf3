use Rattle.std.proofs.Common.{◌≡◌, ◌<◌, ℕ, cond, nat_lt, Option, Some, None, option_map, slice_get, length, ap, sym, ◌∙◌, arith}
use Rattle.std.proofs.lemmas.Bool.Decides.{nat_tests}
use Rattle.std.proofs.lemmas.Option.{slice_get-map, slice_get_within}
use Rattle.bay_tree.specs.Rows.{leaf_named}
use Rattle.bay_tree.specs.declared.leaf.Leaf.{Leaf}
use Rattle.bay_nodes.specs.Names.{SwitchNames}
use Rattle.bay_process.specs.Layout.{switches_of}
use Rattle.bay_process.specs.declared.switch.BoundSwitch.{BoundSwitch}
use Rattle.bay_process.proofs.ListLemmas.{got-some}
use Rattle.bay_device.proofs.state.DeviceState.position.Goals as goal

pub position_at-requires : goal.position_at-requires
position_at-requires c =
    let d = c.args.self.now in
    let bound = c.in_ok-bound.bound in
    let here : slice_get d.bay.switches c.args.switch ≡ Some bound.now =
    rw c.as_slice.ensures at (got-some _ c.args.switch bound c.in_ok-bound.ensures.lookup) in
    (d.bound c.args.switch bound.now here).leaf_typed.control.value_type

within : (k n : ℕ) (o : Option Leaf) → k < n → o ≡ cond (nat_lt k n) o None
within k n o lt = grind (arith, nat_tests)

pub returns : goal.returns
returns c connections =
    let d = c.args.self.now in
    let k = c.args.switch in
    let bound = c.in_ok-bound.bound in
    let here : slice_get d.bay.switches k ≡ Some bound.now =
    rw c.as_slice.ensures at (got-some _ k bound c.in_ok-bound.ensures.lookup) in
    let lt : k < length (switches_of d.bay.switches) =
    slice_get_within (switches_of d.bay.switches) k bound.now.switch
    (slice_get-map (λ (b : BoundSwitch). b.switch) d.bay.switches k
    ∙ ap (λ o. option_map (λ (b : BoundSwitch). b.switch) o) here) in
    let named = (d.bound k bound.now here).named in
    sym c.position_at.ensures
    ∙ ap (λ (n : SwitchNames). leaf_named n.control.value d.bay.tree) named
    ∙ within k (length (switches_of d.bay.switches)) _ lt
