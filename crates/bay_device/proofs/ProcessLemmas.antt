-- A switch at its place.
use Rattle.std.proofs.Common.{◌≡◌, ◌<◌, ℕ, zero, suc, List, [], ◌∷◌, length, slice_get, Some, option_map, refl, ap, sym, ◌∙◌, arith}
use Rattle.std.proofs.lemmas.List.{length-map}
use Rattle.std.proofs.lemmas.Option.{slice_get-map, same_Some}
use Rattle.bay_nodes.specs.declared.switch.Switch.{Switch}
use Rattle.bay_nodes.specs.Names.{switch_names}
use Rattle.bay_process.specs.Layout.{Layout, switch_names_in, switches_of}
use Rattle.bay_process.specs.declared.switch.BoundSwitch.{BoundSwitch}
use Rattle.bay_mms_services.specs.RowParts.{AreBoundByName}

-- the rows of the switch at a place have its names
pub named-there : (layout : Layout) (switches : List BoundSwitch) (k : ℕ) (bound : BoundSwitch)
    (s : Switch) → AreBoundByName layout switches → slice_get switches k ≡ Some bound
    → slice_get (switches_of switches) k ≡ Some s
    → switch_names_in layout bound.rows ≡ switch_names (switches_of switches) k s
named-there layout switches k bound s placed here is =
    let own : slice_get (switches_of switches) k ≡ Some bound.switch =
    slice_get-map (λ (b : BoundSwitch). b.switch) switches k
    ∙ ap (λ o. option_map (λ (b : BoundSwitch). b.switch) o) here in
    (placed k bound here).named
    ∙ ap (switch_names (switches_of switches) k) (same_Some bound.switch s (sym own ∙ is))

-- a place within a list has something
pub there-is : {A : Type 0} (xs : List A) (k : ℕ) → k < length xs
    → (x : A) × (slice_get xs k ≡ Some x)
there-is [] k lt = absurd (omega arith)
there-is (x ∷ xs) zero lt = (x, refl)
there-is (x ∷ xs) (suc k) lt = there-is xs k (omega arith)

pub switch-there : (switches : List BoundSwitch) (k : ℕ) → k < length switches
    → (s : Switch) × (slice_get (switches_of switches) k ≡ Some s)
switch-there switches k lt =
    let sized : length (switches_of switches) ≡ length switches =
    length-map switches (λ (b : BoundSwitch). b.switch) in
    there-is (switches_of switches) k (omega (arith, lt, sized))

-- as many switches, each with its rows
pub as-many : (old new : List BoundSwitch) → switches_of new ≡ switches_of old
    → length new ≡ length old
as-many old new is =
    sym (length-map new (λ (b : BoundSwitch). b.switch)) ∙ ap length is
    ∙ length-map old (λ (b : BoundSwitch). b.switch)
