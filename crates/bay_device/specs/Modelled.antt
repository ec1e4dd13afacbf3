-- The handles of the rows of profile 2 of a bay that is served. That it has them is a fact with one
-- proof at most, as each fact in the state of a device has to be.
use Rattle.std.specs.Prelude.{ℕ, ◌+◌, List, [], ◌∷◌, Option, None, Some}
use Rattle.std.proofs.Props.{props}
use mathlib.Core.HLevel.{×_prop, Unit-prop, ⊥_prop}
use Rattle.bay_nodes.specs.Names.{StatusNames}
use Rattle.bay_nodes.specs.declared.switch.Switch.{Switch}
use Rattle.bay_process.specs.Layout.{Layout, layout_of, switches_of}
use Rattle.bay_process.specs.ModelRows.{IsTruthBound, IsLocalBound, AreLocalsBound, AreInputsBound, IsModelBound, IsModelled}
use Rattle.bay_process.specs.declared.model.LocalRows.{LocalRows}
use Rattle.bay_process.specs.declared.model.ModelRows.{ModelRows}
use Rattle.bay_process.specs.declared.rows.StatusRows.{StatusRows}
use Rattle.bay_mms_services.specs.declared.bay.ServedBay.{ServedBay}

IsTruthBound-prop : (layout : Layout) (names : StatusNames) (rows : StatusRows)
    → IsProp (IsTruthBound layout names rows)
IsTruthBound-prop layout names rows = Prim.hlevel props

IsLocalBound-prop : (layout : Layout) (inputs : List (List ℕ)) (switches : List Switch) (k : ℕ)
    (s : Switch) (local : LocalRows) → IsProp (IsLocalBound layout inputs switches k s local)
IsLocalBound-prop layout inputs switches k s local = Prim.hlevel props

AreLocalsBound-prop : (layout : Layout) (inputs : List (List ℕ)) (switches : List Switch) (k : ℕ)
    (ss : List Switch) (locals : List LocalRows)
    → IsProp (AreLocalsBound layout inputs switches k ss locals)
AreLocalsBound-prop layout inputs switches k [] [] = Unit-prop
AreLocalsBound-prop layout inputs switches k [] (local ∷ locals) = ⊥_prop
AreLocalsBound-prop layout inputs switches k (s ∷ ss) [] = ⊥_prop
AreLocalsBound-prop layout inputs switches k (s ∷ ss) (local ∷ locals) =
    ×_prop (IsLocalBound-prop layout inputs switches k s local)
    (AreLocalsBound-prop layout inputs switches (k + 1) ss locals)

AreInputsBound-prop : (layout : Layout) (k : ℕ) (rows : List StatusRows)
    → IsProp (AreInputsBound layout k rows)
AreInputsBound-prop layout k [] = Unit-prop
AreInputsBound-prop layout k (r ∷ rows) =
    ×_prop (IsTruthBound-prop layout _ r) (AreInputsBound-prop layout (k + 1) rows)

IsModelBound-prop : (layout : Layout) (inputs : List (List ℕ)) (switches : List Switch)
    (model : ModelRows) → IsProp (IsModelBound layout inputs switches model)
IsModelBound-prop layout inputs switches model =
    Prim.hlevel (AreLocalsBound-prop, AreInputsBound-prop, props)

IsModelled-prop : (layout : Layout) (inputs : List (List ℕ)) (switches : List Switch)
    (model : Option ModelRows) → IsProp (IsModelled layout inputs switches model)
IsModelled-prop layout inputs switches None = Unit-prop
IsModelled-prop layout inputs switches (Some model) =
    IsModelBound-prop layout inputs switches model

-- the handles of a bay that is served, with these names of its inputs, if it has any
abbrev pub HasModel : ServedBay → List (List ℕ) → Option ModelRows → Type 0
HasModel bay inputs model =
    IsModelled (layout_of bay.tree) inputs (switches_of bay.switches) model

pub HasModel-prop : (bay : ServedBay) (inputs : List (List ℕ)) (model : Option ModelRows)
    → IsProp (HasModel bay inputs model)
HasModel-prop bay inputs model =
    IsModelled-prop (layout_of bay.tree) inputs (switches_of bay.switches) model
