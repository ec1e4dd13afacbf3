-- The rows of profile 2 change by their handles as they do by their names.
use Rattle.std.proofs.Common.{◌≡◌, ℕ, zero, suc, ◌+◌, ◌<◌, Bool, false, true, not, List, [], ◌∷◌, length, get_or, Option, None, Some, refl, ap, ◌∙◌, arith, if◌then◌else◌}
use Rattle.bay_tree.specs.declared.leaf.Quality.{Quality}
use Rattle.bay_tree.specs.declared.leaf.Quality.TheVariants.{Good, Invalid}
use Rattle.bay_tree.specs.declared.row.Row.{Row}
use Rattle.bay_nodes.specs.Names.{StatusNames, indication_names, local_names, physical_health_names, switch_node}
use Rattle.bay_nodes.specs.declared.profile.Profile.TheVariants.{Two}
use Rattle.bay_nodes.specs.declared.switch.Switch.{Switch}
use Rattle.bay_control.specs.Decisions.{key_input}
use Rattle.bay_process.specs.Layout.{Layout, layout_of, status_names_in}
use Rattle.bay_process.specs.Model.{inputs_invalid, is_keyed_by, rows_after_health, rows_after_input, rows_after_lost_inputs, with_health, with_locals, with_truth}
use Rattle.bay_process.specs.ModelRows.{AreInputsBound, AreLocalsBound, AreLocalsTyped, AreTruths, IsModelBound, rows_after_invalid, rows_after_locals}
use Rattle.bay_process.specs.declared.model.LocalRows.{LocalRows}
use Rattle.bay_process.specs.declared.model.ModelRows.{ModelRows}
use Rattle.bay_process.specs.declared.rows.StatusRows.{StatusRows}

-- ---- Loc of each switch

pub locals-typed : (layout : Layout) (inputs : List (List ℕ)) (switches : List Switch) (k : ℕ)
    (ss : List Switch) (locals : List LocalRows)
    → AreLocalsBound layout inputs switches k ss locals → AreLocalsTyped layout locals
locals-typed layout inputs switches k [] [] h j d lt = absurd (omega (arith, lt))
locals-typed layout inputs switches k [] (local ∷ locals) h j d lt = absurd h
locals-typed layout inputs switches k (s ∷ ss) [] h j d lt = absurd h
locals-typed layout inputs switches k (s ∷ ss) (local ∷ locals) h zero d lt = h.0.bound.leaf_typed
locals-typed layout inputs switches k (s ∷ ss) (local ∷ locals) h (suc j) d lt =
    locals-typed layout inputs switches (k + 1) ss locals h.1 j d (omega (arith, lt))

module _ (layout : Layout) (inputs : List (List ℕ)) (switches : List Switch) (input : Option ℕ)
    (value : Bool) (quality : Quality) (now : ℕ) where
  -- the rows after one Loc
  abbrev after_local : Option ℕ → StatusNames → List Row → List Row
  after_local key names rows =
      if is_keyed_by input key then with_truth names value quality now rows else rows

  pub locals-named : (k : ℕ) (ss : List Switch) (locals : List LocalRows) (rows : List Row)
      → AreLocalsBound layout inputs switches k ss locals
      → rows_after_locals layout input value quality now locals rows
      ≡ with_locals input value quality now inputs switches k ss rows
  locals-named k [] [] rows h = refl
  locals-named k [] (local ∷ locals) rows h = absurd h
  locals-named k (s ∷ ss) [] rows h = absurd h
  locals-named k (s ∷ ss) (local ∷ locals) rows h =
      let next = rows_after_locals layout input value quality now locals in
      ap (λ names. next (after_local local.key names rows)) h.0.bound.named
      ∙ ap (λ key. next (after_local key (local_names (switch_node switches k s)) rows)) h.0.key
      ∙ locals-named (k + 1) ss locals
      (after_local (key_input inputs s) (local_names (switch_node switches k s)) rows) h.1

-- ---- the inputs

pub inputs-typed : (layout : Layout) (k : ℕ) (handles : List StatusRows)
    → AreInputsBound layout k handles → AreTruths layout handles
inputs-typed layout k [] h j d lt = absurd (omega (arith, lt))
inputs-typed layout k (handle ∷ handles) h zero d lt = h.0.leaf_typed
inputs-typed layout k (handle ∷ handles) h (suc j) d lt =
    inputs-typed layout (k + 1) handles h.1 j d (omega (arith, lt))

pub input-named : (layout : Layout) (k : ℕ) (handles : List StatusRows) (j : ℕ) (d : StatusRows)
    → AreInputsBound layout k handles → j < length handles
    → status_names_in layout (get_or handles j d) ≡ indication_names (k + j + 1)
input-named layout k [] j d h lt = absurd (omega (arith, lt))
input-named layout k (handle ∷ handles) zero d h lt =
    let none : k + 1 ≡ k + 0 + 1 = omega arith in
    h.0.named ∙ ap indication_names none
input-named layout k (handle ∷ handles) (suc j) d h lt =
    let more : k + 1 + j + 1 ≡ k + suc j + 1 = omega arith in
    input-named layout (k + 1) handles j d h.1 (omega (arith, lt)) ∙ ap indication_names more

pub inputs-named : (layout : Layout) (now k : ℕ) (inputs : List (List ℕ))
    (handles : List StatusRows) (rows : List Row) → AreInputsBound layout k handles
    → length handles ≡ length inputs
    → rows_after_invalid layout now handles rows ≡ inputs_invalid now k inputs rows
inputs-named layout now k [] [] rows h sized = refl
inputs-named layout now k [] (handle ∷ handles) rows h sized = absurd (omega (arith, sized))
inputs-named layout now k (input ∷ inputs) [] rows h sized = absurd (omega (arith, sized))
inputs-named layout now k (input ∷ inputs) (handle ∷ handles) rows h sized =
    ap (λ names. rows_after_invalid layout now handles (with_truth names false Invalid now rows))
    h.0.named
    ∙ inputs-named layout now (k + 1) inputs handles
    (with_truth (indication_names (k + 1)) false Invalid now rows) h.1 (omega (arith, sized))

-- ---- what is written by the handles of a device

module _ (inputs : List (List ℕ)) (switches : List Switch) (model : ModelRows) (now : ℕ)
    (old mid new : List Row) (bound : IsModelBound (layout_of old) inputs switches model)
    (same : layout_of mid ≡ layout_of old) where
  pub health-after : (lost : Bool)
      → mid ≡ with_health (status_names_in (layout_of old) model.health) lost now old
      → new ≡ with_health (status_names_in (layout_of mid) model.physical) lost now mid
      → new ≡ rows_after_health Two lost now old
  health-after lost first second =
      second ∙ ap (λ l. with_health (status_names_in l model.physical) lost now mid) same
      ∙ ap (λ names. with_health names lost now mid) bound.physical.named
      ∙ ap (with_health physical_health_names lost now)
      (first ∙ ap (λ names. with_health names lost now old) bound.health.named)

  locals-after : (input : Option ℕ) (value : Bool) (quality : Quality)
      → rows_after_locals (layout_of mid) input value quality now model.locals mid
      ≡ with_locals input value quality now inputs switches 0 switches mid
  locals-after input value quality =
      ap (λ l. rows_after_locals l input value quality now model.locals mid) same
      ∙ locals-named (layout_of old) inputs switches input value quality now 0 switches model.locals
      mid bound.locals

  pub input-after : (input : ℕ) (value : Bool) (handles : StatusRows)
      → handles ≡ get_or model.inputs input handles → input < length model.inputs
      → mid ≡ with_truth (status_names_in (layout_of old) handles) value Good now old
      → new ≡ rows_after_locals (layout_of mid) (Some input) (not value) Good now model.locals mid
      → new ≡ rows_after_input Two inputs switches input value now old
  input-after input value handles at lt first second =
      let none : 0 + input + 1 ≡ input + 1 = omega arith in
      let named : status_names_in (layout_of old) handles ≡ indication_names (input + 1) =
      ap (status_names_in (layout_of old)) at
      ∙ input-named (layout_of old) 0 model.inputs input handles bound.inputs_bound lt
      ∙ ap indication_names none in
      second ∙ locals-after (Some input) (not value) Good
      ∙ ap (with_locals (Some input) (not value) Good now inputs switches 0 switches)
      (first ∙ ap (λ names. with_truth names value Good now old) named)

  pub lost-after :
      mid ≡ rows_after_invalid (layout_of old) now model.inputs old
      → new ≡ rows_after_locals (layout_of mid) None true Invalid now model.locals mid
      → new ≡ rows_after_lost_inputs Two inputs switches now old
  lost-after first second =
      second ∙ locals-after None true Invalid
      ∙ ap (with_locals None true Invalid now inputs switches 0 switches)
      (first ∙ inputs-named (layout_of old) now 0 inputs model.inputs old bound.inputs_bound
      bound.inputs_sized)
