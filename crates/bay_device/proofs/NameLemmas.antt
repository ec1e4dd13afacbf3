-- No event changes the names of a bay's variables.
use Rattle.std.proofs.Common.{◌≡◌, ◌+◌, ℕ, ℤ, Bool, true, false, cond, List, [], ◌∷◌, Option, Some, None, refl, ap₂, ◌∙◌}
use Rattle.std.specs.Prelude.{pos, int_lt, ◌+ℤ◌}
use Rattle.std.specs.Str.{bytes_eq}
use Rattle.bay_nodes.specs.Names.{StatusNames, SwitchNames, meter_names, switch_names}
use Rattle.bay_nodes.specs.declared.switch.Switch.{Switch}
use Rattle.bay_base.specs.declared.point.Source.{Source}
use Rattle.bay_base.specs.declared.point.SwitchPoint.TheVariants.{EnableOpen, EnableClose}
use Rattle.il_image.specs.declared.value.Value.{Value}
use Rattle.bay_tree.specs.Rows.{leaf_named, names_of, with_leaf_named}
use Rattle.bay_base.specs.declared.position.Dbpos.{Dbpos}
use Rattle.bay_base.specs.declared.position.Dbpos.TheVariants.{Bad}
use Rattle.bay_tree.specs.declared.leaf.Leaf.{Leaf}
use Rattle.bay_tree.specs.declared.leaf.Leaf.TheVariants as leaf
use Rattle.bay_tree.specs.declared.leaf.Quality.{Quality}
use Rattle.bay_tree.specs.declared.leaf.Quality.TheVariants.{Good, Invalid}
use Rattle.bay_tree.specs.declared.row.Row.{Row}
use Rattle.bay_nodes.specs.declared.profile.Profile.{Profile}
use Rattle.bay_process.specs.Model.{rows_after_health, rows_after_input, rows_after_lost_inputs}
use Rattle.bay_process.proofs.ModelLemmas.{ModelValue, model_names, health-passes, input-passes, lost-inputs-pass}
use Rattle.bay_process.specs.Names.{field_names}
use Rattle.bay_process.specs.Values.{with_count, is_operation, rows_after_operation, output_of, position_quality, rows_after_change, rows_after_contact, rows_after_bad_measure, rows_after_measure, has_position, has_invalid_measure, has_measure, with_enabled, with_output, with_outputs, with_status, is_float, with_float}
use Rattle.bay_mms_services.specs.ObservedEntries.{AreNamedAlike}
use Rattle.bay_mms_services.specs.Bay.{Bay}
use Rattle.bay_device.specs.Device.{State, bay_of, device_after_loss, with_health}
use Rattle.bay_device.proofs.LostLemmas.{loss-passes}

leaf-if : (b : Bool) (r : Row) (v : Leaf)
    → (cond b (let s : Row = record { name = r.name; leaf = Some v } in s) r).name ≡ r.name
leaf-if true r v = refl
leaf-if false r v = refl

leaf-names : (name : List ℕ) (v : Leaf) (rows : List Row)
    → names_of (with_leaf_named name v rows) ≡ names_of rows
leaf-names name v [] = refl
leaf-names name v (r ∷ rows) =
    ap₂ (λ (n : List ℕ) (ns : List (List ℕ)). n ∷ ns) (leaf-if (bytes_eq r.name name) r v)
    (leaf-names name v rows)

status-names : (names : StatusNames) (v : Leaf) (quality : Quality) (now : ℕ) (rows : List Row)
    → names_of (with_status names v quality now rows) ≡ names_of rows
status-names names v quality now rows =
    leaf-names names.time (leaf.Utc now)
    (with_leaf_named names.quality (leaf.Quality quality) (with_leaf_named names.value v rows))
    ∙ leaf-names names.quality (leaf.Quality quality) (with_leaf_named names.value v rows)
    ∙ leaf-names names.value v rows

names-if : (b : Bool) (old : List (List ℕ)) (xs ys : List Row) → names_of xs ≡ old
    → names_of ys ≡ old → names_of (cond b xs ys) ≡ old
names-if true old xs ys p q = p
names-if false old xs ys p q = q

counted-names : (names : StatusNames) (value : Option Leaf) (now : ℕ) (rows : List Row)
    → names_of (with_count names value now rows) ≡ names_of rows
counted-names names None now rows = refl
counted-names names (Some (leaf.Truth v)) now rows = refl
counted-names names (Some (leaf.Dbpos v)) now rows = refl
counted-names names (Some (leaf.Quality v)) now rows = refl
counted-names names (Some (leaf.Int8 v)) now rows = refl
counted-names names (Some (leaf.Int32 n)) now rows =
    names-if (int_lt n (pos 2147483647)) (names_of rows)
    (with_leaf_named names.time (leaf.Utc now)
    (with_leaf_named names.value (leaf.Int32 (n +ℤ pos 1)) rows)) rows
    (leaf-names names.time (leaf.Utc now)
    (with_leaf_named names.value (leaf.Int32 (n +ℤ pos 1)) rows)
    ∙ leaf-names names.value (leaf.Int32 (n +ℤ pos 1)) rows) refl
counted-names names (Some (leaf.Unsigned8 v)) now rows = refl
counted-names names (Some (leaf.Unsigned32 v)) now rows = refl
counted-names names (Some (leaf.Float v)) now rows = refl
counted-names names (Some (leaf.Octets v)) now rows = refl
counted-names names (Some (leaf.Reference v)) now rows = refl
counted-names names (Some (leaf.Text v)) now rows = refl
counted-names names (Some (leaf.Utc v)) now rows = refl

change-names : (names : SwitchNames) (position : Dbpos) (now : ℕ) (rows : List Row)
    → names_of (rows_after_change names position now rows) ≡ names_of rows
change-names names position now rows =
    let told : List Row =
    with_status names.position (leaf.Dbpos position) (position_quality position) now rows in
    let after : List Row =
    with_status names.control (leaf.Dbpos position) (position_quality position) now told in
    let same : names_of after ≡ names_of rows =
    status-names names.control (leaf.Dbpos position) (position_quality position) now told
    ∙ status-names names.position (leaf.Dbpos position) (position_quality position) now rows in
    names-if (is_operation position (leaf_named names.position.value rows)) (names_of rows)
    (rows_after_operation names.operations now after) after
    (counted-names names.operations (leaf_named names.operations.value after) now after ∙ same) same

pub contact-names : (names : SwitchNames) (position : Dbpos) (now : ℕ) (rows : List Row)
    → names_of (rows_after_contact names position now rows) ≡ names_of rows
contact-names names position now rows =
    names-if (has_position names.position position rows) (names_of rows) rows
    (rows_after_change names position now rows) refl (change-names names position now rows)

pub measure-names : (names : StatusNames) (float : List ℕ) (value : ℤ) (now : ℕ)
    (rows : List Row) → names_of (rows_after_measure names float value now rows) ≡ names_of rows
measure-names names float value now rows =
    let told = with_status names (leaf.Int32 value) Good now rows in
    let same : names_of told ≡ names_of rows = status-names names (leaf.Int32 value) Good now rows
    in
    names-if (has_measure names value rows) (names_of rows) rows (with_float float value told) refl
    (names-if (is_float (leaf_named float told)) (names_of rows)
    (with_leaf_named float (leaf.Float value) told) told
    (leaf-names float (leaf.Float value) told ∙ same) same)

pub doubt-names : (names : StatusNames) (now : ℕ) (rows : List Row)
    → names_of (rows_after_bad_measure names now rows) ≡ names_of rows
doubt-names names now rows =
    names-if (has_invalid_measure names rows) (names_of rows) rows _ refl
    (leaf-names names.time (leaf.Utc now)
    (with_leaf_named names.quality (leaf.Quality Invalid) rows)
    ∙ leaf-names names.quality (leaf.Quality Invalid) rows)

-- the names after a change of what profile 2 adds
model-names : (old : List (List ℕ)) (which : ModelValue) (value : Leaf) (quality : Quality)
    (now : ℕ) (rows : List Row) → names_of rows ≡ old
    → names_of (with_status (model_names which) value quality now rows) ≡ old
model-names old which value quality now rows same =
    status-names (model_names which) value quality now rows ∙ same

health-names : (profile : Profile) (lost : Bool) (now : ℕ) (rows : List Row)
    → names_of (rows_after_health profile lost now rows) ≡ names_of rows
health-names profile lost now rows =
    health-passes (λ new. names_of new ≡ names_of rows) (model-names (names_of rows)) profile lost
    now rows refl

pub input-names : (profile : Profile) (inputs : List (List ℕ)) (switches : List Switch)
    (input : ℕ) (value : Bool) (now : ℕ) (rows : List Row)
    → names_of (rows_after_input profile inputs switches input value now rows) ≡ names_of rows
input-names profile inputs switches input value now rows =
    input-passes (λ new. names_of new ≡ names_of rows) (model-names (names_of rows)) profile inputs
    switches input value now rows refl

lost-inputs-names : (profile : Profile) (inputs : List (List ℕ)) (switches : List Switch)
    (now : ℕ) (rows : List Row)
    → names_of (rows_after_lost_inputs profile inputs switches now rows) ≡ names_of rows
lost-inputs-names profile inputs switches now rows =
    lost-inputs-pass (λ new. names_of new ≡ names_of rows) (model-names (names_of rows)) profile
    inputs switches now rows refl

pub alike-health : (n : Bay) (now : ℕ) (s : State) → AreNamedAlike n (bay_of s)
    → AreNamedAlike n (bay_of (with_health now s))
alike-health n now s alike = record {
  domain = alike.domain;
  switches = alike.switches;
  names = health-names s.profile s.is_lost now s.rows ∙ alike.names;
}

-- nor does the loss of the process
pub alike-lost : (n : Bay) (now : ℕ) (s : State) → AreNamedAlike n (bay_of s)
    → AreNamedAlike n (bay_of (device_after_loss now s))
alike-lost n now s alike =
    loss-passes (λ t. AreNamedAlike n (bay_of t)) now
    (λ k switch t p. record {
      domain = p.domain;
      switches = p.switches;
      names = contact-names (switch_names t.switches k switch) Bad now t.rows ∙ p.names;
    })
    (λ k field t p. record {
      domain = p.domain;
      switches = p.switches;
      names = doubt-names (field_names field (meter_names k)) now t.rows ∙ p.names;
    })
    (λ t p. record {
      domain = p.domain;
      switches = p.switches;
      names = lost-inputs-names t.profile t.inputs t.switches now t.rows ∙ p.names;
    })
    (λ t p. record { domain = p.domain; switches = p.switches; names = p.names }) s alike

enabled-names : (names : StatusNames) (value : Bool) (now : ℕ) (rows : List Row)
    → names_of (with_enabled names value now rows) ≡ names_of rows
enabled-names names value now rows =
    names-if _ (names_of rows) rows (with_status names (leaf.Truth value) Good now rows) refl
    (status-names names (leaf.Truth value) Good now rows)

pub outputs-names : (switches : List Switch) (writes : List Source) (outputs : List Value)
    (now k : ℕ) (ss : List Switch) (rows : List Row)
    → names_of (with_outputs switches writes outputs now k ss rows) ≡ names_of rows
outputs-names switches writes outputs now k [] rows = refl
outputs-names switches writes outputs now k (s ∷ ss) rows =
    let names : SwitchNames = switch_names switches k s in
    let opens : Bool = output_of k EnableOpen writes outputs in
    let closes : Bool = output_of k EnableClose writes outputs in
    outputs-names switches writes outputs now (k + 1) ss (with_output names opens closes now rows)
    ∙ enabled-names names.ena_cls closes now (with_enabled names.ena_opn opens now rows)
    ∙ enabled-names names.ena_opn opens now rows
