-- What events do to the rows that profile 2 adds leaves all other rows as they are: positions,
-- operation counts, controls, interlocking values and measured values.
use Rattle.std.proofs.Common.{◌≡◌, ◌≢◌, ℕ, ◌+◌, Bool, true, false, cond, not, List, [], ◌∷◌, ◌++◌, reverse, get_or, codes, Option, Some, None, refl, ap, sym, ◌∙◌, arith}
use Rattle.std.proofs.lemmas.List.{reverse-append}
use Rattle.bay_tree.specs.Rows.{leaf_named}
use Rattle.bay_tree.specs.declared.row.Row.{Row}
use Rattle.bay_tree.specs.declared.leaf.Leaf.{Leaf}
use Rattle.bay_tree.specs.declared.leaf.Leaf.TheVariants as leaf
use Rattle.bay_tree.specs.declared.leaf.Quality.{Quality}
use Rattle.bay_tree.specs.declared.leaf.Quality.TheVariants.{Good, Invalid}
use Rattle.bay_base.specs.declared.point.MeterField.{MeterField}
use Rattle.bay_base.specs.declared.point.MeterField.TheVariants.{TotW, TotVAr, Hz, PhaseA, PhaseB, PhaseC}
use Rattle.bay_base.specs.declared.switch.SwitchKind.{SwitchKind}
use Rattle.bay_base.specs.declared.switch.SwitchKind.TheVariants.{Breaker, Disconnector, Earthing}
use Rattle.bay_nodes.specs.Node.{class_of, node_name, node_number}
use Rattle.bay_nodes.specs.Names.{StatusNames, cilo_name, control_names, float_names, health_names, indication_names, local_names, meter_names, operation_names, physical_health_names, position_names}
use Rattle.bay_nodes.specs.declared.profile.Profile.{Profile}
use Rattle.bay_nodes.specs.declared.profile.Profile.TheVariants.{One, Two}
use Rattle.bay_nodes.specs.declared.switch.Switch.{Switch}
use Rattle.bay_control.specs.Decisions.{key_input}
use Rattle.bay_process.specs.Model.{health_number, inputs_invalid, is_int8, is_keyed_by, rows_after_health, rows_after_input, rows_after_lost_inputs, with_health, with_locals, with_truth}
use Rattle.bay_process.specs.Names.{field_float, field_names}
use Rattle.bay_process.specs.Values.{with_status}
use Rattle.bay_process.proofs.ToldLemmas.{Keeps, leaf-other}

-- ---- the values that change

-- a value of profile 2 that events change
pub data ModelValue : Type 0 where
  health : ModelValue
  physical_health : ModelValue
  local : SwitchKind → ℕ → ModelValue
  indication : ℕ → ModelValue

-- its names
abbrev pub model_names : ModelValue → StatusNames
model_names health = health_names
model_names physical_health = physical_health_names
model_names (local kind number) = local_names (node_name (class_of kind) number)
model_names (indication number) = indication_names number

-- ---- what each of them passes on, the events pass on

module _ (P : List Row → Type 0)
    (written : (which : ModelValue) (value : Leaf) (quality : Quality) (now : ℕ) (rows : List Row)
    → P rows → P (with_status (model_names which) value quality now rows)) where
  if-passes : (b : Bool) (x y : List Row) → P x → P y → P (cond b x y)
  if-passes true x y p q = p
  if-passes false x y p q = q

  one-health-passes : (which : ModelValue) (lost : Bool) (now : ℕ) (rows : List Row) → P rows
      → P (with_health (model_names which) lost now rows)
  one-health-passes which lost now rows p =
      if-passes (is_int8 (health_number lost) (leaf_named (model_names which).value rows)) rows
      (with_status (model_names which) (leaf.Int8 (health_number lost)) Good now rows) p
      (written which (leaf.Int8 (health_number lost)) Good now rows p)

  truth-passes : (which : ModelValue) (value : Bool) (quality : Quality) (now : ℕ)
      (rows : List Row) → P rows → P (with_truth (model_names which) value quality now rows)
  truth-passes which value quality now rows p =
      if-passes _ rows (with_status (model_names which) (leaf.Truth value) quality now rows) p
      (written which (leaf.Truth value) quality now rows p)

  pub health-passes : (profile : Profile) (lost : Bool) (now : ℕ) (rows : List Row) → P rows
      → P (rows_after_health profile lost now rows)
  health-passes One lost now rows p = p
  health-passes Two lost now rows p =
      one-health-passes physical_health lost now (with_health health_names lost now rows)
      (one-health-passes health lost now rows p)

  locals-pass : (input : Option ℕ) (value : Bool) (quality : Quality) (now : ℕ)
      (inputs : List (List ℕ)) (switches : List Switch) (k : ℕ) (ss : List Switch)
      (rows : List Row) → P rows
      → P (with_locals input value quality now inputs switches k ss rows)
  locals-pass input value quality now inputs switches k [] rows p = p
  locals-pass input value quality now inputs switches k (s ∷ ss) rows p =
      locals-pass input value quality now inputs switches (k + 1) ss _
      (if-passes (is_keyed_by input (key_input inputs s)) _ rows
      (truth-passes (local s.kind (node_number switches s k)) value quality now rows p) p)

  pub input-passes : (profile : Profile) (inputs : List (List ℕ)) (switches : List Switch)
      (input : ℕ) (value : Bool) (now : ℕ) (rows : List Row) → P rows
      → P (rows_after_input profile inputs switches input value now rows)
  input-passes One inputs switches input value now rows p = p
  input-passes Two inputs switches input value now rows p =
      locals-pass (Some input) (not value) Good now inputs switches 0 switches
      (with_truth (indication_names (input + 1)) value Good now rows)
      (truth-passes (indication (input + 1)) value Good now rows p)

  invalid-passes : (now k : ℕ) (inputs : List (List ℕ)) (rows : List Row) → P rows
      → P (inputs_invalid now k inputs rows)
  invalid-passes now k [] rows p = p
  invalid-passes now k (input ∷ inputs) rows p =
      invalid-passes now (k + 1) inputs
      (with_truth (indication_names (k + 1)) false Invalid now rows)
      (truth-passes (indication (k + 1)) false Invalid now rows p)

  pub lost-inputs-pass : (profile : Profile) (inputs : List (List ℕ)) (switches : List Switch)
      (now : ℕ) (rows : List Row) → P rows
      → P (rows_after_lost_inputs profile inputs switches now rows)
  lost-inputs-pass One inputs switches now rows p = p
  lost-inputs-pass Two inputs switches now rows p =
      locals-pass None true Invalid now inputs switches 0 switches
      (inputs_invalid now 0 inputs rows) (invalid-passes now 0 inputs rows p)

-- ---- names of other values

-- the name is none of a status value's
pub record IsApart (name : List ℕ) (names : StatusNames) : Type 0 where
  pub value_apart : name ≢ names.value
  pub quality_apart : name ≢ names.quality
  pub time_apart : name ≢ names.time

-- the name is of no value of profile 2 that events change
abbrev pub IsUnmodelled : List ℕ → Type 0
IsUnmodelled name = (which : ModelValue) → IsApart name (model_names which)

-- a name that begins with another letter
apart-first : (name : List ℕ) (names : StatusNames) (x : ℕ) → get_or names.value 0 0 ≡ x
    → get_or names.quality 0 0 ≡ x → get_or names.time 0 0 ≡ x → get_or name 0 0 ≢ x
    → IsApart name names
apart-first name names x value quality time other = record {
  value_apart = λ e. other (ap (λ n. get_or n 0 0) e ∙ value);
  quality_apart = λ e. other (ap (λ n. get_or n 0 0) e ∙ quality);
  time_apart = λ e. other (ap (λ n. get_or n 0 0) e ∙ time);
}

-- a name that begins with no letter of theirs: L, X or G
pub unmodelled-first : (name : List ℕ) → get_or name 0 0 ≢ 76 → get_or name 0 0 ≢ 88
    → get_or name 0 0 ≢ 71 → IsUnmodelled name
unmodelled-first name l x g health = apart-first name health_names 76 refl refl refl l
unmodelled-first name l x g physical_health =
    apart-first name physical_health_names 76 refl refl refl l
unmodelled-first name l x g (local Breaker number) =
    apart-first name (model_names (local Breaker number)) 88 refl refl refl x
unmodelled-first name l x g (local Disconnector number) =
    apart-first name (model_names (local Disconnector number)) 88 refl refl refl x
unmodelled-first name l x g (local Earthing number) =
    apart-first name (model_names (local Earthing number)) 88 refl refl refl x
unmodelled-first name l x g (indication number) =
    apart-first name (indication_names number) 71 refl refl refl g

-- a name of an interlocking node or a control
pub unmodelled-c : (name : List ℕ) → get_or name 0 0 ≡ 67 → IsUnmodelled name
unmodelled-c name is =
    unmodelled-first name (λ e. omega (arith, is, e)) (λ e. omega (arith, is, e))
    (λ e. omega (arith, is, e))

-- and of a meter
pub unmodelled-m : (name : List ℕ) → get_or name 0 0 ≡ 77 → IsUnmodelled name
unmodelled-m name is =
    unmodelled-first name (λ e. omega (arith, is, e)) (λ e. omega (arith, is, e))
    (λ e. omega (arith, is, e))

-- two names that differ behind their nodes, at a place counted from the end
apart-end : (n : ℕ) (a b s t : List ℕ) (x y : ℕ) → get_or (reverse s ++ reverse a) n 0 ≡ x
    → get_or (reverse t ++ reverse b) n 0 ≡ y → (x ≡ y → ⊥) → a ++ s ≢ b ++ t
apart-end n a b s t x y here there apart e =
    let turned : reverse s ++ reverse a ≡ reverse t ++ reverse b =
    sym (reverse-append a s) ∙ ap reverse e ∙ reverse-append b t in
    apart (sym here ∙ ap (λ l. get_or l n 0) turned ∙ there)

-- a name below XCBR or XSWI that is none of Loc's
abbrev pub IsNotLocal : List ℕ → Type 0
IsNotLocal t = (kind : SwitchKind) (number : ℕ) (node : List ℕ)
    → IsApart (node ++ t) (local_names (node_name (class_of kind) number))

-- it begins with X
switch-first : (kind : SwitchKind) (n : ℕ) (t : List ℕ)
    → get_or (node_name (class_of kind) n ++ t) 0 0 ≡ 88
switch-first Breaker n t = refl
switch-first Disconnector n t = refl
switch-first Earthing n t = refl

unmodelled-switch : (kind : SwitchKind) (n : ℕ) (t : List ℕ) → IsNotLocal t
    → IsUnmodelled (node_name (class_of kind) n ++ t)
unmodelled-switch kind n t other (local which number) =
    other which number (node_name (class_of kind) n)
unmodelled-switch kind n t other health =
    let first = switch-first kind n t in
    apart-first _ health_names 76 refl refl refl (λ e. omega (arith, first, e))
unmodelled-switch kind n t other physical_health =
    let first = switch-first kind n t in
    apart-first _ physical_health_names 76 refl refl refl (λ e. omega (arith, first, e))
unmodelled-switch kind n t other (indication number) =
    let first = switch-first kind n t in
    apart-first _ (indication_names number) 71 refl refl refl (λ e. omega (arith, first, e))

-- the value of another data object than Loc, its quality and its time; the place from the end is
-- that of the last letter of the object
value-not-local : (t : List ℕ) (x : ℕ) → ((node : List ℕ)
    → (get_or (reverse t ++ reverse node) 0 0 ≡ 108)
    × (get_or (reverse t ++ reverse node) 6 0 ≡ x)) → (x ≡ 99 → ⊥) → IsNotLocal t
value-not-local t x ends other kind number node =
    let own = node_name (class_of kind) number in
    record {
      value_apart = apart-end 6 node own t (codes "$ST$Loc$stVal") x 99 (ends node).1 refl other;
      quality_apart =
          apart-end 0 node own t (codes "$ST$Loc$q") 108 113 (ends node).0 refl
          (λ e. omega (arith, e));
      time_apart =
          apart-end 0 node own t (codes "$ST$Loc$t") 108 116 (ends node).0 refl
          (λ e. omega (arith, e));
    }

quality-not-local : (t : List ℕ) (x : ℕ) → ((node : List ℕ)
    → (get_or (reverse t ++ reverse node) 0 0 ≡ 113)
    × (get_or (reverse t ++ reverse node) 2 0 ≡ x)) → (x ≡ 99 → ⊥) → IsNotLocal t
quality-not-local t x ends other kind number node =
    let own = node_name (class_of kind) number in
    record {
      value_apart =
          apart-end 0 node own t (codes "$ST$Loc$stVal") 113 108 (ends node).0 refl
          (λ e. omega (arith, e));
      quality_apart = apart-end 2 node own t (codes "$ST$Loc$q") x 99 (ends node).1 refl other;
      time_apart =
          apart-end 0 node own t (codes "$ST$Loc$t") 113 116 (ends node).0 refl
          (λ e. omega (arith, e));
    }

time-not-local : (t : List ℕ) (x : ℕ) → ((node : List ℕ)
    → (get_or (reverse t ++ reverse node) 0 0 ≡ 116)
    × (get_or (reverse t ++ reverse node) 2 0 ≡ x)) → (x ≡ 99 → ⊥) → IsNotLocal t
time-not-local t x ends other kind number node =
    let own = node_name (class_of kind) number in
    record {
      value_apart =
          apart-end 0 node own t (codes "$ST$Loc$stVal") 116 108 (ends node).0 refl
          (λ e. omega (arith, e));
      quality_apart =
          apart-end 0 node own t (codes "$ST$Loc$q") 116 113 (ends node).0 refl
          (λ e. omega (arith, e));
      time_apart = apart-end 2 node own t (codes "$ST$Loc$t") x 99 (ends node).1 refl other;
    }

-- the value, the quality and the time of a status value are no names of profile 2's
pub record AreUnmodelled (names : StatusNames) : Type 0 where
  pub value_other : IsUnmodelled names.value
  pub quality_other : IsUnmodelled names.quality
  pub time_other : IsUnmodelled names.time

-- the position below XCBR and XSWI: its last letter is s, 115
pub unmodelled-position : (kind : SwitchKind) (n : ℕ)
    → AreUnmodelled (position_names (node_name (class_of kind) n))
unmodelled-position kind n = record {
  value_other =
      unmodelled-switch kind n (codes "$ST$Pos$stVal")
      (value-not-local _ 115 (λ node. (refl, refl)) (λ e. omega (arith, e)));
  quality_other =
      unmodelled-switch kind n (codes "$ST$Pos$q")
      (quality-not-local _ 115 (λ node. (refl, refl)) (λ e. omega (arith, e)));
  time_other =
      unmodelled-switch kind n (codes "$ST$Pos$t")
      (time-not-local _ 115 (λ node. (refl, refl)) (λ e. omega (arith, e)));
}

-- the operation count: its last letter is t, 116
pub unmodelled-operations : (kind : SwitchKind) (n : ℕ)
    → AreUnmodelled (operation_names (node_name (class_of kind) n))
unmodelled-operations kind n = record {
  value_other =
      unmodelled-switch kind n (codes "$ST$OpCnt$stVal")
      (value-not-local _ 116 (λ node. (refl, refl)) (λ e. omega (arith, e)));
  quality_other =
      unmodelled-switch kind n (codes "$ST$OpCnt$q")
      (quality-not-local _ 116 (λ node. (refl, refl)) (λ e. omega (arith, e)));
  time_other =
      unmodelled-switch kind n (codes "$ST$OpCnt$t")
      (time-not-local _ 116 (λ node. (refl, refl)) (λ e. omega (arith, e)));
}

-- what is below CILO and CSWI
pub unmodelled-interlocking : (k : ℕ) (t : List ℕ) → IsUnmodelled (cilo_name k ++ t)
unmodelled-interlocking k t = unmodelled-c (cilo_name k ++ t) refl

pub unmodelled-control : (n : ℕ) (t : List ℕ) → IsUnmodelled (node_name (codes "CSWI") n ++ t)
unmodelled-control n t = unmodelled-c (node_name (codes "CSWI") n ++ t) refl

pub unmodelled-control-position : (n : ℕ)
    → AreUnmodelled (position_names (node_name (codes "CSWI") n))
unmodelled-control-position n = record {
  value_other = unmodelled-control n _;
  quality_other = unmodelled-control n _;
  time_other = unmodelled-control n _;
}

pub unmodelled-selected : (k : ℕ) → IsUnmodelled (control_names k).selected
unmodelled-selected k = unmodelled-control (k + 1) _

-- and below MMXU
pub unmodelled-meter : (n : ℕ) (t : List ℕ) → IsUnmodelled (node_name (codes "MMXU") n ++ t)
unmodelled-meter n t = unmodelled-m (node_name (codes "MMXU") n ++ t) refl

meter-unmodelled : (n : ℕ) (value quality time : List ℕ)
    → AreUnmodelled (record {
      value = node_name (codes "MMXU") n ++ value;
      quality = node_name (codes "MMXU") n ++ quality;
      time = node_name (codes "MMXU") n ++ time;
    })
meter-unmodelled n value quality time = record {
  value_other = unmodelled-meter n value;
  quality_other = unmodelled-meter n quality;
  time_other = unmodelled-meter n time;
}

pub unmodelled-field : (field : MeterField) (k : ℕ)
    → AreUnmodelled (field_names field (meter_names k))
unmodelled-field TotW k = meter-unmodelled (k + 1) _ _ _
unmodelled-field TotVAr k = meter-unmodelled (k + 1) _ _ _
unmodelled-field Hz k = meter-unmodelled (k + 1) _ _ _
unmodelled-field PhaseA k = meter-unmodelled (k + 1) _ _ _
unmodelled-field PhaseB k = meter-unmodelled (k + 1) _ _ _
unmodelled-field PhaseC k = meter-unmodelled (k + 1) _ _ _

pub unmodelled-float : (field : MeterField) (k : ℕ)
    → IsUnmodelled (field_float field (float_names k))
unmodelled-float TotW k = unmodelled-meter (k + 1) _
unmodelled-float TotVAr k = unmodelled-meter (k + 1) _
unmodelled-float Hz k = unmodelled-meter (k + 1) _
unmodelled-float PhaseA k = unmodelled-meter (k + 1) _
unmodelled-float PhaseB k = unmodelled-meter (k + 1) _
unmodelled-float PhaseC k = unmodelled-meter (k + 1) _

-- ---- what stays

-- every name that is none of profile 2's changing values has the same value in both
abbrev pub KeepsOthers : List Row → List Row → Type 0
KeepsOthers rows new = (name : List ℕ) → IsUnmodelled name
    → leaf_named name new ≡ leaf_named name rows

pub same-keeps-others : (rows new : List Row) → new ≡ rows → KeepsOthers rows new
same-keeps-others rows new same name other = ap (leaf_named name) same

pub then-keeps-others : (rows mid new : List Row) → KeepsOthers rows mid → KeepsOthers mid new
    → KeepsOthers rows new
then-keeps-others rows mid new p q name other = q name other ∙ p name other

pub others-keep : (rows new : List Row) → KeepsOthers rows new → Keeps rows new
others-keep rows new p k s = p (cilo_name k ++ s) (unmodelled-interlocking k s)

status-keeps-others : (first : List Row) (which : ModelValue) (value : Leaf) (quality : Quality)
    (now : ℕ) (rows : List Row) → KeepsOthers first rows
    → KeepsOthers first (with_status (model_names which) value quality now rows)
status-keeps-others first which value quality now rows p name other =
    leaf-other _ name (model_names which).time _ (other which).time_apart
    ∙ leaf-other _ name (model_names which).quality _ (other which).quality_apart
    ∙ leaf-other rows name (model_names which).value _ (other which).value_apart
    ∙ p name other

pub health-keeps-others : (profile : Profile) (lost : Bool) (now : ℕ) (rows : List Row)
    → KeepsOthers rows (rows_after_health profile lost now rows)
health-keeps-others profile lost now rows =
    health-passes (KeepsOthers rows) (status-keeps-others rows) profile lost now rows
    (λ name other. refl)

pub input-keeps-others : (profile : Profile) (inputs : List (List ℕ)) (switches : List Switch)
    (input : ℕ) (value : Bool) (now : ℕ) (rows : List Row)
    → KeepsOthers rows (rows_after_input profile inputs switches input value now rows)
input-keeps-others profile inputs switches input value now rows =
    input-passes (KeepsOthers rows) (status-keeps-others rows) profile inputs switches input value
    now rows (λ name other. refl)

pub lost-inputs-keep-others : (profile : Profile) (inputs : List (List ℕ))
    (switches : List Switch) (now : ℕ) (rows : List Row)
    → KeepsOthers rows (rows_after_lost_inputs profile inputs switches now rows)
lost-inputs-keep-others profile inputs switches now rows =
    lost-inputs-pass (KeepsOthers rows) (status-keeps-others rows) profile inputs switches now rows
    (λ name other. refl)

-- the interlocking values stay
pub health-keeps : (profile : Profile) (lost : Bool) (now : ℕ) (rows : List Row)
    → Keeps rows (rows_after_health profile lost now rows)
health-keeps profile lost now rows =
    others-keep rows _ (health-keeps-others profile lost now rows)

pub input-keeps : (profile : Profile) (inputs : List (List ℕ)) (switches : List Switch)
    (input : ℕ) (value : Bool) (now : ℕ) (rows : List Row)
    → Keeps rows (rows_after_input profile inputs switches input value now rows)
input-keeps profile inputs switches input value now rows =
    others-keep rows _ (input-keeps-others profile inputs switches input value now rows)

pub lost-inputs-keep : (profile : Profile) (inputs : List (List ℕ)) (switches : List Switch)
    (now : ℕ) (rows : List Row)
    → Keeps rows (rows_after_lost_inputs profile inputs switches now rows)
lost-inputs-keep profile inputs switches now rows =
    others-keep rows _ (lost-inputs-keep-others profile inputs switches now rows)
