-- What is written to the rows of the process leaves those that show the selection.
use Rattle.std.proofs.Common.{◌≡◌, ℕ, suc, ℤ, pos, ◌+ℤ◌, int_lt, ◌+◌, Bool, true, false, cond, nat_eq, List, [], ◌∷◌, ◌++◌, codes, slice_get, Option, Some, None, refl, ap, sym, subst, ◌∙◌, arith}
use Rattle.std.specs.Str.{bytes_eq}
use Rattle.std.proofs.lemmas.Slice.Eq.{bytes_eq-Decides}
use Rattle.bay_tree.specs.Rows.{leaf_named, with_leaf_named}
use Rattle.bay_tree.specs.declared.row.Row.{Row}
use Rattle.bay_base.specs.declared.position.Dbpos.{Dbpos}
use Rattle.bay_tree.specs.declared.leaf.Leaf.{Leaf}
use Rattle.bay_tree.specs.declared.leaf.Leaf.TheVariants as leaf
use Rattle.bay_tree.specs.declared.leaf.Quality.{Quality}
use Rattle.bay_tree.specs.declared.leaf.Quality.TheVariants.{Good}
use Rattle.bay_nodes.specs.declared.switch.Switch.{Switch}
use Rattle.bay_nodes.specs.Names.{StatusNames, control_names, cswi_name, cilo_name, switch_node, opening_names_at, position_names, operation_names, opening_names, closing_names, switch_names, meter_names, total_names, phase_names, local_names, indication_names, float_names}
use Rattle.bay_nodes.specs.Node.{class_of, node_name}
use Rattle.bay_base.specs.declared.point.MeterField.{MeterField}
use Rattle.bay_base.specs.declared.point.MeterField.TheVariants.{TotW, TotVAr, Hz, PhaseA, PhaseB, PhaseC}
use Rattle.il_image.specs.declared.value.Value.{Value}
use Rattle.bay_process.specs.Layout.{Layout, status_names_in, switch_names_in}
use Rattle.bay_process.specs.Names.{field_float, field_names}
use Rattle.bay_process.specs.Scans.{rows_after_outputs}
use Rattle.bay_process.specs.ReportedRows.{AreEnabling, AreInterlocked}
use Rattle.bay_process.specs.declared.rows.SwitchRows.{SwitchRows}
use Rattle.bay_process.specs.declared.switch.BoundSwitch.{BoundSwitch}
use Rattle.bay_process.specs.Values.{with_count, is_operation, rows_after_operation, position_quality, rows_after_change, rows_after_contact, rows_after_bad_measure, rows_after_measure, has_position, has_invalid_measure, has_measure, with_enabled, with_output, with_status, is_float}
use Rattle.bay_nodes.specs.declared.profile.Profile.{Profile}
use Rattle.bay_process.specs.Model.{rows_after_health, rows_after_input, rows_after_lost_inputs}
use Rattle.bay_process.proofs.ModelLemmas.{ModelValue, health, physical_health, local, indication, model_names, health-passes, input-passes, lost-inputs-pass}
use Rattle.bay_mms_services.specs.Bay.{ShowNoSelection}
use Rattle.bay_mms_services.proofs.ShownLemmas.{shown-kept}

-- ---- names: that of a selection ends with a `d`

-- the last octet of a name, or this one where there is none
abbrev ending : ℕ → List ℕ → ℕ
ending d [] = d
ending d (x ∷ xs) = ending x xs

ending-behind : (d : ℕ) (node : List ℕ) (x : ℕ) (xs : List ℕ)
    → ending d (node ++ x ∷ xs) ≡ ending x xs
ending-behind d [] x xs = refl
ending-behind d (y ∷ node) x xs = ending-behind y node x xs

selected-ends : (k : ℕ) → ending 0 ((control_names k).selected) ≡ 100
selected-ends k = ending-behind 0 (cswi_name k) 36 _

-- a name that tells of no selection
abbrev pub IsApart : List ℕ → Type 0
IsApart name = (k : ℕ) → bytes_eq name ((control_names k).selected) ≡ false

apart-if : (b : Bool) (name : List ℕ) (k : ℕ) → bytes_eq name ((control_names k).selected) ≡ b
    → nat_eq (ending 0 name) 100 ≡ false → b ≡ false
apart-if false name k here ends = refl
apart-if true name k here ends =
    let same : name ≡ (control_names k).selected =
    (bytes_eq-Decides name ((control_names k).selected)).0 here in
    let last : ending 0 name ≡ 100 = ap (ending 0) same ∙ selected-ends k in
    let yes : nat_eq (ending 0 name) 100 ≡ true = ap (λ n. nat_eq n 100) last in
    absurd (cc)

apart-of : (node : List ℕ) (x : ℕ) (xs : List ℕ) → nat_eq (ending x xs) 100 ≡ false
    → IsApart (node ++ x ∷ xs)
apart-of node x xs ends k =
    apart-if (bytes_eq (node ++ x ∷ xs) ((control_names k).selected)) (node ++ x ∷ xs) k refl
    (ap (λ n. nat_eq n 100) (ending-behind 0 node x xs) ∙ ends)

-- the same behind an object
behind-apart : (node : List ℕ) (x : ℕ) (xs word : List ℕ) → nat_eq (ending 100 word) 100 ≡ false
    → IsApart (node ++ ((x ∷ xs) ++ word))
behind-apart node x xs [] ends = absurd (cc)
behind-apart node x xs (y ∷ ys) ends =
    apart-of node x (xs ++ y ∷ ys) (ap (λ n. nat_eq n 100) (ending-behind x xs y ys) ∙ ends)

-- ---- what is written there

pub record AreApart (names : StatusNames) : Type 0 where
  pub value_apart : IsApart names.value
  pub quality_apart : IsApart names.quality
  pub time_apart : IsApart names.time

position-apart : (node : List ℕ) → AreApart (position_names node)
position-apart node =
    record {
      value_apart = apart-of node 36 _ refl;
      quality_apart = apart-of node 36 _ refl;
      time_apart = apart-of node 36 _ refl;
    }

operation-apart : (node : List ℕ) → AreApart (operation_names node)
operation-apart node =
    record {
      value_apart = apart-of node 36 _ refl;
      quality_apart = apart-of node 36 _ refl;
      time_apart = apart-of node 36 _ refl;
    }

opening-apart : (node : List ℕ) → AreApart (opening_names node)
opening-apart node =
    record {
      value_apart = apart-of node 36 _ refl;
      quality_apart = apart-of node 36 _ refl;
      time_apart = apart-of node 36 _ refl;
    }

closing-apart : (node : List ℕ) → AreApart (closing_names node)
closing-apart node =
    record {
      value_apart = apart-of node 36 _ refl;
      quality_apart = apart-of node 36 _ refl;
      time_apart = apart-of node 36 _ refl;
    }

total-apart : (node : List ℕ) (object : List ℕ) → AreApart (total_names node (36 ∷ object))
total-apart node object =
    record {
      value_apart = behind-apart node 36 object (codes "$mag$i") refl;
      quality_apart = behind-apart node 36 object (codes "$q") refl;
      time_apart = behind-apart node 36 object (codes "$t") refl;
    }

phase-apart : (node : List ℕ) (object : List ℕ) → AreApart (phase_names node (36 ∷ object))
phase-apart node object =
    record {
      value_apart = behind-apart node 36 object (codes "$cVal$mag$i") refl;
      quality_apart = behind-apart node 36 object (codes "$q") refl;
      time_apart = behind-apart node 36 object (codes "$t") refl;
    }

abbrev meter_node : ℕ → List ℕ
meter_node k = node_name (codes "MMXU") (k + 1)

pub field-apart : (k : ℕ) (field : MeterField) → AreApart (field_names field (meter_names k))
field-apart k TotW = total-apart (meter_node k) (codes "MX$TotW")
field-apart k TotVAr = total-apart (meter_node k) (codes "MX$TotVAr")
field-apart k Hz = total-apart (meter_node k) (codes "MX$Hz")
field-apart k PhaseA = phase-apart (meter_node k) (codes "MX$A$phsA")
field-apart k PhaseB = phase-apart (meter_node k) (codes "MX$A$phsB")
field-apart k PhaseC = phase-apart (meter_node k) (codes "MX$A$phsC")

pub float-apart : (k : ℕ) (field : MeterField)
    → IsApart (field_float field (float_names k))
float-apart k TotW = apart-of (meter_node k) 36 (codes "MX$TotW$mag$f") refl
float-apart k TotVAr = apart-of (meter_node k) 36 (codes "MX$TotVAr$mag$f") refl
float-apart k Hz = apart-of (meter_node k) 36 (codes "MX$Hz$mag$f") refl
float-apart k PhaseA = apart-of (meter_node k) 36 (codes "MX$A$phsA$cVal$mag$f") refl
float-apart k PhaseB = apart-of (meter_node k) 36 (codes "MX$A$phsB$cVal$mag$f") refl
float-apart k PhaseC = apart-of (meter_node k) 36 (codes "MX$A$phsC$cVal$mag$f") refl

local-apart : (node : List ℕ) → AreApart (local_names node)
local-apart node =
    record {
      value_apart = apart-of node 36 _ refl;
      quality_apart = apart-of node 36 _ refl;
      time_apart = apart-of node 36 _ refl;
    }

-- the names of an input, by the digits of its number
indication-apart : (number : ℕ) → AreApart (indication_names number)
indication-apart number =
    record {
      value_apart = apart-of (node_name (codes "GGIO1$ST$Ind") number) 36 (codes "stVal") refl;
      quality_apart = apart-of (node_name (codes "GGIO1$ST$Ind") number) 36 (codes "q") refl;
      time_apart = apart-of (node_name (codes "GGIO1$ST$Ind") number) 36 (codes "t") refl;
    }

model-apart : (which : ModelValue) → AreApart (model_names which)
model-apart health =
    record {
      value_apart = apart-of (codes "LLN0") 36 (codes "ST$Health$stVal") refl;
      quality_apart = apart-of (codes "LLN0") 36 (codes "ST$Health$q") refl;
      time_apart = apart-of (codes "LLN0") 36 (codes "ST$Health$t") refl;
    }
model-apart physical_health =
    record {
      value_apart = apart-of (codes "LPHD1") 36 (codes "ST$PhyHealth$stVal") refl;
      quality_apart = apart-of (codes "LPHD1") 36 (codes "ST$PhyHealth$q") refl;
      time_apart = apart-of (codes "LPHD1") 36 (codes "ST$PhyHealth$t") refl;
    }
model-apart (local kind number) = local-apart (node_name (class_of kind) number)
model-apart (indication number) = indication-apart number

-- the rows go on showing no selection
module _ (count : ℕ) where
  abbrev pub Shows : List Row → Type 0
  Shows rows = ShowNoSelection count rows

  shows-if : (b : Bool) (x y : List Row) → Shows x → Shows y → Shows (cond b x y)
  shows-if true x y p q = p
  shows-if false x y p q = q

  shows-status : (names : StatusNames) (value : Leaf) (q : Quality) (now : ℕ) (rows : List Row)
      → AreApart names → Shows rows → Shows (with_status names value q now rows)
  shows-status names value q now rows apart shows =
      shown-kept count _ names.time _ apart.time_apart
      (shown-kept count _ names.quality _ apart.quality_apart
      (shown-kept count rows names.value _ apart.value_apart shows))

  shows-counted : (names : StatusNames) (o : Option Leaf) (now : ℕ) (rows : List Row)
      → AreApart names → Shows rows → Shows (with_count names o now rows)
  shows-counted names (Some (leaf.Int32 n)) now rows apart shows =
      shows-if (int_lt n (pos 2147483647))
      (with_leaf_named names.time (leaf.Utc now)
      (with_leaf_named names.value (leaf.Int32 (n +ℤ pos 1)) rows)) rows
      (shown-kept count _ names.time _ apart.time_apart
      (shown-kept count rows names.value _ apart.value_apart shows)) shows
  shows-counted names None now rows apart shows = shows
  shows-counted names (Some (leaf.Truth b)) now rows apart shows = shows
  shows-counted names (Some (leaf.Dbpos p)) now rows apart shows = shows
  shows-counted names (Some (leaf.Quality q)) now rows apart shows = shows
  shows-counted names (Some (leaf.Int8 n)) now rows apart shows = shows
  shows-counted names (Some (leaf.Unsigned8 n)) now rows apart shows = shows
  shows-counted names (Some (leaf.Unsigned32 n)) now rows apart shows = shows
  shows-counted names (Some (leaf.Float n)) now rows apart shows = shows
  shows-counted names (Some (leaf.Octets n)) now rows apart shows = shows
  shows-counted names (Some (leaf.Reference n)) now rows apart shows = shows
  shows-counted names (Some (leaf.Text n)) now rows apart shows = shows
  shows-counted names (Some (leaf.Utc n)) now rows apart shows = shows

  pub shows-contact : (switches : List Switch) (j : ℕ) (switch : Switch) (position : Dbpos)
      (now : ℕ) (rows : List Row) → Shows rows
      → Shows (rows_after_contact (switch_names switches j switch) position now rows)
  shows-contact switches j switch position now rows shows =
      let names = switch_names switches j switch in
      let told =
      with_status names.position (leaf.Dbpos position) (position_quality position) now rows in
      let after =
      with_status names.control (leaf.Dbpos position) (position_quality position) now told in
      let both : Shows after =
      shows-status names.control _ _ now told (position-apart (cswi_name j))
      (shows-status names.position _ _ now rows (position-apart (switch_node switches j switch))
      shows) in
      let with_count = rows_after_operation names.operations now after in
      shows-if (has_position names.position position rows) rows
      (rows_after_change names position now rows)
      shows
      (shows-if (is_operation position (leaf_named names.position.value rows)) with_count after
      (shows-counted names.operations (leaf_named names.operations.value after) now after
      (operation-apart (switch_node switches j switch)) both) both)

  pub shows-measure : (k : ℕ) (field : MeterField) (value : ℤ) (now : ℕ) (rows : List Row)
      → Shows rows
      → Shows (rows_after_measure (field_names field (meter_names k))
      (field_float field (float_names k)) value now rows)
  shows-measure k field value now rows shows =
      let names = field_names field (meter_names k) in
      let float = field_float field (float_names k) in
      let told = with_status names (leaf.Int32 value) Good now rows in
      let status : Shows told =
      shows-status names (leaf.Int32 value) Good now rows (field-apart k field) shows in
      shows-if (has_measure names value rows) rows _ shows
      (shows-if (is_float (leaf_named float told)) _ told
      (shown-kept count told float _ (float-apart k field) status) status)

  pub shows-doubt : (k : ℕ) (field : MeterField) (now : ℕ) (rows : List Row) → Shows rows
      → Shows (rows_after_bad_measure (field_names field (meter_names k)) now rows)
  shows-doubt k field now rows shows =
      let names = field_names field (meter_names k) in
      let apart = field-apart k field in
      shows-if (has_invalid_measure names rows) rows _ shows
      (shown-kept count _ names.time _ apart.time_apart
      (shown-kept count rows names.quality _ apart.quality_apart shows))

  shows-enabled : (names : StatusNames) (value : Bool) (now : ℕ) (rows : List Row) → AreApart names
      → Shows rows → Shows (with_enabled names value now rows)
  shows-enabled names value now rows apart shows =
      shows-if _ rows (with_status names (leaf.Truth value) Good now rows) shows
      (shows-status names (leaf.Truth value) Good now rows apart shows)

  -- both interlocking values of a switch, at handles that have its names
  shows-output : (layout : Layout) (k : ℕ) (own : SwitchRows) (opens closes : Bool) (now : ℕ)
      (rows : List Row) → AreEnabling layout k own → Shows rows
      → Shows (with_output (switch_names_in layout own) opens closes now rows)
  shows-output layout k own opens closes now rows named shows =
      subst (λ (o : StatusNames). Shows
      (with_enabled (status_names_in layout own.ena_cls) closes now
      (with_enabled o opens now rows)))
      (sym named.opening)
      (subst (λ (o : StatusNames). Shows
      (with_enabled o closes now (with_enabled (opening_names_at k) opens now rows)))
      (sym named.closing)
      (shows-enabled (closing_names (cilo_name k)) closes now _
      (closing-apart (cilo_name k))
      (shows-enabled (opening_names (cilo_name k)) opens now rows
      (opening-apart (cilo_name k)) shows)))

  shows-outputs : (layout : Layout) (outputs : List Value) (now k : ℕ) (bound : List BoundSwitch)
      (rows : List Row)
      → ((j : ℕ) (b : BoundSwitch) → slice_get bound j ≡ Some b → AreEnabling layout (k + j) b.rows)
      → Shows rows → Shows (rows_after_outputs layout bound outputs now rows)
  shows-outputs layout outputs now k [] rows all shows = shows
  shows-outputs layout outputs now k (b ∷ bs) rows all shows =
      let none : k + 0 ≡ k = omega arith in
      shows-outputs layout outputs now (k + 1) bs _
      (λ j c h. let more : k + suc j ≡ k + 1 + j = omega arith in
      subst (λ m. AreEnabling layout m c.rows) more (all (suc j) c h))
      (shows-output layout k b.rows _ _ now rows
      (subst (λ m. AreEnabling layout m b.rows) none (all 0 b refl)) shows)

  pub shows-scan : (layout : Layout) (outputs : List Value) (now : ℕ) (bound : List BoundSwitch)
      (rows : List Row) → AreInterlocked layout bound → Shows rows
      → Shows (rows_after_outputs layout bound outputs now rows)
  shows-scan layout outputs now bound rows all shows =
      shows-outputs layout outputs now 0 bound rows
      (λ j b h. let none : j ≡ 0 + j = omega arith in
      subst (λ m. AreEnabling layout m b.rows) none (all j b h).named) shows

  shows-model : (which : ModelValue) (value : Leaf) (quality : Quality) (now : ℕ)
      (rows : List Row) → Shows rows
      → Shows (with_status (model_names which) value quality now rows)
  shows-model which value quality now rows shows =
      shows-status (model_names which) value quality now rows (model-apart which) shows

  pub shows-health : (profile : Profile) (lost : Bool) (now : ℕ) (rows : List Row) → Shows rows
      → Shows (rows_after_health profile lost now rows)
  shows-health = health-passes Shows shows-model

  pub shows-input : (profile : Profile) (inputs : List (List ℕ)) (switches : List Switch)
      (input : ℕ) (value : Bool) (now : ℕ) (rows : List Row) → Shows rows
      → Shows (rows_after_input profile inputs switches input value now rows)
  shows-input = input-passes Shows shows-model

  pub shows-lost-inputs : (profile : Profile) (inputs : List (List ℕ)) (switches : List Switch)
      (now : ℕ) (rows : List Row) → Shows rows
      → Shows (rows_after_lost_inputs profile inputs switches now rows)
  shows-lost-inputs = lost-inputs-pass Shows shows-model
