-- What a contact and a scan leave of what the program reads.
use Rattle.std.proofs.Common.{◌≡◌, ◌≢◌, ◌⊎◌, inl, inr, ℕ, pos, int_lt, zero, suc, ◌+◌, ◌<◌, ◌≤◌, ◌^◌, Bool, true, false, not, cond, List, [], ◌∷◌, ◌++◌, length, filter, get_or, drop, take, codes, slice_get, Option, Some, None, option_map, refl, ap, sym, subst, ◌∙◌, arith}
use Rattle.std.proofs.lemmas.Bool.{cases_order}
use Rattle.std.proofs.lemmas.Option.{same_Some, slice_get-map, slice_get_within}
use Rattle.bay_tree.specs.Rows.{leaf_named}
use Rattle.bay_tree.specs.declared.row.Row.{Row}
use Rattle.bay_base.specs.declared.position.Dbpos.{Dbpos}
use Rattle.bay_tree.specs.declared.leaf.Leaf.{Leaf}
use Rattle.bay_tree.specs.declared.leaf.Leaf.TheVariants as leaf
use Rattle.bay_tree.specs.declared.leaf.Quality.{Quality}
use Rattle.bay_tree.specs.declared.leaf.Quality.TheVariants.{Good}
use Rattle.bay_nodes.specs.Names.{StatusNames, SwitchNames, closing_names_at, meter_names, switch_node, opening_names_at, switch_names}
use Rattle.bay_nodes.specs.Node.{class_of, is_breaker, is_in_group, node_name, node_number}
use Rattle.bay_nodes.specs.declared.switch.Switch.{Switch}
use Rattle.bay_base.specs.declared.switch.SwitchKind.{SwitchKind}
use Rattle.bay_base.specs.declared.switch.SwitchKind.TheVariants.{Breaker, Disconnector, Earthing}
use Rattle.bay_base.specs.declared.point.MeterField.{MeterField}
use Rattle.bay_base.specs.declared.point.MeterField.TheVariants.{TotW, TotVAr, Hz, PhaseA, PhaseB, PhaseC}
use Rattle.bay_base.specs.declared.point.SwitchPoint.{SwitchPoint}
use Rattle.bay_base.specs.declared.point.Source.{Source}
use Rattle.bay_base.specs.declared.point.Source.TheVariants as source
use Rattle.il_image.specs.declared.value.Value.{Value}
use Rattle.il_image.specs.declared.value.Value.TheVariants.{Long}
use Rattle.bay_process.specs.Layout.{AreBound, AreMetersBound, Layout, field_rows, layout_of, row_name_in, status_names_in, switch_names_in, switches_of}
use Rattle.bay_process.specs.Names.{field_names}
use Rattle.bay_process.specs.Scans.{source_value, rows_after_outputs, switch_value, meter_value}
use Rattle.bay_process.specs.ReportedRows.{AreEnabling, AreInterlocked}
use Rattle.bay_process.specs.Values.{is_operation, number_of_leaf, rows_after_operation, position_quality, position_value, rows_after_change, rows_after_contact, has_position, with_count, with_enabled, with_output, with_status}
use Rattle.bay_process.specs.declared.meter.BoundMeter.{BoundMeter}
use Rattle.bay_process.specs.declared.rows.SwitchRows.{SwitchRows}
use Rattle.bay_process.specs.declared.switch.BoundSwitch.{BoundSwitch}
use Rattle.bay_process.proofs.FieldLemmas.{field-named}
use Rattle.bay_process.proofs.ToldLemmas.{IsAway, away-position, field-away, leaf-other, same-node}

-- ---- one name's value

-- the name is none of a status value's
record IsOther (name : List ℕ) (names : StatusNames) : Type 0 where
  value : name ≢ names.value
  quality : name ≢ names.quality
  time : name ≢ names.time

module _ (name : List ℕ) (start : List Row) where
  -- its value is that of the first rows
  abbrev Stays : List Row → Type 0
  Stays rows = leaf_named name rows ≡ leaf_named name start

  stays-if : (b : Bool) (x y : List Row) → Stays x → Stays y → Stays (cond b x y)
  stays-if true x y p q = p
  stays-if false x y p q = q

  stays-status : (names : StatusNames) (value : Leaf) (q : Quality) (now : ℕ) (rows : List Row)
      → IsOther name names → Stays rows → Stays (with_status names value q now rows)
  stays-status names value q now rows other p =
      leaf-other _ name names.time _ other.time ∙ leaf-other _ name names.quality _ other.quality
      ∙ leaf-other rows name names.value _ other.value ∙ p

  stays-counted : (names : StatusNames) (o : Option Leaf) (now : ℕ) (rows : List Row)
      → IsOther name names → Stays rows → Stays (with_count names o now rows)
  stays-counted names (Some (leaf.Int32 n)) now rows other p =
      stays-if (int_lt n (pos 2147483647)) _ rows
      (leaf-other _ name names.time _ other.time ∙ leaf-other rows name names.value _ other.value
      ∙ p) p
  stays-counted names None now rows other p = p
  stays-counted names (Some (leaf.Truth b)) now rows other p = p
  stays-counted names (Some (leaf.Dbpos d)) now rows other p = p
  stays-counted names (Some (leaf.Quality q)) now rows other p = p
  stays-counted names (Some (leaf.Int8 n)) now rows other p = p
  stays-counted names (Some (leaf.Unsigned8 n)) now rows other p = p
  stays-counted names (Some (leaf.Unsigned32 n)) now rows other p = p
  stays-counted names (Some (leaf.Float n)) now rows other p = p
  stays-counted names (Some (leaf.Octets n)) now rows other p = p
  stays-counted names (Some (leaf.Reference n)) now rows other p = p
  stays-counted names (Some (leaf.Text n)) now rows other p = p
  stays-counted names (Some (leaf.Utc n)) now rows other p = p

  stays-contact : (names : SwitchNames) (position : Dbpos) (now : ℕ) → IsOther name names.position
      → IsOther name names.control → IsOther name names.operations
      → Stays (rows_after_contact names position now start)
  stays-contact names position now own control operations =
      let told =
      with_status names.position (leaf.Dbpos position) (position_quality position) now start in
      let after =
      with_status names.control (leaf.Dbpos position) (position_quality position) now told in
      let both : Stays after =
      stays-status names.control _ _ now told control
      (stays-status names.position _ _ now start own refl) in
      stays-if (has_position names.position position start) start
      (rows_after_change names position now start) refl
      (stays-if (is_operation position (leaf_named names.position.value start))
      (rows_after_operation names.operations now after) after
      (stays-counted names.operations (leaf_named names.operations.value after) now after operations
      both) both)

  -- ---- a scan writes interlocking values alone

  module _ (away : IsAway name) where
    stays-enabled : (names : StatusNames) (value : Bool) (now : ℕ) (rows : List Row)
        → IsOther name names → Stays rows → Stays (with_enabled names value now rows)
    stays-enabled names value now rows other p =
        stays-if _ rows (with_status names (leaf.Truth value) Good now rows) p
        (stays-status names (leaf.Truth value) Good now rows other p)

    away-opening : (k : ℕ) → IsOther name (opening_names_at k)
    away-opening k = record {
      value = λ e. away k _ (sym e);
      quality = λ e. away k _ (sym e);
      time = λ e. away k _ (sym e);
    }

    away-closing : (k : ℕ) → IsOther name (closing_names_at k)
    away-closing k = record {
      value = λ e. away k _ (sym e);
      quality = λ e. away k _ (sym e);
      time = λ e. away k _ (sym e);
    }

    stays-output : (layout : Layout) (k : ℕ) (own : SwitchRows) (opens closes : Bool) (now : ℕ)
        (rows : List Row) → AreEnabling layout k own → Stays rows
        → Stays (with_output (switch_names_in layout own) opens closes now rows)
    stays-output layout k own opens closes now rows named p =
        let first = with_enabled (status_names_in layout own.ena_opn) opens now rows in
        stays-enabled (status_names_in layout own.ena_cls) closes now first
        (subst (IsOther name) (sym named.closing) (away-closing k))
        (stays-enabled (status_names_in layout own.ena_opn) opens now rows
        (subst (IsOther name) (sym named.opening) (away-opening k)) p)

    stays-outputs : (layout : Layout) (outputs : List Value) (now k : ℕ)
        (bound : List BoundSwitch) (rows : List Row)
        → ((j : ℕ) (b : BoundSwitch) → slice_get bound j ≡ Some b
        → AreEnabling layout (k + j) b.rows)
        → Stays rows → Stays (rows_after_outputs layout bound outputs now rows)
    stays-outputs layout outputs now k [] rows all p = p
    stays-outputs layout outputs now k (b ∷ bs) rows all p =
        let none : k + 0 ≡ k = omega arith in
        stays-outputs layout outputs now (k + 1) bs _
        (λ j c h. let more : k + suc j ≡ k + 1 + j = omega arith in
        subst (λ m. AreEnabling layout m c.rows) more (all (suc j) c h))
        (stays-output layout k b.rows _ _ now rows
        (subst (λ m. AreEnabling layout m b.rows) none (all 0 b refl)) p)

-- ---- the nodes of two switches

is-own : (kind : SwitchKind) (s : Switch) → s.kind ≡ kind → is_in_group (is_breaker kind) s ≡ true
is-own Breaker s e = ap is_breaker e
is-own Disconnector s e = ap (λ (k : SwitchKind). not (is_breaker k)) e
is-own Earthing s e = ap (λ (k : SwitchKind). not (is_breaker k)) e

count-if : (b : Bool) (s : Switch) (xs : List Switch) → length xs ≤ length (cond b (s ∷ xs) xs)
count-if true s xs = omega arith
count-if false s xs = omega arith

more-counted : (p : Switch → Bool) (ss : List Switch) (j k : ℕ) (s : Switch) → j < k
    → slice_get ss j ≡ Some s → p s ≡ true
    → length (filter p (take j ss)) < length (filter p (take k ss))
more-counted p [] j k s l e own = absurd cc
more-counted p (x ∷ ss) j zero s l e own = absurd (omega (arith, l))
more-counted p (x ∷ ss) zero (suc k) s l e own =
    let here : p x ≡ true = ap p (same_Some x s e) ∙ own in
    rw here (omega arith)
more-counted p (x ∷ ss) (suc j) (suc k) s l e own =
    by-case (p x) (more-counted p ss j k s (omega (arith, l)) e own)
  where
    by-case : (b : Bool) → length (filter p (take j ss)) < length (filter p (take k ss))
        → length (cond b (x ∷ filter p (take j ss)) (filter p (take j ss)))
        < length (cond b (x ∷ filter p (take k ss)) (filter p (take k ss)))
    by-case true h = omega (arith, h)
    by-case false h = h

few-counted : (p : Switch → Bool) (ss : List Switch) (j : ℕ)
    → length (filter p (take j ss)) ≤ j
few-counted p [] zero = omega arith
few-counted p [] (suc j) = omega arith
few-counted p (x ∷ ss) zero = omega arith
few-counted p (x ∷ ss) (suc j) = by-case (p x) (few-counted p ss j)
  where
    by-case : (b : Bool) → length (filter p (take j ss)) ≤ j
        → length (cond b (x ∷ filter p (take j ss)) (filter p (take j ss))) ≤ suc j
    by-case true h = omega (arith, h)
    by-case false h = omega (arith, h)

-- nodes of one name have one class and one number
same-number : (n m : ℕ) (class s t : List ℕ) → n + 1 < 2 ^ 64 → m + 1 < 2 ^ 64
    → length class ≡ 4
    → node_name class (n + 1) ++ 36 ∷ s ≡ node_name class (m + 1) ++ 36 ∷ t → n ≡ m
same-number n m (a ∷ b ∷ c ∷ d ∷ []) s t few less four e =
    (same-node n m s t few less (ap (λ (xs : List ℕ). codes "CILO" ++ drop 4 xs) e)).0
same-number n m [] s t few less four e = absurd (omega (arith, four))
same-number n m (a ∷ []) s t few less four e = absurd (omega (arith, four))
same-number n m (a ∷ b ∷ []) s t few less four e = absurd (omega (arith, four))
same-number n m (a ∷ b ∷ c ∷ []) s t few less four e = absurd (omega (arith, four))
same-number n m (a ∷ b ∷ c ∷ d ∷ x ∷ xs) s t few less four e = absurd (omega (arith, four))

two-classes : (own other : SwitchKind) (n m : ℕ) (s t : List ℕ) → n + 1 < 2 ^ 64
    → m + 1 < 2 ^ 64
    → node_name (class_of own) (n + 1) ++ 36 ∷ s ≡ node_name (class_of other) (m + 1) ++ 36 ∷ t
    → (n ≡ m) × (is_breaker own ≡ is_breaker other)
two-classes Breaker Breaker n m s t few less e =
    (same-number n m (codes "XCBR") s t few less refl e, refl)
two-classes Disconnector Disconnector n m s t few less e =
    (same-number n m (codes "XSWI") s t few less refl e, refl)
two-classes Disconnector Earthing n m s t few less e =
    (same-number n m (codes "XSWI") s t few less refl e, refl)
two-classes Earthing Disconnector n m s t few less e =
    (same-number n m (codes "XSWI") s t few less refl e, refl)
two-classes Earthing Earthing n m s t few less e =
    (same-number n m (codes "XSWI") s t few less refl e, refl)
two-classes Breaker Disconnector n m s t few less e =
    let second : 67 ≡ 83 = ap (λ l. get_or l 1 0) e in absurd (omega (arith, second))
two-classes Breaker Earthing n m s t few less e =
    let second : 67 ≡ 83 = ap (λ l. get_or l 1 0) e in absurd (omega (arith, second))
two-classes Disconnector Breaker n m s t few less e =
    let second : 83 ≡ 67 = ap (λ l. get_or l 1 0) e in absurd (omega (arith, second))
two-classes Earthing Breaker n m s t few less e =
    let second : 83 ≡ 67 = ap (λ l. get_or l 1 0) e in absurd (omega (arith, second))

module _ (ss : List Switch) (few : length ss < 2 ^ 64) where
  counted-apart : (j k : ℕ) (s t : Switch) → (j < k) ⊎ (k < j) → slice_get ss j ≡ Some s
      → slice_get ss k ≡ Some t → is_breaker s.kind ≡ is_breaker t.kind
      → length (filter (is_in_group (is_breaker s.kind)) (take j ss))
      ≢ length (filter (is_in_group (is_breaker t.kind)) (take k ss))
  counted-apart j k s t (inl l) e f class same =
      let own : is_in_group (is_breaker s.kind) s ≡ true = is-own s.kind s refl in
      let more = more-counted (is_in_group (is_breaker s.kind)) ss j k s l e own in
      let other = ap (λ (b : Bool). length (filter (is_in_group b) (take k ss))) class in
      omega (arith, more, other, same)
  counted-apart j k s t (inr l) e f class same =
      let own : is_in_group (is_breaker t.kind) t ≡ true = is-own t.kind t refl in
      let more = more-counted (is_in_group (is_breaker t.kind)) ss k j t l f own in
      let other = ap (λ (b : Bool). length (filter (is_in_group b) (take j ss))) class in
      omega (arith, more, other, same)

  -- the rows below the nodes of two switches have other names
  nodes-apart : (j k : ℕ) (s t : Switch) → (j < k) ⊎ (k < j) → slice_get ss j ≡ Some s
      → slice_get ss k ≡ Some t → (x y : List ℕ)
      → switch_node ss j s ++ 36 ∷ x ≢ switch_node ss k t ++ 36 ∷ y
  nodes-apart j k s t apart e f x y same =
      let lt : j < length ss = slice_get_within ss j s e in
      let lt2 : k < length ss = slice_get_within ss k t f in
      let n = few-counted (is_in_group (is_breaker s.kind)) ss j in
      let m = few-counted (is_in_group (is_breaker t.kind)) ss k in
      let both = two-classes s.kind t.kind
      (length (filter (is_in_group (is_breaker s.kind)) (take j ss)))
      (length (filter (is_in_group (is_breaker t.kind)) (take k ss))) x y
      (omega (arith, lt, n, few)) (omega (arith, lt2, m, few)) same in
      counted-apart j k s t apart e f both.1 both.0

-- ---- names of other nodes

not-control : (kind : SwitchKind) (n m : ℕ) (s t : List ℕ)
    → node_name (class_of kind) n ++ s ≢ node_name (codes "CSWI") m ++ t
not-control Breaker n m s t e = let first : 88 ≡ 67 = ap (λ l. get_or l 0 0) e in
    omega (arith, first)
not-control Disconnector n m s t e = let first : 88 ≡ 67 = ap (λ l. get_or l 0 0) e in
    omega (arith, first)
not-control Earthing n m s t e = let first : 88 ≡ 67 = ap (λ l. get_or l 0 0) e in
    omega (arith, first)

not-position : (kind : SwitchKind) (n m : ℕ) (s t : List ℕ)
    → node_name (codes "MMXU") m ++ s ≢ node_name (class_of kind) n ++ t
not-position Breaker n m s t e = let first : 77 ≡ 88 = ap (λ l. get_or l 0 0) e in
    omega (arith, first)
not-position Disconnector n m s t e = let first : 77 ≡ 88 = ap (λ l. get_or l 0 0) e in
    omega (arith, first)
not-position Earthing n m s t e = let first : 77 ≡ 88 = ap (λ l. get_or l 0 0) e in
    omega (arith, first)

not-repeated : (n m : ℕ) (s t : List ℕ)
    → node_name (codes "MMXU") m ++ s ≢ node_name (codes "CSWI") n ++ t
not-repeated n m s t e = let first : 77 ≡ 67 = ap (λ l. get_or l 0 0) e in omega (arith, first)

-- a name below a node of a meter
meter-stays : (n : ℕ) (s : List ℕ) (ss : List Switch) (k : ℕ) (switch : Switch)
    (position : Dbpos) (now : ℕ) (rows : List Row)
    → leaf_named (node_name (codes "MMXU") n ++ s)
    (rows_after_contact (switch_names ss k switch) position now rows)
    ≡ leaf_named (node_name (codes "MMXU") n ++ s) rows
meter-stays n s ss k switch position now rows =
    let own : (t : List ℕ) → node_name (codes "MMXU") n ++ s ≢ switch_node ss k switch ++ t =
    not-position switch.kind (node_number ss switch k) n s in
    let name : List ℕ = node_name (codes "MMXU") n ++ s in
    stays-contact name rows (switch_names ss k switch) position now
    (record { value = own _; quality = own _; time = own _ })
    (record {
      value = not-repeated (k + 1) n s _;
      quality = not-repeated (k + 1) n s _;
      time = not-repeated (k + 1) n s _;
    })
    (record { value = own _; quality = own _; time = own _ })

field-stays : (j : ℕ) (field : MeterField) (ss : List Switch) (k : ℕ) (switch : Switch)
    (position : Dbpos) (now : ℕ) (rows : List Row)
    → leaf_named (field_names field (meter_names j)).value
    (rows_after_contact (switch_names ss k switch) position now rows)
    ≡ leaf_named (field_names field (meter_names j)).value rows
field-stays j TotW ss k switch position now rows =
    meter-stays (j + 1) _ ss k switch position now rows
field-stays j TotVAr ss k switch position now rows =
    meter-stays (j + 1) _ ss k switch position now rows
field-stays j Hz ss k switch position now rows =
    meter-stays (j + 1) _ ss k switch position now rows
field-stays j PhaseA ss k switch position now rows =
    meter-stays (j + 1) _ ss k switch position now rows
field-stays j PhaseB ss k switch position now rows =
    meter-stays (j + 1) _ ss k switch position now rows
field-stays j PhaseC ss k switch position now rows =
    meter-stays (j + 1) _ ss k switch position now rows

two-places : (j k : ℕ) → j ≢ k → (j < k) ⊎ (k < j)
two-places j k apart = elim (cases_order j k) [ inl e ↦ absurd (apart e) | inr a ↦ a ]

-- ---- what is read

-- what is read of a switch whose position stays, and of a meter whose field does
module _ (rows new : List Row) (layout : layout_of new ≡ layout_of rows)
    (switches : List BoundSwitch) (inputs : List Bool) (meters : List BoundMeter)
    (writes : List Source) (bound : AreBound (layout_of rows) writes switches)
    (metered : AreMetersBound (layout_of rows) meters) where
  abbrev ss : List Switch
  ss = switches_of switches

  pub switch-same : (k : ℕ) (point : SwitchPoint)
      → ((b : BoundSwitch) → slice_get switches k ≡ Some b
      → leaf_named (switch_node ss k b.switch ++ codes "$ST$Pos$stVal") new
      ≡ leaf_named (switch_node ss k b.switch ++ codes "$ST$Pos$stVal") rows)
      → source_value new switches inputs meters (source.Switch k point)
      ≡ source_value rows switches inputs meters (source.Switch k point)
  switch-same k point stays = of-switch (slice_get switches k) refl
    where
      of-switch : (o : Option BoundSwitch) → slice_get switches k ≡ o
          → switch_value new point o ≡ switch_value rows point o
      of-switch None here = refl
      of-switch (Some b) here =
          let named = ap (λ (n : SwitchNames). n.position.value) (bound k b here).named in
          ap (λ (l : Layout). position_value point
          (leaf_named (row_name_in l b.rows.position.value) new))
          layout
          ∙ ap (λ (n : List ℕ). position_value point (leaf_named n new)) named
          ∙ ap (position_value point) (stays b here)
          ∙ ap (λ (n : List ℕ). position_value point (leaf_named n rows)) (sym named)

  pub meter-same : (k : ℕ) (field : MeterField)
      → leaf_named (field_names field (meter_names k)).value new
      ≡ leaf_named (field_names field (meter_names k)).value rows
      → source_value new switches inputs meters (source.Meter k field)
      ≡ source_value rows switches inputs meters (source.Meter k field)
  meter-same k field stays = of-meter (slice_get meters k) refl
    where
      of-meter : (o : Option BoundMeter) → slice_get meters k ≡ o
          → meter_value new field o ≡ meter_value rows field o
      of-meter None here = refl
      of-meter (Some m) here =
          let named = ap (λ (n : StatusNames). n.value)
          (field-named (layout_of rows) m.rows field
          ∙ ap (field_names field) (metered k m here).named) in
          ap (λ (l : Layout). Long (number_of_leaf
          (leaf_named (row_name_in l (field_rows m.rows field).status.value) new))) layout
          ∙ ap (λ (n : List ℕ). Long (number_of_leaf (leaf_named n new))) named
          ∙ ap (λ (o : Option Leaf). Long (number_of_leaf o)) stays
          ∙ ap (λ (n : List ℕ). Long (number_of_leaf (leaf_named n rows))) (sym named)

  -- a scan leaves all that is read
  pub scan-same : (outputs : List Value) (now : ℕ) → AreInterlocked (layout_of rows) switches
      → new ≡ rows_after_outputs (layout_of rows) switches outputs now rows → (o : Source)
      → source_value new switches inputs meters o ≡ source_value rows switches inputs meters o
  scan-same outputs now named done o = of-source o
    where
      away-stays : (name : List ℕ) → IsAway name → leaf_named name new ≡ leaf_named name rows
      away-stays name away =
          ap (leaf_named name) done
          ∙ stays-outputs name rows away (layout_of rows) outputs now 0 switches rows
          (λ j b h. let none : j ≡ 0 + j = omega arith in
          subst (λ m. AreEnabling (layout_of rows) m b.rows) none (named j b h).named) refl

      of-source : (o : Source)
          → source_value new switches inputs meters o ≡ source_value rows switches inputs meters o
      of-source (source.Switch k point) =
          switch-same k point
          (λ b here. away-stays _ (away-position b.switch.kind (node_number ss b.switch k) _))
      of-source (source.Input k) = refl
      of-source (source.Meter k field) =
          meter-same k field (away-stays _ (field-away k field).value_away)

  -- a contact leaves all but what is read of its switch
  pub contact-same : (k : ℕ) (s : Switch) (position : Dbpos) (now : ℕ) → length ss < 2 ^ 64
      → slice_get ss k ≡ Some s
      → new ≡ rows_after_contact (switch_names ss k s) position now rows → (o : Source)
      → ((point : SwitchPoint) → o ≢ source.Switch k point)
      → source_value new switches inputs meters o ≡ source_value rows switches inputs meters o
  contact-same k s position now few is done o other = of-source o other
    where
      of-source : (o : Source) → ((point : SwitchPoint) → o ≢ source.Switch k point)
          → source_value new switches inputs meters o ≡ source_value rows switches inputs meters o
      of-source (source.Switch j point) other =
          switch-same j point (λ b here.
          let apart : (j < k) ⊎ (k < j) =
          two-places j k (λ e. other point (ap (λ (m : ℕ). source.Switch m point) e)) in
          let own : slice_get ss j ≡ Some b.switch =
          slice_get-map (λ (b : BoundSwitch). b.switch) switches j
          ∙ ap (λ o. option_map (λ (b : BoundSwitch). b.switch) o) here in
          let node : (x y : List ℕ)
          → switch_node ss j b.switch ++ 36 ∷ x ≢ switch_node ss k s ++ 36 ∷ y =
          nodes-apart ss few j k b.switch s apart own is in
          let control : (x y : List ℕ)
          → switch_node ss j b.switch ++ x ≢ node_name (codes "CSWI") (k + 1) ++ y =
          not-control b.switch.kind (node_number ss b.switch j) (k + 1) in
          let name : List ℕ = switch_node ss j b.switch ++ codes "$ST$Pos$stVal" in
          ap (leaf_named name) done
          ∙ stays-contact name rows (switch_names ss k s) position now
          (record { value = node _ _; quality = node _ _; time = node _ _ })
          (record { value = control _ _; quality = control _ _; time = control _ _ })
          (record { value = node _ _; quality = node _ _; time = node _ _ }))
      of-source (source.Input j) other = refl
      of-source (source.Meter j field) other =
          meter-same j field
          (ap (leaf_named (field_names field (meter_names j)).value) done
          ∙ field-stays j field ss k s position now rows)
