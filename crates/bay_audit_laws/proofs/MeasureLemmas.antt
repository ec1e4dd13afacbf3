-- The measured values of a device have 32 bits.
use Rattle.std.proofs.Common.{◌≡◌, ◌≢◌, ℕ, ℤ, pos, ◌+◌, ◌<◌, Bool, true, false, cond, List, [], ◌∷◌, ◌++◌, codes, length, find, get_or, slice_get, Option, Some, None, option_and_then, refl, ap, sym, subst, ◌∙◌, arith}
use Rattle.std.specs.Prelude.{int_lt}
use Rattle.std.specs.Str.{bytes_eq}
use Rattle.std.proofs.lemmas.Int.{ints}
use Rattle.std.proofs.lemmas.Option.{slice_get_within}
use Rattle.std.proofs.lemmas.Slice.Eq.{bytes_eq-Decides}
use Rattle.bay_base.specs.declared.point.MeterField.{MeterField}
use Rattle.bay_base.specs.declared.point.MeterField.TheVariants.{TotW, TotVAr, Hz, PhaseA, PhaseB, PhaseC}
use Rattle.bay_nodes.specs.Names.{StatusNames, meter_names, switch_names}
use Rattle.bay_nodes.specs.Node.{class_of, node_name, node_number}
use Rattle.bay_nodes.specs.declared.switch.Switch.{Switch}
use Rattle.bay_base.specs.declared.switch.SwitchKind.{SwitchKind}
use Rattle.bay_base.specs.declared.switch.SwitchKind.TheVariants.{Breaker, Disconnector, Earthing}
use Rattle.bay_process.specs.Names.{field_names}
use Rattle.bay_process.specs.Values.{is_operation, measure_leaf, number_of_leaf, rows_after_operation, position_quality, rows_after_change, rows_after_contact, rows_after_bad_measure, rows_after_measure, has_position, has_invalid_measure, has_measure, with_count, with_status, is_float}
use Rattle.bay_process.proofs.ModelLemmas.{KeepsOthers, lost-inputs-keep-others, unmodelled-field}
use Rattle.bay_process.proofs.ToldLemmas.{leaf-other}
use Rattle.bay_tree.specs.Rows.{leaf_named, with_leaf_named}
use Rattle.bay_base.specs.declared.position.Dbpos.{Dbpos}
use Rattle.bay_base.specs.declared.position.Dbpos.TheVariants.{Bad}
use Rattle.bay_tree.specs.declared.leaf.Leaf.{Leaf}
use Rattle.bay_tree.specs.declared.leaf.Leaf.TheVariants as leaf
use Rattle.bay_tree.specs.declared.leaf.Quality.{Quality}
use Rattle.bay_tree.specs.declared.leaf.Quality.TheVariants.{Good, Invalid}
use Rattle.bay_tree.specs.declared.row.Row.{Row}
use Rattle.bay_device.specs.Device.{State, device_after_loss}
use Rattle.bay_device.proofs.LostLemmas.{loss-passes}
use Rattle.bay_audit_laws.specs.Laws.{Has32Bits}

-- ---- one value

-- a number that stands there has 32 bits
abbrev pub Fits : Option Leaf → Type 0
Fits (Some (leaf.Int32 n)) = Has32Bits n
Fits o = Unit {0}

pub zero-fits : Has32Bits (pos 0)
zero-fits = record { least = omega (arith, ints); greatest = omega (arith, ints) }

pub fits-number : (o : Option Leaf) → Fits o → Has32Bits (number_of_leaf o)
fits-number (Some (leaf.Int32 n)) h = h
fits-number None h = zero-fits
fits-number (Some (leaf.Truth b)) h = zero-fits
fits-number (Some (leaf.Dbpos p)) h = zero-fits
fits-number (Some (leaf.Quality q)) h = zero-fits
fits-number (Some (leaf.Int8 n)) h = zero-fits
fits-number (Some (leaf.Unsigned8 n)) h = zero-fits
fits-number (Some (leaf.Unsigned32 n)) h = zero-fits
fits-number (Some (leaf.Float n)) h = zero-fits
fits-number (Some (leaf.Octets n)) h = zero-fits
fits-number (Some (leaf.Reference n)) h = zero-fits
fits-number (Some (leaf.Text n)) h = zero-fits
fits-number (Some (leaf.Utc n)) h = zero-fits

-- what has a name after it was written
own-if : (b : Bool) (r : Row) (rest : Option Row) (name : List ℕ) (value : Leaf)
    → bytes_eq r.name name ≡ b
    → Fits (Some value) → Fits (option_and_then (λ (q : Row). q.leaf) rest)
    → Fits (option_and_then (λ (q : Row). q.leaf)
    (cond (bytes_eq (cond b (record { name = r.name; leaf = Some value }) r).name name)
    (Some (cond b (record { name = r.name; leaf = Some value }) r)) rest))
own-if true r rest name value here fits below = rw here fits
own-if false r rest name value here fits below = rw here below

own-fits : (rows : List Row) (name : List ℕ) (value : Leaf) → Fits (Some value)
    → Fits (leaf_named name (with_leaf_named name value rows))
own-fits [] name value fits = tt
own-fits (r ∷ rows) name value fits =
    own-if (bytes_eq r.name name) r
    (find (λ q. bytes_eq q.name name) (with_leaf_named name value rows)) name value refl fits
    (own-fits rows name value fits)

written-if : (b : Bool) (rows : List Row) (name other : List ℕ) (value : Leaf)
    → bytes_eq name other ≡ b → Fits (Some value) → Fits (leaf_named name rows)
    → Fits (leaf_named name (with_leaf_named other value rows))
written-if true rows name other value same fits before =
    subst (λ n. Fits (leaf_named name (with_leaf_named n value rows)))
    ((bytes_eq-Decides name other).0 same) (own-fits rows name value fits)
written-if false rows name other value same fits before =
    subst Fits
    (sym (leaf-other rows name other value
    (λ is. let yes_same : bytes_eq name other ≡ true = (bytes_eq-Decides name other).1 is in
    let f : false ≡ true = sym same ∙ yes_same in cc))) before

written-fits : (rows : List Row) (name other : List ℕ) (value : Leaf) → Fits (Some value)
    → Fits (leaf_named name rows) → Fits (leaf_named name (with_leaf_named other value rows))
written-fits rows name other value fits before =
    written-if (bytes_eq name other) rows name other value refl fits before

-- ---- all of them

-- the measured values of so many meters have 32 bits
abbrev pub AllFit : ℕ → List Row → Type 0
AllFit count rows = (k : ℕ) (field : MeterField) → k < count
    → Fits (leaf_named (field_names field (meter_names k)).value rows)

module _ (count : ℕ) where
  if-fits : (b : Bool) (x y : List Row) → AllFit count x → AllFit count y
      → AllFit count (cond b x y)
  if-fits true x y p q = p
  if-fits false x y p q = q

  status-fits : (names : StatusNames) (value : Leaf) (q : Quality) (now : ℕ) (rows : List Row)
      → Fits (Some value) → AllFit count rows → AllFit count (with_status names value q now rows)
  status-fits names value q now rows fits all k field lt =
      written-fits _ _ names.time (leaf.Utc now) tt
      (written-fits _ _ names.quality (leaf.Quality q) tt
      (written-fits rows _ names.value value fits (all k field lt)))

  -- the count of operations stands elsewhere
  apart-first : (kind : SwitchKind) (n j : ℕ) (s t : List ℕ)
      → node_name (codes "MMXU") j ++ s ≢ node_name (class_of kind) n ++ t
  apart-first Breaker n j s t e = let first : 77 ≡ 88 = ap (λ l. get_or l 0 0) e in
      omega (arith, first)
  apart-first Disconnector n j s t e = let first : 77 ≡ 88 = ap (λ l. get_or l 0 0) e in
      omega (arith, first)
  apart-first Earthing n j s t e = let first : 77 ≡ 88 = ap (λ l. get_or l 0 0) e in
      omega (arith, first)

  apart-count : (switches : List Switch) (j : ℕ) (switch : Switch) (k : ℕ) (field : MeterField)
      → (field_names field (meter_names k)).value
      ≢ (switch_names switches j switch).operations.value
  apart-count switches j switch k TotW e =
      apart-first switch.kind (node_number switches switch j) (k + 1) _ _ e
  apart-count switches j switch k TotVAr e =
      apart-first switch.kind (node_number switches switch j) (k + 1) _ _ e
  apart-count switches j switch k Hz e =
      apart-first switch.kind (node_number switches switch j) (k + 1) _ _ e
  apart-count switches j switch k PhaseA e =
      apart-first switch.kind (node_number switches switch j) (k + 1) _ _ e
  apart-count switches j switch k PhaseB e =
      apart-first switch.kind (node_number switches switch j) (k + 1) _ _ e
  apart-count switches j switch k PhaseC e =
      apart-first switch.kind (node_number switches switch j) (k + 1) _ _ e

  counted-fits : (names : StatusNames) (o : Option Leaf) (now : ℕ) (rows : List Row)
      → ((k : ℕ) (field : MeterField) → (field_names field (meter_names k)).value ≢ names.value)
      → AllFit count rows → AllFit count (with_count names o now rows)
  counted-fits names (Some (leaf.Int32 n)) now rows apart all =
      if-fits (int_lt n (pos 2147483647)) _ rows
      (λ k field lt. written-fits _ _ names.time (leaf.Utc now) tt
      (subst Fits (sym (leaf-other rows _ names.value _ (apart k field))) (all k field lt))) all
  counted-fits names None now rows apart all = all
  counted-fits names (Some (leaf.Truth b)) now rows apart all = all
  counted-fits names (Some (leaf.Dbpos p)) now rows apart all = all
  counted-fits names (Some (leaf.Quality q)) now rows apart all = all
  counted-fits names (Some (leaf.Int8 n)) now rows apart all = all
  counted-fits names (Some (leaf.Unsigned8 n)) now rows apart all = all
  counted-fits names (Some (leaf.Unsigned32 n)) now rows apart all = all
  counted-fits names (Some (leaf.Float n)) now rows apart all = all
  counted-fits names (Some (leaf.Octets n)) now rows apart all = all
  counted-fits names (Some (leaf.Reference n)) now rows apart all = all
  counted-fits names (Some (leaf.Text n)) now rows apart all = all
  counted-fits names (Some (leaf.Utc n)) now rows apart all = all

  pub contact-fits : (switches : List Switch) (j : ℕ) (switch : Switch) (position : Dbpos) (now : ℕ)
      (rows : List Row) → AllFit count rows
      → AllFit count (rows_after_contact (switch_names switches j switch) position now rows)
  contact-fits switches j switch position now rows all =
      let names = switch_names switches j switch in
      let told =
      with_status names.position (leaf.Dbpos position) (position_quality position) now rows in
      let after =
      with_status names.control (leaf.Dbpos position) (position_quality position) now told in
      let both : AllFit count after =
      status-fits names.control _ _ now told tt (status-fits names.position _ _ now rows tt all) in
      if-fits (has_position names.position position rows) rows
      (rows_after_change names position now rows)
      all
      (if-fits (is_operation position (leaf_named names.position.value rows))
      (rows_after_operation names.operations now after) after
      (counted-fits names.operations (leaf_named names.operations.value after) now after
      (apart-count switches j switch) both) both)

  pub measure-fits : (names : StatusNames) (float : List ℕ) (value : ℤ) (now : ℕ)
      (rows : List Row) → Has32Bits value → AllFit count rows
      → AllFit count (rows_after_measure names float value now rows)
  measure-fits names float value now rows fits all =
      let told = with_status names (leaf.Int32 value) Good now rows in
      let status : AllFit count told =
      status-fits names (leaf.Int32 value) Good now rows fits all in
      if-fits (has_measure names value rows) rows _ all
      (if-fits (is_float (leaf_named float told)) _ told
      (λ k field lt. written-fits told _ float (leaf.Float value) tt (status k field lt)) status)

  pub doubt-fits : (names : StatusNames) (now : ℕ) (rows : List Row) → AllFit count rows
      → AllFit count (rows_after_bad_measure names now rows)
  doubt-fits names now rows all =
      if-fits (has_invalid_measure names rows) rows _ all
      (λ k field lt. written-fits _ _ names.time (leaf.Utc now) tt
      (written-fits rows _ names.quality (leaf.Quality Invalid) tt (all k field lt)))

  -- what leaves the other rows than those of profile 2
  pub others-fit : (rows new : List Row) → KeepsOthers rows new → AllFit count rows
      → AllFit count new
  others-fit rows new keeps all k field lt =
      subst Fits
      (sym (keeps (field_names field (meter_names k)).value (unmodelled-field field k).value_other))
      (all k field lt)

  pub lost-fits : (now : ℕ) (s : State) → AllFit count s.rows
      → AllFit count (device_after_loss now s).rows
  lost-fits now s all =
      loss-passes (λ t. AllFit count t.rows) now
      (λ k switch t p. contact-fits t.switches k switch Bad now t.rows p)
      (λ k field t p. doubt-fits (field_names field (meter_names k)) now t.rows p)
      (λ t p. others-fit t.rows _
      (lost-inputs-keep-others t.profile t.inputs t.switches now t.rows) p)
      (λ t p. p) s all

-- a measured value as a process has it
pub leaf-number : (meters : List (List ℕ)) (rows : List Row) → AllFit (length meters) rows → (k : ℕ)
    (field : MeterField) (o : Option (List ℕ)) → slice_get meters k ≡ o
    → Has32Bits (number_of_leaf (measure_leaf rows k field o))
leaf-number meters rows all k field None here = zero-fits
leaf-number meters rows all k field (Some id) here =
    fits-number (leaf_named (field_names field (meter_names k)).value rows)
    (all k field (slice_get_within meters k id here))
