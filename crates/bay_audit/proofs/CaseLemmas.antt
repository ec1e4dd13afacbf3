-- What a case leaves open has each process of the case.
use Rattle.std.proofs.Common.{◌≡◌, ℕ, zero, suc, ◌<◌, ℤ, pos, negsuc, ◌+ℤ◌, Bool, true, false, not, ◌&&◌, ◌||◌, cond, nat_eq, List, [], ◌∷◌, ◌++◌, length, map, Some, refl, ap, sym, ◌∙◌, arith}
use Rattle.std.specs.Prelude.{◌≤ℤ◌, int_le, fold}
use Rattle.std.specs.Bool.{beq}
use Rattle.std.specs.List.{list_all}
use Rattle.std.proofs.lemmas.Bool.{and_from, and_parts, not-true}
use Rattle.std.proofs.lemmas.Bool.Decides.{nat_tests}
use Rattle.std.proofs.lemmas.Int.{ints}
use Rattle.std.proofs.lemmas.List.Folds.{list_all-append}
use Rattle.bay_base.specs.declared.point.MeterField.{MeterField}
use Rattle.bay_base.specs.declared.point.MeterField.TheVariants.{TotW, TotVAr, Hz, PhaseA, PhaseB, PhaseC}
use Rattle.bay_base.specs.declared.point.Source.{Source}
use Rattle.bay_base.specs.declared.point.Source.TheVariants as source
use Rattle.bay_base.specs.declared.point.SwitchPoint.{SwitchPoint}
use Rattle.bay_base.specs.declared.point.SwitchPoint.TheVariants.{Position, Open, Closed, EnableOpen, EnableClose}
use Rattle.bay_config.specs.declared.bay.Bay.{Bay}
use Rattle.bay_process.specs.Values.{position_value}
use Rattle.bay_base.specs.Positions.{same_position}
use Rattle.bay_audit_rules.specs.Process.{Process}
use Rattle.bay_base.specs.declared.position.Dbpos.{Dbpos}
use Rattle.bay_base.specs.declared.position.Dbpos.TheVariants.{Intermediate, Off, On, Bad}
use Rattle.bay_tree.specs.declared.leaf.Leaf.TheVariants as leaf
use Rattle.il_image.specs.declared.value.Value.TheVariants.{Truth}
use Rattle.il_range.specs.Ranges.{AreIn, IsIn, Setting, has_position}
use Rattle.il_range.specs.declared.range.Positions.{Positions}
use Rattle.il_range.proofs.RangeLemmas.{in-among}
use Rattle.bay_audit.specs.Cases.{allows_position, answer_of, bad_positions, example_of, false_inputs, allows_input, high_after, high_by, high_of, input_may, is_in, is_of_field, lost_case, low_after, low_by, low_of, lesser_int, may_be, meets, position_range, greater_int, first_position, has_at, only, distinguished_positions, range_of, same_field, test_allows_position, test_allows_input, truth_range}
use Rattle.bay_audit.specs.Process.{IsLost, IsProcess, process_value}
use Rattle.bay_audit.specs.declared.case.TestAnswer.{TestAnswer}
use Rattle.bay_audit.specs.declared.case.Test.{Test}
use Rattle.bay_audit.specs.declared.case.Test.TheVariants as test

-- ---- fields and truth values

same-le : (z : ℤ) → z ≤ℤ z
same-le z = omega (arith, ints)

same-field : (a b : MeterField) → same_field a b ≡ true → a ≡ b
same-field TotW TotW h = refl
same-field TotVAr TotVAr h = refl
same-field Hz Hz h = refl
same-field PhaseA PhaseA h = refl
same-field PhaseB PhaseB h = refl
same-field PhaseC PhaseC h = refl
same-field a b h = absurd cc

same-place : (j k : ℕ) → nat_eq j k ≡ true → j ≡ k
same-place j k h = grind (arith, nat_tests)

no-answer : (b : Bool) → beq b false ≡ true → b ≡ false
no-answer true h = absurd cc
no-answer false h = refl

yes-answer : (b : Bool) → beq b true ≡ true → b ≡ true
yes-answer true h = refl
yes-answer false h = absurd cc

pub or-first : (x y z : Bool) → x ≡ true → (x || y || z) ≡ true
or-first true y z h = refl
or-first false y z h = absurd cc

pub or-second : (x y z : Bool) → y ≡ true → (x || y || z) ≡ true
or-second true true z h = refl
or-second false true z h = refl
or-second x false z h = absurd cc

pub or-third : (x y z : Bool) → z ≡ true → (x || y || z) ≡ true
or-third true true true h = refl
or-third true false true h = refl
or-third false true true h = refl
or-third false false true h = refl
or-third x y false h = absurd cc

module _ (p : Process) where
  -- ---- lists of literals

  all-pass : (f : TestAnswer → Bool) → ((l : TestAnswer) → meets p l ≡ true → f l ≡ true)
      → (case : List TestAnswer) → is_in case p ≡ true → list_all f case ≡ true
  all-pass f each [] h = refl
  all-pass f each (l ∷ case) h =
      let parts = and_parts (meets p l) (is_in case p) h in
      and_from (f l) (list_all f case) (each l parts.0) (all-pass f each case parts.1)

  -- ---- positions and inputs

  position-if : (b : Bool) (j k : ℕ) (s : Positions) (value : Bool) → nat_eq j k ≡ b
      → beq (has_position s (p.position j)) value ≡ true
      → (not b || beq (has_position s (p.position k)) value) ≡ true
  position-if false j k s value e h = refl
  position-if true j k s value e h =
      ap (λ n. beq (has_position s (p.position n)) value) (sym (same-place j k e)) ∙ h

  position-allowed : (k : ℕ) (t : Test) (value : Bool) → beq (answer_of p t) value ≡ true
      → test_allows_position k (p.position k) value t ≡ true
  position-allowed k (test.Position j s) value h =
      position-if (nat_eq j k) j k s value refl h
  position-allowed k (test.Input j) value h = refl
  position-allowed k (test.AtMost j field most) value h = refl

  pub position-may : (case : List TestAnswer) → is_in case p ≡ true → (k : ℕ)
      → may_be case k (p.position k) ≡ true
  position-may case h k =
      all-pass (allows_position k (p.position k)) (λ l. position-allowed k l.test l.value) case h

  input-if : (b : Bool) (j k : ℕ) (value : Bool) → nat_eq j k ≡ b → beq (p.input j) value ≡ true
      → (not b || beq (p.input k) value) ≡ true
  input-if false j k value e h = refl
  input-if true j k value e h = ap (λ n. beq (p.input n) value) (sym (same-place j k e)) ∙ h

  input-granted : (k : ℕ) (t : Test) (value : Bool) → beq (answer_of p t) value ≡ true
      → test_allows_input k (p.input k) value t ≡ true
  input-granted k (test.Position j which) value h = refl
  input-granted k (test.Input j) value h = input-if (nat_eq j k) j k value refl h
  input-granted k (test.AtMost j field most) value h = refl

  pub input-may : (case : List TestAnswer) → is_in case p ≡ true → (k : ℕ)
      → input_may case k (p.input k) ≡ true
  input-may case h k =
      all-pass (allows_input k (p.input k)) (λ l. input-granted k l.test l.value) case h

  -- ---- measured values

  module _ (k : ℕ) (field : MeterField) where
    above : (b : Bool) (low most : ℤ) → low ≤ℤ p.measure k field
        → (b ≡ true → int_le (p.measure k field) most ≡ false)
        → cond b (greater_int low (most +ℤ pos 1)) low ≤ℤ p.measure k field
    above false low most h more = h
    above true low most h more =
        let not_below : int_le (p.measure k field) most ≡ false = more refl in grind (arith, ints)

    below : (b : Bool) (high most : ℤ) → p.measure k field ≤ℤ high
        → (b ≡ true → int_le (p.measure k field) most ≡ true)
        → p.measure k field ≤ℤ cond b (lesser_int high most) high
    below false high most h less = h
    below true high most h less =
        let at_most : int_le (p.measure k field) most ≡ true = less refl in grind (arith, ints)

    of-field : (j : ℕ) (which : MeterField) → is_of_field k field j which ≡ true
        → p.measure j which ≡ p.measure k field
    of-field j which h =
        let parts = and_parts (nat_eq j k) (same_field which field) h in
        ap (λ n. p.measure n which) (same-place j k parts.0)
        ∙ ap (λ f. p.measure k f) (same-field which field parts.1)

    low-one : (t : Test) (value : Bool) (low : ℤ) → beq (answer_of p t) value ≡ true
        → low ≤ℤ p.measure k field → low_by k field low value t ≤ℤ p.measure k field
    low-one (test.Position j which) value low m h = h
    low-one (test.Input j) value low m h = h
    low-one (test.AtMost j which most) value low m h =
        above (is_of_field k field j which && not value) low most h
        (λ e. let parts = and_parts (is_of_field k field j which) (not value) e in
        let answer : beq (int_le (p.measure j which) most) false ≡ true =
        ap (λ b. beq (int_le (p.measure j which) most) b) (sym (not-true value parts.1)) ∙ m in
        ap (λ z. int_le z most) (sym (of-field j which parts.0))
        ∙ no-answer (int_le (p.measure j which) most) answer)

    high-one : (t : Test) (value : Bool) (high : ℤ) → beq (answer_of p t) value ≡ true
        → p.measure k field ≤ℤ high → p.measure k field ≤ℤ high_by k field high value t
    high-one (test.Position j which) value high m h = h
    high-one (test.Input j) value high m h = h
    high-one (test.AtMost j which most) value high m h =
        below (is_of_field k field j which && value) high most h
        (λ e. let parts = and_parts (is_of_field k field j which) value e in
        let answer : beq (int_le (p.measure j which) most) true ≡ true =
        ap (λ b. beq (int_le (p.measure j which) most) b) (sym parts.1) ∙ m in
        ap (λ z. int_le z most) (sym (of-field j which parts.0))
        ∙ yes-answer (int_le (p.measure j which) most) answer)

    low-all : (case : List TestAnswer) (low : ℤ) → is_in case p ≡ true → low ≤ℤ p.measure k field
        → fold (low_after k field) low case ≤ℤ p.measure k field
    low-all [] low h le = le
    low-all (l ∷ case) low h le =
        let parts = and_parts (meets p l) (is_in case p) h in
        low-all case (low_after k field low l) parts.1 (low-one l.test l.value low parts.0 le)

    high-all : (case : List TestAnswer) (high : ℤ) → is_in case p ≡ true → p.measure k field ≤ℤ high
        → p.measure k field ≤ℤ fold (high_after k field) high case
    high-all [] high h le = le
    high-all (l ∷ case) high h le =
        let parts = and_parts (meets p l) (is_in case p) h in
        high-all case (high_after k field high l) parts.1 (high-one l.test l.value high parts.0 le)

-- ---- the points

-- the process with a mark
abbrev pub setting_of : Process → ℕ → Setting
setting_of p mark = record { position = p.position; mark = mark }

truth-in : (w : Setting) (b t f : Bool) → cond b t f ≡ true → IsIn w (Truth b) (truth_range t f)
truth-in w true true true h = tt
truth-in w true true false h = tt
truth-in w true false f h = absurd cc
truth-in w false true true h = tt
truth-in w false false true h = tt
truth-in w false t false h = absurd cc

module _ (w : Setting) (k : ℕ) (i o n b : Bool) where
  abbrev Allowed : Dbpos → Type 0
  Allowed Intermediate = i ≡ true
  Allowed Off = o ≡ true
  Allowed On = n ≡ true
  Allowed Bad = b ≡ true

  position-number : (d : Dbpos) → Allowed d
      → IsIn w (position_value Position (Some (leaf.Dbpos d))) (position_range k Position i o n b)
  position-number Intermediate h = (grind (arith, ints), grind (arith, ints))
  position-number Off h = (grind (arith, ints), grind (arith, ints))
  position-number On h = (grind (arith, ints), grind (arith, ints))
  position-number Bad h = (grind (arith, ints), grind (arith, ints))

  -- a position that the switch may have is told
  told-at : (which d : Dbpos) → Allowed d
      → same_position which d ≡ has_position (distinguished_positions which i o n b) d
  told-at which Intermediate h =
      sym (ap (λ may. has_at which (first_position i o n) may Intermediate) h)
  told-at which Off h = sym (ap (λ may. has_at which (first_position i o n) may Off) h)
  told-at which On h = sym (ap (λ may. has_at which (first_position i o n) may On) h)
  told-at which Bad h = sym (ap (λ may. has_at which (first_position i o n) may Bad) h)

  position-in : (d : Dbpos) → w.position k ≡ d → Allowed d → (point : SwitchPoint)
      → IsIn w (position_value point (Some (leaf.Dbpos d))) (position_range k point i o n b)
  position-in d is h Position = position-number d h
  position-in d is h Open =
      in-among w (same_position Off d) k (distinguished_positions Off i o n b)
      (told-at Off d h ∙ ap (has_position (distinguished_positions Off i o n b)) (sym is))
  position-in d is h Closed =
      in-among w (same_position On d) k (distinguished_positions On i o n b)
      (told-at On d h ∙ ap (has_position (distinguished_positions On i o n b)) (sym is))
  position-in d is h EnableOpen = tt
  position-in d is h EnableClose = tt

allowed : (w : Setting) (case : List TestAnswer) (k : ℕ) (d : Dbpos) → may_be case k d ≡ true
    → Allowed w k (may_be case k Intermediate) (may_be case k Off) (may_be case k On)
    (may_be case k Bad) d
allowed w case k Intermediate h = h
allowed w case k Off h = h
allowed w case k On h = h
allowed w case k Bad h = h

granted : (case : List TestAnswer) (k : ℕ) (b : Bool) → input_may case k b ≡ true
    → cond b (input_may case k true) (input_may case k false) ≡ true
granted case k true h = h
granted case k false h = h

module _ (p : Process) (is : IsProcess p) (case : List TestAnswer) (h : is_in case p ≡ true) where
  pub low-of : (k : ℕ) (field : MeterField) → low_of case k field ≤ℤ p.measure k field
  low-of k field = low-all p k field case (negsuc 2147483647) h (is.least k field)

  pub high-of : (k : ℕ) (field : MeterField) → p.measure k field ≤ℤ high_of case k field
  high-of k field = high-all p k field case (pos 2147483647) h (is.greatest k field)

module _ (p : Process) (mark : ℕ) (is : IsProcess p) (case : List TestAnswer)
    (h : is_in case p ≡ true) where
  range-has : (s : Source) → IsIn (setting_of p mark) (process_value p s) (range_of case s)
  range-has (source.Switch k point) =
      position-in (setting_of p mark) k (may_be case k Intermediate) (may_be case k Off)
      (may_be case k On) (may_be case k Bad) (p.position k) refl
      (allowed (setting_of p mark) case k (p.position k) (position-may p case h k)) point
  range-has (source.Input k) =
      truth-in (setting_of p mark) (p.input k) (input_may case k true) (input_may case k false)
      (granted case k (p.input k) (input-may p case h k))
  range-has (source.Meter k field) = (low-of p is case h k field, high-of p is case h k field)

  pub ranges-have : (reads : List Source)
      → AreIn (setting_of p mark) (map (process_value p) reads) (map (range_of case) reads)
  ranges-have [] = tt
  ranges-have (s ∷ reads) = (range-has s, ranges-have reads)

-- ---- the case of a process that is lost

module _ (p : Process) where
  in-more : (case : List TestAnswer) (l : TestAnswer) → is_in case p ≡ true → meets p l ≡ true
      → is_in (case ++ l ∷ []) p ≡ true
  in-more case l inside meet =
      list_all-append (meets p) case (l ∷ [])
      ∙ and_from (is_in case p) (meets p l && true) inside (and_from (meets p l) true meet refl)

  bad-in : (n : ℕ) → ((k : ℕ) → k < n → p.position k ≡ Bad) → is_in (bad_positions n) p ≡ true
  bad-in zero h = refl
  bad-in (suc n) h =
      in-more (bad_positions n) (record { test = test.Position n (only Bad); value = true })
      (bad-in n (λ k less. h k (omega (arith, less))))
      (ap (λ d. beq (has_position (only Bad) d) true) (h n (omega arith)))

  false-in : (n : ℕ) → ((k : ℕ) → k < n → p.input k ≡ false) → is_in (false_inputs n) p ≡ true
  false-in zero h = refl
  false-in (suc n) h =
      in-more (false_inputs n) (record { test = test.Input n; value = false })
      (false-in n (λ k less. h k (omega (arith, less))))
      (ap (λ b. beq b false) (h n (omega arith)))

  -- a process that is lost is one of the case
  pub lost-in : (bay : Bay) → IsLost bay p
      → is_in (lost_case (length bay.switches) (length bay.inputs)) p ≡ true
  lost-in bay lost =
      list_all-append (meets p) (bad_positions (length bay.switches))
      (false_inputs (length bay.inputs))
      ∙ and_from (is_in (bad_positions (length bay.switches)) p)
      (is_in (false_inputs (length bay.inputs)) p) (bad-in (length bay.switches) lost.positions)
      (false-in (length bay.inputs) lost.inputs)

-- ---- a process of a case

-- no literal makes the least number less
low-more : (k : ℕ) (field : MeterField) (t : Test) (value : Bool) (low : ℤ)
    → low ≤ℤ low_by k field low value t
low-more k field (test.Position j which) value low = same-le low
low-more k field (test.Input j) value low = same-le low
low-more k field (test.AtMost j which most) value low =
    more-if (is_of_field k field j which && not value) low most
  where
    more-if : (b : Bool) (low most : ℤ) → low ≤ℤ cond b (greater_int low (most +ℤ pos 1)) low
    more-if true low most = grind (arith, ints)
    more-if false low most = omega (arith, ints)

low-grows : (k : ℕ) (field : MeterField) (case : List TestAnswer) (least low : ℤ) → least ≤ℤ low
    → least ≤ℤ fold (low_after k field) low case
low-grows k field [] least low h = h
low-grows k field (l ∷ case) least low h =
    let more : low ≤ℤ low_after k field low l = low-more k field l.test l.value low in
    low-grows k field case least (low_after k field low l) (omega (arith, ints, h, more))

-- what is above the least number at the end is above that at the start
pub low-least : (k : ℕ) (field : MeterField) (case : List TestAnswer) (low z : ℤ)
    → fold (low_after k field) low case ≤ℤ z → low ≤ℤ z
low-least k field case low z h =
    let more = low-grows k field case low low (same-le low) in omega (arith, ints, h, more)

-- no literal makes the greatest number greater
high-less : (k : ℕ) (field : MeterField) (t : Test) (value : Bool) (high : ℤ)
    → high_by k field high value t ≤ℤ high
high-less k field (test.Position j which) value high = same-le high
high-less k field (test.Input j) value high = same-le high
high-less k field (test.AtMost j which most) value high =
    less-if (is_of_field k field j which && value) high most
  where
    less-if : (b : Bool) (high most : ℤ) → cond b (lesser_int high most) high ≤ℤ high
    less-if true high most = grind (arith, ints)
    less-if false high most = omega (arith, ints)

pub high-most : (k : ℕ) (field : MeterField) (case : List TestAnswer) (high z : ℤ)
    → z ≤ℤ fold (high_after k field) high case → z ≤ℤ high
high-most k field [] high z h = h
high-most k field (l ∷ case) high z h =
    let less : high_after k field high l ≤ℤ high = high-less k field l.test l.value high in
    let rest = high-most k field case (high_after k field high l) z h in
    omega (arith, ints, less, rest)

within : (low : ℤ) → negsuc 2147483647 ≤ℤ low
    → (negsuc 2147483647 ≤ℤ lesser_int (pos 2147483647) low)
    × (lesser_int (pos 2147483647) low ≤ℤ pos 2147483647)
within low h = (grind (arith, ints), grind (arith, ints))

pub example-is : (case : List TestAnswer) → IsProcess (example_of case)
example-is case = record {
  least = λ k field. (within (low_of case k field) (low-grows k field case (negsuc 2147483647)
      (negsuc 2147483647) (same-le (negsuc 2147483647)))).0;
  greatest = λ k field. (within (low_of case k field) (low-grows k field case (negsuc 2147483647)
      (negsuc 2147483647) (same-le (negsuc 2147483647)))).1;
}
