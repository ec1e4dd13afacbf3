-- A case is as it is told, and one that has a process has its example.
use Rattle.std.proofs.Common.{◌≡◌, ℕ, ℤ, pos, ◌+ℤ◌, Bool, true, false, not, ◌&&◌, ◌||◌, cond, nat_eq, List, [], ◌∷◌, refl, sym, ◌∙◌, arith}
use Rattle.std.specs.Prelude.{◌≤ℤ◌, int_le, fold, negsuc}
use Rattle.std.specs.Bool.{beq}
use Rattle.std.specs.List.{list_all}
use Rattle.std.proofs.lemmas.Bool.{and_from, and_parts}
use Rattle.std.proofs.lemmas.Bool.Decides.{nat_tests}
use Rattle.std.proofs.lemmas.Int.{ints}
use Rattle.bay_base.specs.declared.point.MeterField.{MeterField}
use Rattle.bay_base.specs.declared.point.MeterField.TheVariants.{TotW, TotVAr, Hz, PhaseA, PhaseB, PhaseC}
use Rattle.il_range.specs.Ranges.{has_position}
use Rattle.bay_audit_rules.specs.Process.{Process}
use Rattle.bay_base.specs.declared.position.Dbpos.{Dbpos}
use Rattle.bay_base.specs.declared.position.Dbpos.TheVariants.{Intermediate, Off, On, Bad}
use Rattle.bay_audit.specs.Cases.{IsWithin, allows_position, answer_of, example_of, first_position, allows_input, high_after, high_by, high_of, input_may, is_in, is_of_field, low_after, low_by, low_of, lesser_int, may_be, meets, greater_int, same_field, test_allows_position, test_allows_input}
use Rattle.bay_audit.specs.Laws.{CasesAreReported, CasesHaveExamples}
use Rattle.bay_audit.specs.Process.{IsProcess}
use Rattle.bay_audit.specs.declared.case.TestAnswer.{TestAnswer}
use Rattle.bay_audit.specs.declared.case.Test.{Test}
use Rattle.bay_audit.specs.declared.case.Test.TheVariants as test
use Rattle.bay_audit.proofs.CaseLemmas.{high-of, high-most, input-may, low-least, low-of, position-may}

-- ---- from what is told

same-number : (k : ℕ) → nat_eq k k ≡ true
same-number k = grind (arith, nat_tests)

field-itself : (f : MeterField) → same_field f f ≡ true
field-itself TotW = refl
field-itself TotVAr = refl
field-itself Hz = refl
field-itself PhaseA = refl
field-itself PhaseB = refl
field-itself PhaseC = refl

here : (k : ℕ) (field : MeterField) → is_of_field k field k field ≡ true
here k field = and_from (nat_eq k k) (same_field field field) (same-number k) (field-itself field)

unless-other : (b c : Bool) → b ≡ true → (not b || c) ≡ true → c ≡ true
unless-other true c e h = h
unless-other false c e h = absurd cc

at-most : (z low high most : ℤ) (b : Bool) (value : Bool) → b ≡ true
    → cond (b && not value) (greater_int low (most +ℤ pos 1)) low ≤ℤ z
    → z ≤ℤ cond (b && value) (lesser_int high most) high → beq (int_le z most) value ≡ true
at-most z low high most true true e least greatest = grind (arith, ints)
at-most z low high most true false e least greatest = grind (arith, ints)
at-most z low high most false value e least greatest = absurd cc

module _ (p : Process) where
  -- a literal is met by what it alone leaves
  meets-one : (t : Test) (value : Bool) (low high : ℕ → MeterField → ℤ)
      → ((k : ℕ) → test_allows_position k (p.position k) value t ≡ true)
      → ((k : ℕ) → test_allows_input k (p.input k) value t ≡ true)
      → ((k : ℕ) (field : MeterField)
      → low_by k field (low k field) value t ≤ℤ p.measure k field)
      → ((k : ℕ) (field : MeterField)
      → p.measure k field ≤ℤ high_by k field (high k field) value t)
      → beq (answer_of p t) value ≡ true
  meets-one (test.Position j s) value low high a g least greatest =
      unless-other (nat_eq j j) (beq (has_position s (p.position j)) value) (same-number j)
      (a j)
  meets-one (test.Input j) value low high a g least greatest =
      unless-other (nat_eq j j) (beq (p.input j) value) (same-number j) (g j)
  meets-one (test.AtMost j field most) value low high a g least greatest =
      at-most (p.measure j field) (low j field) (high j field) most (is_of_field j field j field)
      value (here j field) (least j field) (greatest j field)

  in-by : (case : List TestAnswer) (low high : ℕ → MeterField → ℤ)
      → ((k : ℕ) → list_all (allows_position k (p.position k)) case ≡ true)
      → ((k : ℕ) → list_all (allows_input k (p.input k)) case ≡ true)
      → ((k : ℕ) (field : MeterField)
      → fold (low_after k field) (low k field) case ≤ℤ p.measure k field)
      → ((k : ℕ) (field : MeterField)
      → p.measure k field ≤ℤ fold (high_after k field) (high k field) case)
      → is_in case p ≡ true
  in-by [] low high a g least greatest = refl
  in-by (l ∷ case) low high a g least greatest =
      and_from (meets p l) (is_in case p)
      (meets-one l.test l.value low high
      (λ k. (and_parts (allows_position k (p.position k) l)
      (list_all (allows_position k (p.position k)) case)
      (a k)).0)
      (λ k. (and_parts (allows_input k (p.input k) l) (list_all (allows_input k (p.input k)) case)
      (g k)).0)
      (λ k field. low-least k field case (low_after k field (low k field) l) (p.measure k field)
      (least k field))
      (λ k field. high-most k field case (high_after k field (high k field) l) (p.measure k field)
      (greatest k field)))
      (in-by case (λ k field. low_after k field (low k field) l)
      (λ k field. high_after k field (high k field) l)
      (λ k. (and_parts (allows_position k (p.position k) l)
      (list_all (allows_position k (p.position k)) case)
      (a k)).1)
      (λ k. (and_parts (allows_input k (p.input k) l) (list_all (allows_input k (p.input k)) case)
      (g k)).1)
      least greatest)

  in-within : (case : List TestAnswer) → IsWithin case p → is_in case p ≡ true
  in-within case w =
      in-by case (λ k field. negsuc 2147483647) (λ k field. pos 2147483647) w.positions w.inputs
      w.least w.greatest

  within-in : IsProcess p → (case : List TestAnswer) → is_in case p ≡ true → IsWithin case p
  within-in is case inside = record {
    positions = position-may p case inside;
    inputs = input-may p case inside;
    least = low-of p is case inside;
    greatest = high-of p is case inside;
  }

pub cases-told : CasesAreReported
cases-told case p is = (within-in p is case, in-within p case)

-- ---- the example

first-may : (may : Dbpos → Bool) (d : Dbpos) → may d ≡ true → (i o n : Bool) → may Intermediate ≡ i
    → may Off ≡ o → may On ≡ n → may (first_position i o n) ≡ true
first-may may d h true o n i-is o-is n-is = i-is
first-may may d h false true n i-is o-is n-is = o-is
first-may may d h false false true i-is o-is n-is = n-is
first-may may Intermediate h false false false i-is o-is n-is =
    absurd (let f : true ≡ false = sym h ∙ i-is in cc)
first-may may Off h false false false i-is o-is n-is =
    absurd (let f : true ≡ false = sym h ∙ o-is in cc)
first-may may On h false false false i-is o-is n-is =
    absurd (let f : true ≡ false = sym h ∙ n-is in cc)
first-may may Bad h false false false i-is o-is n-is = h

either-may : (may : Bool → Bool) (b : Bool) → may b ≡ true → (t : Bool) → may true ≡ t
    → may t ≡ true
either-may may b h true e = e
either-may may true h false e = absurd (let f : true ≡ false = sym h ∙ e in cc)
either-may may false h false e = h

least-within : (low z : ℤ) → low ≤ℤ z → z ≤ℤ pos 2147483647 → low ≤ℤ lesser_int (pos 2147483647) low
least-within low z h k = grind (arith, ints)

most-within : (low high z : ℤ) → low ≤ℤ z → z ≤ℤ high → lesser_int (pos 2147483647) low ≤ℤ high
most-within low high z h k = grind (arith, ints)

pub examples-there : CasesHaveExamples
examples-there case p is inside = in-within (example_of case) case (record {
  positions = λ k. first-may (may_be case k) (p.position k) (position-may p case inside k)
      (may_be case k Intermediate) (may_be case k Off) (may_be case k On) refl refl refl;
  inputs = λ k. either-may (input_may case k) (p.input k) (input-may p case inside k)
      (input_may case k true) refl;
  least = λ k field. least-within (low_of case k field) (p.measure k field)
      (low-of p is case inside k field) (is.greatest k field);
  greatest = λ k field. most-within (low_of case k field) (high_of case k field)
      (p.measure k field) (low-of p is case inside k field) (high-of p is case inside k field);
})
