-- The cases of a release, parted by whether the switch is released in them.
use Rattle.std.proofs.Common.{◌≡◌, ◌<◌, ℕ, ◌+◌, Bool, true, false, cond, List, [], ◌∷◌, ◌++◌, refl, ap, subst, arith}
use Rattle.std.proofs.lemmas.List.Sums.{sum_by-append}
use Rattle.bay_base.specs.declared.switch.Operation.{Operation}
use Rattle.bay_config.specs.declared.bay.Bay.{Bay}
use Rattle.bay_audit_rules.specs.Process.{Process}
use Rattle.bay_audit.specs.Cases.{is_in}
use Rattle.bay_audit.specs.Process.{IsProcess}
use Rattle.bay_audit.specs.Rules.{AreRightInCases, BoundProgram, ReleaseIs, IsRelease, IsRightInCase, case_count, reported_count}
use Rattle.bay_audit.specs.declared.answer.CaseRelease.TheVariants.{Released, Refused}
use Rattle.bay_audit.specs.declared.answer.Release.{Release}
use Rattle.bay_audit.specs.declared.answer.ReportedCase.{ReportedCase}
use Rattle.bay_audit.specs.declared.case.TestAnswer.{TestAnswer}
use Rattle.bay_audit.proofs.SearchLemmas.{count-last, one_if}
use Rattle.bay_diagram.specs.declared.network.Network.{Network}
use Rattle.bay_audit_hazards.specs.Judged.{IsHarmless, IsReleased, is_hazard_of}
use Rattle.bay_audit_hazards.specs.Parts.{AreSplitBy, AreSplit, IsPart}

reported-last : (cases : List ReportedCase) (c : ReportedCase) (p : Process)
    → reported_count (cases ++ c ∷ []) p ≡ reported_count cases p + one_if (is_in c.case p)
reported-last cases c p =
    let e : reported_count (cases ++ c ∷ []) p
    ≡ reported_count cases p + (0 + one_if (is_in c.case p)) =
    sum_by-append (λ (d : ReportedCase). cond (is_in d.case p) 1 0) cases (c ∷ []) in
    omega (arith, e)

-- ---- some cases of a release are parted

-- Of the first cases, those in `rest` are left; the others are in the two lists, or refused.
pub record ArePartedTo (g : BoundProgram) (k : ℕ) (operation : Operation)
    (first rest : List ReportedCase) (released undecided : List (List TestAnswer)) : Type 0
  where
    pub release : AreRightInCases g k operation rest
    pub given : (p : Process) → IsProcess p → 0 < case_count released p
        → ReleaseIs true g k operation p
    pub refused : (p : Process) → IsProcess p → 0 < reported_count first p
        → reported_count rest p ≡ 0 → case_count released p ≡ 0 → case_count undecided p ≡ 0
        → ReleaseIs false g k operation p

-- it is so for each release of which the first cases are right
abbrev pub ArePartedSo : List ReportedCase → List ReportedCase → List (List TestAnswer)
    → List (List TestAnswer) → Type 0
ArePartedSo first rest released undecided =
    (g : BoundProgram) (k : ℕ) (operation : Operation) → AreRightInCases g k operation first
    → ArePartedTo g k operation first rest released undecided

module _ (g : BoundProgram) (k : ℕ) (operation : Operation) where
  told-last : (cases : List ReportedCase) (c : ReportedCase)
      → AreRightInCases g k operation (cases ++ c ∷ [])
      → AreRightInCases g k operation cases × IsRightInCase g k operation c.case c.release
  told-last [] c all = (tt, all.0)
  told-last (d ∷ cases) c all =
      let more = told-last cases c all.1 in ((all.0, more.0), more.1)

  given-more : (released : List (List TestAnswer)) (case : List TestAnswer) (p : Process)
      → (0 < case_count released p → ReleaseIs true g k operation p)
      → (is_in case p ≡ true → ReleaseIs true g k operation p)
      → 0 < case_count (released ++ case ∷ []) p → ReleaseIs true g k operation p
  given-more released case p old one h = go (is_in case p) refl
    where
      go : (b : Bool) → is_in case p ≡ b → ReleaseIs true g k operation p
      go true e = one e
      go false e =
          old (let n = count-last released case p in let o = ap one_if e in
          omega (arith, n, o, h))

  refused-more : (rest : List ReportedCase) (c : ReportedCase) (p : Process)
      → (reported_count (rest ++ c ∷ []) p ≡ 0 → ReleaseIs false g k operation p)
      → (is_in c.case p ≡ true → ReleaseIs false g k operation p)
      → reported_count rest p ≡ 0 → ReleaseIs false g k operation p
  refused-more rest c p old one h = go (is_in c.case p) refl
    where
      go : (b : Bool) → is_in c.case p ≡ b → ReleaseIs false g k operation p
      go true e = one e
      go false e =
          old (let n = reported-last rest c p in let o = ap one_if e in
          omega (arith, n, o, h))

  module _ (first rest : List ReportedCase) (c : ReportedCase)
      (released undecided : List (List TestAnswer))
      (are : ArePartedTo g k operation first (rest ++ c ∷ []) released undecided) where
    with-released : c.release ≡ Released
        → ArePartedTo g k operation first rest (released ++ c.case ∷ []) undecided
    with-released is =
        let parts = told-last rest c are.release in
        let one = subst (IsRightInCase g k operation c.case) is parts.1 in
        record {
          release = parts.0;
          given = λ p ip. given-more released c.case p (are.given p ip) (one p ip);
          refused = λ p ip some no none gone.
              let n = count-last released c.case p in
              let m = reported-last rest c p in
              are.refused p ip some (omega (arith, n, m, no, none)) (omega (arith, n, none)) gone;
        }

    with-refused : c.release ≡ Refused → ArePartedTo g k operation first rest released undecided
    with-refused is =
        let parts = told-last rest c are.release in
        let one = subst (IsRightInCase g k operation c.case) is parts.1 in
        record {
          release = parts.0;
          given = are.given;
          refused = λ p ip some no none gone.
              refused-more rest c p (λ all. are.refused p ip some all none gone) (one p ip) no;
        }

    with-hanging : ArePartedTo g k operation first rest released (undecided ++ c.case ∷ [])
    with-hanging =
        record {
          release = (told-last rest c are.release).0;
          given = are.given;
          refused = λ p ip some no none gone.
              let n = count-last undecided c.case p in
              let m = reported-last rest c p in
              are.refused p ip some (omega (arith, n, m, no, gone)) none (omega (arith, n, gone));
        }

module _ (first : List ReportedCase) where
  pub parted-first : ArePartedSo first first [] []
  parted-first g k operation release = record {
    release = release;
    given = λ p ip h. absurd (omega (arith, h));
    refused = λ p ip some no none gone. absurd (omega (arith, some, no));
  }

  module _ (rest : List ReportedCase) (c : ReportedCase)
      (released undecided : List (List TestAnswer))
      (are : ArePartedSo first (rest ++ c ∷ []) released undecided) where
    pub parted-released : c.release ≡ Released
        → ArePartedSo first rest (released ++ c.case ∷ []) undecided
    parted-released is g k operation release =
        with-released g k operation first rest c released undecided (are g k operation release) is

    pub parted-refused : c.release ≡ Refused → ArePartedSo first rest released undecided
    parted-refused is g k operation release =
        with-refused g k operation first rest c released undecided (are g k operation release) is

    pub parted-hanging : ArePartedSo first rest released (undecided ++ c.case ∷ [])
    parted-hanging g k operation release =
        with-hanging g k operation first rest c released undecided (are g k operation release)

  pub parted-all : (released undecided : List (List TestAnswer))
      → ArePartedSo first [] released undecided → AreSplit first released undecided
  parted-all released undecided are g k operation release =
      let all = are g k operation release in
      record {
        given = all.given;
        refused = λ p ip some none gone. all.refused p ip some refl none gone;
      }

-- ---- a release

module _ (bay : Bay) (g : BoundProgram) (net : Network) (r : Release) (is : IsRelease bay g r)
    (released undecided : List (List TestAnswer))
    (parted : AreSplit r.cases.items released undecided) where
  by : AreSplitBy g r.switch r.operation r.cases.items released undecided
  by = parted g r.switch r.operation is.release

  abbrev IsFree : List (List TestAnswer) → Type 0
  IsFree cases =
      (p : Process) → IsProcess p → is_hazard_of net r.switch r.operation p ≡ true
      → case_count cases p ≡ 0

  -- where no case has a process in which the operation is a hazard, the release is harmless
  pub free-harmless : IsFree released → IsFree undecided → IsFree r.left.items
      → IsHarmless g net r.switch r.operation
  free-harmless a b c p ip h =
      let one = is.one p ip in
      let left = c p ip h in
      by.refused p ip (omega (arith, one, left)) (a p ip h) (b p ip h)

  -- in a part of a case that is released the switch is released
  pub part-released : (case : List TestAnswer) → IsPart released case
      → IsReleased g r.switch r.operation case
  part-released case part p ip inside = by.given p ip (part p ip inside)
