-- The cases of a release.
use Rattle.std.proofs.Common.{◌≡◌, ℕ, ◌+◌, true, cond, List, [], ◌∷◌, ◌++◌, length, map, Result, Ok, sym, ap, subst, ◌∙◌, add-one, append_assoc, arith}
use Rattle.std.specs.List.{All}
use Rattle.std.proofs.lemmas.List.{map-append}
use Rattle.std.proofs.lemmas.List.Elements.{All-push}
use Rattle.std.proofs.lemmas.List.Sums.{sum_by-append}
use Rattle.bay_config.specs.declared.bay.Bay.{Bay}
use Rattle.bay_audit_rules.specs.Process.{Process}
use Rattle.bay_audit.specs.Cases.{is_in, lost_case}
use Rattle.bay_audit.specs.Process.{IsLost, IsProcess}
use Rattle.bay_audit.specs.Rules.{AreReleases, AreRightInCases, IsDecision, IsRelease, IsRightFor, IsRightInCase, HasProcess, IsReleaseOrTest, IsVerdict, BoundProgram, case_count, release_demand, parts_of, reported_count, direction_of, directions}
use Rattle.bay_audit.specs.declared.answer.RuleVerdict.{RuleVerdict}
use Rattle.bay_audit.specs.declared.answer.RuleVerdict.TheVariants.{Obeyed, Missed}
use Rattle.bay_audit.specs.declared.answer.Release.{Release}
use Rattle.bay_audit.specs.declared.answer.CaseRelease.{CaseRelease}
use Rattle.bay_audit.specs.declared.answer.CaseRelease.TheVariants.{Released, Refused, Depends}
use Rattle.bay_audit.specs.declared.answer.ReportedCase.{ReportedCase}
use Rattle.bay_audit.specs.declared.answer.Verdict.{Verdict}
use Rattle.bay_audit.specs.declared.answer.Verdict.TheVariants as verdict
use Rattle.bay_audit.specs.declared.case.TestAnswer.{TestAnswer}
use Rattle.bay_audit.specs.declared.case.Test.{Test}
use Rattle.bay_audit.specs.declared.demand.Demand.{Demand}
use Rattle.bay_audit.proofs.CaseLemmas.{lost-in}
use Rattle.bay_audit.proofs.SearchLemmas.{count-last, one_if, parts-more}
use Rattle.bay_base.specs.declared.switch.Operation.{Operation}
use Rattle.bay_base.specs.declared.switch.Operation.TheVariants as operations

-- ---- what is told

module _ (g : BoundProgram) (k : ℕ) (operation : Operation) where
  pub verdict-told : (case : List TestAnswer) (v : Verdict) (release : CaseRelease)
      → IsVerdict g (release_demand k operation) case v
      → IsReleaseOrTest v (let r : Result CaseRelease Test = Ok release in r)
      → IsRightInCase g k operation case release
  verdict-told case verdict.Obeyed release is turn =
      let same : release ≡ Released = cc in subst (IsRightInCase g k operation case) (sym same)
      (λ p ip inside machine now slots timers image kept leaves.
      is p ip inside 0 machine now slots timers image kept tt leaves)
  verdict-told case verdict.Broken release is turn =
      let same : release ≡ Refused = cc in subst (IsRightInCase g k operation case) (sym same)
      (λ p ip inside machine now slots timers image kept leaves.
      is p ip inside 0 machine now slots timers image kept tt leaves)
  verdict-told case (verdict.Open kept) release is turn =
      let same : release ≡ Depends kept =
      cc in subst (IsRightInCase g k operation case) (sym same) tt
  verdict-told case (verdict.Split test) release is turn = absurd cc

  -- what a pass decides of the case of a process that is lost
  module _ (bay : Bay) (d : Demand) (case : List TestAnswer) (x : RuleVerdict)
      (demands : d ≡ release_demand k operation)
      (lost : case ≡ lost_case (length bay.switches) (length bay.inputs))
      (is : IsDecision g d case x) where
    decided : (y : RuleVerdict) → x ≡ y → IsDecision g (release_demand k operation) case y
    decided y same =
        subst (IsDecision g (release_demand k operation) case) same
        (subst (λ (e : Demand). IsDecision g e case x) demands is)

    inside : (p : Process) → IsLost bay p → is_in case p ≡ true
    inside p gone =
        subst (λ (c : List TestAnswer). is_in c p ≡ true) (sym lost) (lost-in p bay gone)

    pub lost-released : x ≡ Obeyed → IsRightFor (IsLost bay) g k operation Released
    lost-released e p ip gone machine now slots timers image kept leaves =
        decided Obeyed e p ip (inside p gone) 0 machine now slots timers image kept tt leaves

    pub lost-refused : x ≡ Missed → IsRightFor (IsLost bay) g k operation Refused
    lost-refused e p ip gone machine now slots timers image kept leaves =
        decided Missed e p ip (inside p gone) 0 machine now slots timers image kept tt leaves

  pub told-more : (cases : List ReportedCase) (c : ReportedCase)
      → AreRightInCases g k operation cases
      → IsRightInCase g k operation c.case c.release
      → AreRightInCases g k operation (cases ++ c ∷ [])
  told-more [] c all one = (one, tt)
  told-more (d ∷ cases) c all one = (all.0, told-more cases c all.1 one)

-- ---- how many have a process

-- a case that is told is left no more
pub one-told : (cases : List ReportedCase) (left : List (List TestAnswer)) (c : ReportedCase)
    (p : Process)
    → reported_count cases p + case_count (left ++ c.case ∷ []) p ≡ 1
    → reported_count (cases ++ c ∷ []) p + case_count left p ≡ 1
one-told cases left c p one =
    let release : reported_count (cases ++ c ∷ []) p
    ≡ reported_count cases p + (0 + one_if (is_in c.case p)) =
    sum_by-append (λ (d : ReportedCase). cond (is_in d.case p) 1 0) cases (c ∷ []) in
    let e = count-last left c.case p in
    omega (arith, release, e, one)

-- the parts of a case are left in its place
pub one-split : (cases : List ReportedCase) (left : List (List TestAnswer)) (case : List TestAnswer)
    (test : Test) (p : Process) → IsProcess p
    → reported_count cases p + case_count (left ++ case ∷ []) p ≡ 1
    → reported_count cases p + case_count (left ++ parts_of case test) p ≡ 1
one-split cases left case test p is one =
    let e = count-last left case p in
    let two = parts-more left case test p is in
    omega (arith, e, two, one)

-- one told case more has a process
pub told-full : (cases : List ReportedCase) (c : ReportedCase) → All (λ d. HasProcess d.case) cases
    → HasProcess c.case → All (λ d. HasProcess d.case) (cases ++ c ∷ [])
told-full cases c all one = All-push (λ (d : ReportedCase). HasProcess d.case) cases c all one

-- ---- several releases

pub releases-more : (bay : Bay) (g : BoundProgram) (releases : List Release) (r : Release)
    → AreReleases bay g releases → IsRelease bay g r → AreReleases bay g (releases ++ r ∷ [])
releases-more bay g [] r all one = (one, tt)
releases-more bay g (q ∷ releases) r all one = (all.0, releases-more bay g releases r all.1 one)

pub ways-more : (releases : List Release) (a b : Release) (k : ℕ)
    → map direction_of releases ≡ directions k → direction_of a ≡ (k, operations.Open)
    → direction_of b ≡ (k, operations.Close)
    → map direction_of ((releases ++ a ∷ []) ++ b ∷ []) ≡ directions (k + 1)
ways-more releases a b k all opens closes =
    rw add-one
    (map-append direction_of (releases ++ a ∷ []) (b ∷ [])
    ∙ ap (λ ws. ws ++ direction_of b ∷ []) (map-append direction_of releases (a ∷ []))
    ∙ append_assoc (map direction_of releases) (direction_of a ∷ []) (direction_of b ∷ [])
    ∙ ap (λ ws. ws ++ direction_of a ∷ direction_of b ∷ []) all
    ∙ ap (λ (w : ℕ × Operation). directions k ++ w ∷ direction_of b ∷ []) opens
    ∙ ap (λ (w : ℕ × Operation). directions k ++ (k, operations.Open) ∷ w ∷ []) closes)
