-- How many of some cases have a process.
use Rattle.std.proofs.Common.{◌≡◌, ◌≤◌, ◌<◌, ℕ, ◌+◌, Bool, true, false, ◌&&◌, List, [], ◌∷◌, ◌++◌, refl, sym, ap, ◌∙◌, arith}
use Rattle.std.specs.Bool.{beq}
use Rattle.std.proofs.lemmas.List.Folds.{list_all-append}
use Rattle.bay_base.specs.declared.switch.Operation.{Operation}
use Rattle.bay_audit_rules.specs.Process.{Process}
use Rattle.bay_audit.specs.Cases.{answer_of, is_in, meets}
use Rattle.bay_audit.specs.Process.{IsProcess}
use Rattle.bay_audit.specs.Rules.{case_count, case_with_answer}
use Rattle.bay_audit.specs.declared.case.TestAnswer.{TestAnswer}
use Rattle.bay_audit.specs.declared.case.Test.{Test}
use Rattle.bay_audit.proofs.SearchLemmas.{count-last, one_if}
use Rattle.bay_diagram.specs.declared.network.Network.{Network}
use Rattle.bay_audit_hazards.specs.Judged.{is_hazard_of}

-- ---- parts of a case

in-last : (case : List TestAnswer) (l : TestAnswer) (p : Process)
    → is_in (case ++ l ∷ []) p ≡ (is_in case p && (meets p l && true))
in-last case l p = list_all-append (meets p) case (l ∷ [])

parts-sum : (b c : Bool)
    → one_if (b && (beq c false && true)) + one_if (b && (beq c true && true)) ≡ one_if b
parts-sum true true = refl
parts-sum true false = refl
parts-sum false true = refl
parts-sum false false = refl

-- the two parts of a case have its processes, each in one part
pub parts-count : (cases : List (List TestAnswer)) (case : List TestAnswer) (test : Test)
    (p : Process)
    → case_count ((cases ++ case_with_answer case test false ∷ [])
    ++ case_with_answer case test true ∷ []) p
    ≡ case_count (cases ++ case ∷ []) p
parts-count cases case test p =
    let no : is_in (case_with_answer case test false) p
    ≡ (is_in case p && (beq (answer_of p test) false && true)) =
    in-last case (record { test = test; value = false }) p in
    let yes : is_in (case_with_answer case test true) p
    ≡ (is_in case p && (beq (answer_of p test) true && true)) =
    in-last case (record { test = test; value = true }) p in
    let a = ap one_if no in
    let b = ap one_if yes in
    let s = parts-sum (is_in case p) (answer_of p test) in
    let both = count-last (cases ++ case_with_answer case test false ∷ [])
    (case_with_answer case test true) p in
    let first = count-last cases (case_with_answer case test false) p in
    let whole = count-last cases case p in
    omega (arith, a, b, s, both, first, whole)

-- a case in no process of which the operation is a hazard has no process in which it is
pub none-in : (net : Network) (k : ℕ) (operation : Operation) (case : List TestAnswer)
    → ((p : Process) → IsProcess p → is_in case p ≡ true → is_hazard_of net k operation p ≡ false)
    → (p : Process) → IsProcess p → is_hazard_of net k operation p ≡ true → is_in case p ≡ false
none-in net k operation case none p ip h = go (is_in case p) refl
  where
    go : (b : Bool) → is_in case p ≡ b → is_in case p ≡ false
    go true e = absurd (let f : true ≡ false = sym h ∙ none p ip e in cc)
    go false e = e

-- ---- the cases that are left of some

-- The cases that are left have each process in which the operation is a hazard as often as the
-- first ones, and none more often.
pub record AreLeft (net : Network) (k : ℕ) (operation : Operation)
    (first left : List (List TestAnswer)) : Type 0
  where
    pub all : (p : Process) → IsProcess p → is_hazard_of net k operation p ≡ true
        → case_count left p ≡ case_count first p
    pub inside : (p : Process) → IsProcess p → case_count left p ≤ case_count first p

module _ (net : Network) (k : ℕ) (operation : Operation) (first : List (List TestAnswer)) where
  pub left-first : AreLeft net k operation first first
  left-first = record {
    all = λ p ip h. refl;
    inside = λ p ip. omega arith;
  }

  -- a case without such a process is left no more
  pub left-without : (left : List (List TestAnswer)) (case : List TestAnswer)
      → AreLeft net k operation first (left ++ case ∷ [])
      → ((p : Process) → IsProcess p → is_hazard_of net k operation p ≡ true
      → is_in case p ≡ false)
      → AreLeft net k operation first left
  left-without left case are none = record {
    all = λ p ip h.
        let e = count-last left case p in
        let o = ap one_if (none p ip h) in
        let same = are.all p ip h in
        omega (arith, e, o, same);
    inside = λ p ip.
        let e = count-last left case p in
        let less = are.inside p ip in
        omega (arith, e, less);
  }

  -- the parts of a case are left in its place
  pub left-parts : (left : List (List TestAnswer)) (case : List TestAnswer) (test : Test)
      → AreLeft net k operation first (left ++ case ∷ [])
      → AreLeft net k operation first ((left ++ case_with_answer case test false ∷ [])
      ++ case_with_answer case test true ∷ [])
  left-parts left case test are = record {
    all = λ p ip h. parts-count left case test p ∙ are.all p ip h;
    inside = λ p ip.
        let e = parts-count left case test p in
        let less = are.inside p ip in
        omega (arith, e, less);
  }

  -- the process of a case that is left is in one of the first
  pub left-part : (left : List (List TestAnswer)) (case : List TestAnswer)
      → AreLeft net k operation first (left ++ case ∷ [])
      → (p : Process) → IsProcess p → is_in case p ≡ true → 0 < case_count first p
  left-part left case are p ip inside =
      let e = count-last left case p in
      let o = ap one_if inside in
      let less = are.inside p ip in
      omega (arith, e, o, less)
