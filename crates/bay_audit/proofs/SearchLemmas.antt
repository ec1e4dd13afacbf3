-- The cases that are left.
use Rattle.std.proofs.Common.{◌≡◌, ℕ, ◌+◌, Bool, true, false, ◌&&◌, cond, Some, List, [], ◌∷◌, ◌++◌, refl, sym, ap, arith}
use Rattle.std.specs.Bool.{beq}
use Rattle.std.specs.List.{All}
use Rattle.std.proofs.lemmas.List.Elements.{All-append, All-cons, All-nil, All-pop}
use Rattle.std.proofs.lemmas.List.Folds.{list_all-append}
use Rattle.std.proofs.lemmas.List.Sums.{sum_by-append}
use Rattle.bay_audit_rules.specs.Process.{Process}
use Rattle.bay_audit_rules.specs.declared.rule.Rule.{Rule}
use Rattle.bay_audit.specs.declared.demand.Demand.{Demand}
use Rattle.bay_audit.specs.Cases.{answer_of, example_of, is_in, meets}
use Rattle.bay_audit.specs.Process.{IsProcess}
use Rattle.bay_audit.specs.Rules.{AreRightAnswers, ScansMeet, HasProcess, IsMetOutside, IsMet, IsRightAnswer, BoundProgram, case_count, if_any, case_with_answer, parts_of}
use Rattle.bay_audit.specs.declared.answer.RuleAnswer.{RuleAnswer}
use Rattle.bay_audit.specs.declared.case.TestAnswer.{TestAnswer}
use Rattle.bay_audit.specs.declared.case.Test.{Test}
use Rattle.bay_audit.proofs.CaseLemmas.{example-is}
use Rattle.bay_audit.proofs.ToldLemmas.{examples-there}

-- 1 where a case has the process
abbrev pub one_if : Bool → ℕ
one_if b = cond b 1 0

pub count-last : (cases : List (List TestAnswer)) (case : List TestAnswer) (p : Process)
    → case_count (cases ++ case ∷ []) p ≡ case_count cases p + one_if (is_in case p)
count-last cases case p =
    let e : case_count (cases ++ case ∷ []) p ≡ case_count cases p + (0 + one_if (is_in case p)) =
    sum_by-append (λ (c : List TestAnswer). cond (is_in c p) 1 0) cases (case ∷ []) in
    omega (arith, e)

-- a process of a case is in one of its two parts
in-last : (case : List TestAnswer) (l : TestAnswer) (p : Process)
    → is_in (case ++ l ∷ []) p ≡ (is_in case p && (meets p l && true))
in-last case l p = list_all-append (meets p) case (l ∷ [])

parts-sum : (b c : Bool)
    → one_if (b && (beq c false && true)) + one_if (b && (beq c true && true)) ≡ one_if b
parts-sum true true = refl
parts-sum true false = refl
parts-sum false true = refl
parts-sum false false = refl

parts-count : (case : List TestAnswer) (test : Test) (p : Process)
    → one_if (is_in (case_with_answer case test false) p)
    + one_if (is_in (case_with_answer case test true) p)
    ≡ one_if (is_in case p)
parts-count case test p =
    let no : is_in (case_with_answer case test false) p
    ≡ (is_in case p && (beq (answer_of p test) false && true)) =
    in-last case (record { test = test; value = false }) p in
    let yes : is_in (case_with_answer case test true) p
    ≡ (is_in case p && (beq (answer_of p test) true && true)) =
    in-last case (record { test = test; value = true }) p in
    let a = ap one_if no in
    let b = ap one_if yes in
    let s = parts-sum (is_in case p) (answer_of p test) in
    omega (arith, a, b, s)

-- a case that has no process counts for none
if-count : (case : List TestAnswer) (p : Process) → IsProcess p
    → case_count (if_any case) p ≡ one_if (is_in case p)
if-count case p is = go (is_in case (example_of case)) refl (is_in case p) refl
  where
    go : (b : Bool) → is_in case (example_of case) ≡ b → (c : Bool) → is_in case p ≡ c
        → case_count (cond b (case ∷ []) []) p ≡ one_if (is_in case p)
    go true e c f = let one = count-last [] case p in omega (arith, one)
    go false e true f = absurd (let h = examples-there case p is f in cc)
    go false e false f = sym (ap one_if f)

pub parts-more : (cases : List (List TestAnswer)) (case : List TestAnswer) (test : Test)
    (p : Process) → IsProcess p
    → case_count (cases ++ parts_of case test) p ≡ case_count cases p + one_if (is_in case p)
parts-more cases case test p is =
    let a = sum_by-append (λ (c : List TestAnswer). one_if (is_in c p)) cases (parts_of case test)
    in
    let b = sum_by-append (λ (c : List TestAnswer). one_if (is_in c p))
    (if_any (case_with_answer case test false)) (if_any (case_with_answer case test true)) in
    let no = if-count (case_with_answer case test false) p is in
    let yes = if-count (case_with_answer case test true) p is in
    let s = parts-count case test p in
    omega (arith, a, b, no, yes, s)

-- a case that is kept has a process
if-full : (case : List TestAnswer) → All HasProcess (if_any case)
if-full case = go (is_in case (example_of case)) refl
  where
    go : (b : Bool) → is_in case (example_of case) ≡ b
        → All HasProcess (cond b (case ∷ []) [])
    go true e =
        All-cons HasProcess case [] (example_of case, example-is case, e) (All-nil HasProcess)
    go false e = All-nil HasProcess

pub first-full : All HasProcess ([] ∷ [])
first-full =
    All-cons HasProcess [] [] (example_of [], example-is [], refl) (All-nil HasProcess)

pub full-more : (cases : List (List TestAnswer)) (case : List TestAnswer) (test : Test)
    → All HasProcess cases → All HasProcess (cases ++ parts_of case test)
full-more cases case test all =
    All-append HasProcess cases (parts_of case test) all
    (All-append HasProcess (if_any (case_with_answer case test false))
    (if_any (case_with_answer case test true))
    (if-full (case_with_answer case test false)) (if-full (case_with_answer case test true)))

pub full-last : (cases : List (List TestAnswer)) (case : List TestAnswer)
    → All HasProcess (cases ++ case ∷ []) → All HasProcess cases × HasProcess case
full-last cases case all =
    All-pop HasProcess (cases ++ case ∷ []) cases (Some case) refl all

module _ (g : BoundProgram) (d : Demand) where
  -- at first all processes are left
  pub left-first : IsMetOutside g d ([] ∷ [])
  left-first p is none = absurd (omega (arith, none))

  left-if : (b : Bool) (cases : List (List TestAnswer)) (case : List TestAnswer) (p : Process)
      → IsProcess p → is_in case p ≡ b → IsMetOutside g d (cases ++ case ∷ [])
      → ((q : Process) → IsProcess q → is_in case q ≡ true → ScansMeet true g d q)
      → case_count cases p ≡ 0 → ScansMeet true g d p
  left-if true cases case p is inside left obeyed none = obeyed p is inside
  left-if false cases case p is inside left obeyed none =
      left p is (let e = count-last cases case p in let o = ap one_if inside in
      omega (arith, e, o, none))

  -- a case in which the rule is obeyed is left no more
  pub left-without : (cases : List (List TestAnswer)) (case : List TestAnswer)
      → IsMetOutside g d (cases ++ case ∷ [])
      → ((q : Process) → IsProcess q → is_in case q ≡ true → ScansMeet true g d q)
      → IsMetOutside g d cases
  left-without cases case left obeyed p is none =
      left-if (is_in case p) cases case p is refl left obeyed none

  -- the parts of a case are left in its place
  pub left-parts : (cases : List (List TestAnswer)) (case : List TestAnswer) (test : Test)
      → IsMetOutside g d (cases ++ case ∷ [])
      → IsMetOutside g d (cases ++ parts_of case test)
  left-parts cases case test left p is none =
      left p is
      (let e = count-last cases case p in
      let two = parts-more cases case test p is in
      omega (arith, e, two, none))

  -- where none is left the rule holds
  pub left-none : (cases : List (List TestAnswer)) → cases ≡ [] → IsMetOutside g d cases
      → IsMet g d
  left-none cases none left p is = left p is (ap (λ cs. case_count cs p) none)

-- one rule more, and its answer
pub right-more : (g : BoundProgram) (rules : List Rule) (answers : List RuleAnswer) (r : Rule)
    (a : RuleAnswer)
    → AreRightAnswers g rules answers → IsRightAnswer g r a
    → AreRightAnswers g (rules ++ r ∷ []) (answers ++ a ∷ [])
right-more g [] [] r a all one = (one, tt)
right-more g (q ∷ rules) (b ∷ answers) r a all one =
    (all.0, right-more g rules answers r a all.1 one)
right-more g [] (b ∷ answers) r a all one = absurd all
right-more g (q ∷ rules) [] r a all one = absurd all
