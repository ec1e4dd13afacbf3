use Rattle.std.proofs.Common.{◌≡◌, ◌+◌, ◌++◌, ◌∷◌, [], List, sym, ap, ◌∙◌, subst, arith}
use Rattle.std.specs.List.{All}
use Rattle.std.proofs.lemmas.List.{append-nil}
use Rattle.std.proofs.lemmas.List.Elements.{All-nil}
use Rattle.bay_audit_rules.specs.Process.{Process}
use Rattle.bay_audit.specs.declared.demand.Demand.{Demand}
use Rattle.bay_audit.specs.Process.{IsProcess}
use Rattle.bay_audit.specs.Rules.{AreRightInCases, HasProcess, IsVerdict, case_count, reported_count}
use Rattle.bay_audit.specs.declared.answer.ReportedCase.{ReportedCase}
use Rattle.bay_audit.specs.declared.case.TestAnswer.{TestAnswer}
use Rattle.bay_audit.proofs.ReleaseLemmas.{one-split, one-told, told-full, told-more, verdict-told}
use Rattle.bay_audit.proofs.SearchLemmas.{first-full, full-last, full-more}
use Rattle.bay_audit.proofs.release.find_release.Goals as goal
use Rattle.bay_audit.proofs.release.find_release.Goals.{in-Ok+in_ok-push-in-Ok, in-Err+in_ok-split-in-Err, else-loop-test, then-loop-test+in_default}

pub loop-init : goal.loop-init
loop-init c =
    let g = c.args.program.now in
    let none = sym c.new-cases.ensures.items in
    record {
      release = subst (AreRightInCases g c.args.switch c.args.operation) none tt;
      full = subst (All (λ (d : ReportedCase). HasProcess d.case)) none
          (All-nil (λ (d : ReportedCase). HasProcess d.case));
      left = subst (All HasProcess) (sym c.in_ok-left.ensures) first-full;
      one = λ p is. subst (λ (ds : List ReportedCase). reported_count ds p
          + case_count c.in_ok-left.left.items p ≡ 1) none
          (let e = ap (λ (cs : List (List TestAnswer)). case_count cs p) c.in_ok-left.ensures in
          omega (arith, e));
    }

pub loop-preserved : goal.loop-preserved
loop-preserved c =
    let g = c.args.program.now in
    let k = c.args.switch in
    let operation = c.args.operation in
    let case = c.in-Some.case in
    let before : (p : Process) → IsProcess p → reported_count c.loop.cases.items p
    + case_count (c.pop.new.self.items ++ case ∷ []) p ≡ 1 =
    λ p is. subst (λ (cs : List (List TestAnswer)). reported_count c.loop.cases.items p
    + case_count cs p ≡ 1)
    c.in-Some.ensures.items (c.loop.invariant.one p is) in
    let full = full-last c.pop.new.self.items case
    (subst (All HasProcess) c.in-Some.ensures.items c.loop.invariant.left) in
    elim c.match-release_or_test.branch [
      | in-Ok+in_ok-push-in-Ok w ↦
          let cases = ap (λ v. v.items) w.cases-is ∙ w.in_ok-push-in-Ok.ensures.items in
          record {
            release = subst (AreRightInCases g k operation) (sym cases)
                (told-more g k operation c.loop.cases.items
                (record { case = case; release = w.in-Ok.release })
                c.loop.invariant.release
                (verdict-told g k operation case c.in_ok-find_verdict.field-0 w.in-Ok.release
                (subst (λ (d : Demand). IsVerdict g d case c.in_ok-find_verdict.field-0)
                c.in_ok-demand.ensures c.in_ok-find_verdict.ensures) w.in-Ok.ensures));
            full = subst (All (λ (d : ReportedCase). HasProcess d.case)) (sym cases)
                (told-full c.loop.cases.items (record { case = case; release = w.in-Ok.release })
                c.loop.invariant.full full.1);
            left = subst (All HasProcess) (sym (ap (λ v. v.items) w.left-is)) full.0;
            one = λ p is. subst (λ (ds : List ReportedCase). reported_count ds p
                + case_count c.match-release_or_test.left.items p ≡ 1) (sym cases)
                (subst (λ (cs : List (List TestAnswer)).
                reported_count (c.loop.cases.items
                ++ record { case = case; release = w.in-Ok.release } ∷ [])
                p
                + case_count cs p ≡ 1) (sym (ap (λ v. v.items) w.left-is))
                (one-told c.loop.cases.items c.pop.new.self.items
                (record { case = case; release = w.in-Ok.release }) p (before p is)));
          }
      | in-Err+in_ok-split-in-Err w ↦
          let cases = ap (λ v. v.items) w.cases-is in
          record {
            release = subst (AreRightInCases g k operation) (sym cases) c.loop.invariant.release;
            full = subst (All (λ (d : ReportedCase). HasProcess d.case)) (sym cases)
                c.loop.invariant.full;
            left = subst (All HasProcess)
                (sym (ap (λ v. v.items) w.left-is ∙ w.in_ok-split-in-Err.ensures))
                (full-more c.pop.new.self.items case w.in-Err.test full.0);
            one = λ p is. subst (λ (ds : List ReportedCase). reported_count ds p
                + case_count c.match-release_or_test.left.items p ≡ 1) (sym cases)
                (subst (λ (cs : List (List TestAnswer)). reported_count c.loop.cases.items p
                + case_count cs p ≡ 1)
                (sym (ap (λ v. v.items) w.left-is ∙ w.in_ok-split-in-Err.ensures))
                (one-split c.loop.cases.items c.pop.new.self.items case w.in-Err.test p is
                (before p is)));
          }
    ]

pub returns-clause-right : goal.returns-clause-right
returns-clause-right c =
    let left : c.loop.left.items ≡ c.loop-test.left.items =
    elim c.loop-test.branch [
      | else-loop-test w ↦ sym (ap (λ v. v.items) w.left-is)
      | then-loop-test+in_default w ↦
          w.in_default.ensures.items ∙ append-nil w.pop.new.self.items
          ∙ sym (ap (λ v. v.items) w.left-is)
    ] in
    record {
      release = c.loop.invariant.release;
      full = c.loop.invariant.full;
      one = λ p is. subst (λ (cs : List (List TestAnswer)). reported_count c.loop.cases.items p
          + case_count cs p ≡ 1) left (c.loop.invariant.one p is);
      lost = c.in_ok-lost_release.ensures;
      start = c.in_ok-start_release.ensures;
    }
