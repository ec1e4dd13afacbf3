-- A process of a case where a condition is sure.
use Rattle.std.proofs.Common.{◌≡◌, Bool, true, false, List, refl, sym, ap, ◌∙◌}
use Rattle.bay_audit_rules.specs.Process.{Process, holds}
use Rattle.bay_audit_rules.specs.declared.rule.ConditionItem.{ConditionItem}
use Rattle.bay_audit.specs.Cases.{is_in}
use Rattle.bay_audit.specs.Conditions.{includes, condition_truths}
use Rattle.bay_audit.specs.Process.{IsProcess}
use Rattle.bay_audit.specs.declared.case.TestAnswer.{TestAnswer}
use Rattle.bay_audit.specs.declared.truth_set.TruthSet.{TruthSet}
use Rattle.bay_audit.proofs.TruthSetLemmas.{condition-included}

sure : (o : TruthSet) (b : Bool) → o.no ≡ false → includes o b ≡ true → b ≡ true
sure o true never one = refl
sure o false never one = absurd (let f : true ≡ false = sym one ∙ never in cc)

pub asked-so : (p : Process) → IsProcess p → (case : List TestAnswer) → is_in case p ≡ true
    → (when : List ConditionItem) (o : TruthSet) → o ≡ condition_truths case when → o.no ≡ false
    → holds when p ≡ true
asked-so p is case inside when o same never =
    sure o (holds when p) never
    (ap (λ (x : TruthSet). includes x (holds when p)) same
    ∙ condition-included p is case inside when)
