use Rattle.std.proofs.Common.{◌++◌, ◌∷◌, ◌∙◌, [], sym, ap, subst}
use Rattle.bay_audit_hazards.specs.Parts.{IsEvaluated}
use Rattle.bay_audit_hazards.proofs.CountLemmas.{AreLeft, left-parts, left-without, none-in}
use Rattle.bay_audit_hazards.proofs.sweep.sweep.Goals as goal
use Rattle.bay_audit_hazards.proofs.sweep.sweep.Goals.{in-Empty, in-Harmless, in-Split+in_ok-split-in-Split}

pub loop-preserved : goal.loop-preserved
loop-preserved c =
    let net = c.args.network.now in
    let k = c.args.switch in
    let operation = c.args.operation in
    let first = c.args.cases.items in
    let rest = c.pop.new.self.items in
    let case = c.in-Some.case in
    let left : AreLeft net k operation first (rest ++ case ∷ []) =
    subst (AreLeft net k operation first) c.in-Some.ensures.items c.loop.invariant in
    elim c.match-branch-2.branch [
      | in-Empty w ↦
          subst (AreLeft net k operation first) (sym (ap (λ v. v.items) w.left-is))
          (left-without net k operation first rest case left
          (λ p ip h. subst (IsEvaluated net k operation case) w.in-Empty.is
          c.in_ok-evaluate.ensures.right p ip))
      | in-Harmless w ↦
          subst (AreLeft net k operation first) (sym (ap (λ v. v.items) w.left-is))
          (left-without net k operation first rest case left
          (none-in net k operation case
          (subst (IsEvaluated net k operation case) w.in-Harmless.is
          c.in_ok-evaluate.ensures.right)))
      | in-Split+in_ok-split-in-Split w ↦
          subst (AreLeft net k operation first)
          (sym (ap (λ v. v.items) w.left-is ∙ w.in_ok-split-in-Split.ensures))
          (left-parts net k operation first rest case w.in-Split.test left)
    ]
