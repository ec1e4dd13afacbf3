use Rattle.std.proofs.Common.{sym, ◌∙◌, ap, ap₂}
use Rattle.std.proofs.lemmas.Bool.{not-true}
use Rattle.bay_audit.specs.Conditions.{rule_truths}
use Rattle.bay_audit.specs.declared.truth_set.TruthSet.{TruthSet}
use Rattle.bay_audit.proofs.verdict.find_verdict.Goals as goal
use Rattle.bay_audit.proofs.RuleLemmas.{idle-in}

pub returns-then-not-covered : goal.returns-then-not-covered
returns-then-not-covered c =
    idle-in
    c.args.program.now
    c.args.demand.now c.args.case.now
    (ap (λ (o : TruthSet). o.yes)
    (sym (c.in_ok-covered.ensures
    ∙ ap₂ (rule_truths c.args.case.now) c.as_slice.ensures c.as_slice-2.ensures))
    ∙ not-true c.in_ok-covered.covered.yes c.if-not-covered.true)
