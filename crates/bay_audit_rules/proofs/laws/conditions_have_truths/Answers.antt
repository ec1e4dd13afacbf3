use Rattle.bay_audit_rules.proofs.LawLemmas.{are-conditions, are-truths}
use Rattle.bay_audit_rules.proofs.laws.conditions_have_truths.Goals as goal

pub returns-clause-conditions : goal.returns-clause-conditions
returns-clause-conditions c = are-conditions

pub returns-clause-truths : goal.returns-clause-truths
returns-clause-truths c = are-truths
