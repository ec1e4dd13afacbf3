use Rattle.bay_control.proofs.LeadsLemmas.{none-leads, one-leads, two-lead}
use Rattle.bay_control.proofs.laws.runs_consist_of_calls.Goals as goal

pub returns-clause-none : goal.returns-clause-none
returns-clause-none l = none-leads

pub returns-clause-one : goal.returns-clause-one
returns-clause-one l = one-leads

pub returns-clause-joined : goal.returns-clause-joined
returns-clause-joined l = two-lead
