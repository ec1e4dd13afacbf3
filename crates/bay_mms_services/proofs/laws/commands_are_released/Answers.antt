use Rattle.bay_mms_services.proofs.OperateLemmas.{answer-operates}
use Rattle.bay_mms_services.proofs.ReleaseLemmas.{commands-are, one-command, request-leaves}
use Rattle.bay_mms_services.proofs.laws.commands_are_released.Goals as goal

pub returns-clause-operated : goal.returns-clause-operated
returns-clause-operated c = answer-operates

pub returns-clause-released : goal.returns-clause-released
returns-clause-released c = commands-are

pub returns-clause-single : goal.returns-clause-single
returns-clause-single c = one-command

pub returns-clause-leaves : goal.returns-clause-leaves
returns-clause-leaves c = request-leaves
