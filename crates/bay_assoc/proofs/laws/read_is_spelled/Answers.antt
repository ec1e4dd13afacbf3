use Rattle.bay_assoc.proofs.MessageLemmas.{user_data-exact, request-exact, associate-exact}
use Rattle.bay_assoc.proofs.SpduLemmas.{spdu-exact}
use Rattle.bay_assoc.proofs.laws.read_is_spelled.Goals as goal

pub returns-clause-spdu : goal.returns-clause-spdu
returns-clause-spdu c = spdu-exact.back

pub returns-clause-user : goal.returns-clause-user
returns-clause-user c = user_data-exact.back

pub returns-clause-request : goal.returns-clause-request
returns-clause-request c = request-exact.back

pub returns-clause-associate : goal.returns-clause-associate
returns-clause-associate c = associate-exact.back
