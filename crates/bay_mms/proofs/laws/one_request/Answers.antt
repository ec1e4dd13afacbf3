use Rattle.bay_mms.proofs.AnswerLemmas.{answer-held}
use Rattle.bay_mms.proofs.AskLemmas.{asked-read, asked-back, one-asked}
use Rattle.bay_mms_initiate.proofs.InitiateLemmas.{initiate-read, initiate-back}
use Rattle.bay_mms.proofs.laws.one_request.Goals as goal

pub returns-clause-requested : goal.returns-clause-requested
returns-clause-requested c = asked-read

pub returns-clause-spelled : goal.returns-clause-spelled
returns-clause-spelled c = asked-back

pub returns-clause-one : goal.returns-clause-one
returns-clause-one c = one-asked

pub returns-clause-initiate : goal.returns-clause-initiate
returns-clause-initiate c =
    λ octets proposal fits. (initiate-back octets proposal fits, initiate-read octets proposal)

pub returns-clause-answer : goal.returns-clause-answer
returns-clause-answer c = answer-held
