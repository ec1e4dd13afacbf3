use Rattle.bay_mms_services.proofs.services.answer_fault.Goals as goal

pub returns-in-BadPdu-clause-told
    : goal.returns-in-BadPdu-clause-told
returns-in-BadPdu-clause-told c = rw c.in-BadPdu.is c.answer_reject.ensures

pub returns-in-UnknownService-clause-told
    : goal.returns-in-UnknownService-clause-told
returns-in-UnknownService-clause-told c =
    rw c.in-UnknownService.is c.answer_reject-in-UnknownService.ensures

pub returns-in-TooMany-clause-told
    : goal.returns-in-TooMany-clause-told
returns-in-TooMany-clause-told c = rw c.in-TooMany.is c.answer_error.ensures
