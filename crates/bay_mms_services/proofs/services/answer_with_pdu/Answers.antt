use Rattle.bay_mms_services.proofs.services.answer_with_pdu.Goals as goal

pub returns : goal.returns
returns c = rw c.new.ensures.items at c.answer_with_decisions.ensures
