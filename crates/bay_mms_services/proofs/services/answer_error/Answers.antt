use Rattle.bay_mms_services.proofs.ReplyLemmas.{said_alike}
use Rattle.bay_mms_services.proofs.services.answer_error.Goals as goal

pub returns : goal.returns
returns c =
    said_alike c.answer_with_pdu.result _ _ c.in_ok-error.ensures.text c.answer_with_pdu.ensures
