use Rattle.bay_mms_services.proofs.ReplyLemmas.{said_alike}
use Rattle.bay_mms_services.proofs.services.answer_conclude.Goals as goal

pub returns : goal.returns
returns c =
    said_alike c.answer_with_pdu.result _ _ c.in_ok-conclude.ensures c.answer_with_pdu.ensures
