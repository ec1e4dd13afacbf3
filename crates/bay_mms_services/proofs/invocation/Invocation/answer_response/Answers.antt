use Rattle.bay_mms_services.proofs.ReplyLemmas.{said_as, responded-fits, responded-over}
use Rattle.bay_mms_services.proofs.invocation.Invocation.answer_response.Goals as goal

pub returns-in-Some : goal.returns-in-Some
returns-in-Some c pdu b gives =
    said_as c.answer_with_pdu.result _ b _ c.answer_with_pdu.ensures
    (responded-fits c.args.self.now.client c.args.self.now.id b pdu
    c.in-Some.pdu c.in_ok-pdu.field-0
    (c.in_ok-pdu.ensures.pdu c.args.self.now.client.size pdu gives) c.in-Some.is)

pub returns-in-None : goal.returns-in-None
returns-in-None c pdu b gives =
    said_as c.answer_error.result _ b _ c.answer_error.ensures
    (responded-over c.args.self.now.client c.args.self.now.id b pdu c.in_ok-pdu.field-0
    (c.in_ok-pdu.ensures.pdu c.args.self.now.client.size pdu gives) c.in-None.is)
