use Rattle.std.proofs.Common.{arith}
use Rattle.bay_ber.proofs.ReadLemmas.{IsBytes}
use Rattle.bay_mms.proofs.AnswerLemmas.{answer-held}
use Rattle.bay_mms_services.specs.Views.{bay_with, controls_view}
use Rattle.bay_mms_services.proofs.AnswerLemmas.{answered_as, end_short, sent_short}
use Rattle.bay_mms_services.proofs.bay.ServedBay.answer.Goals as goal

pub returns-clause-ok : goal.returns-clause-ok
returns-clause-ok c =
    let pdu = c.args.pdu.now in
    let bytes : IsBytes pdu = λ i. omega (arith, c.type_inv.pdu i) in
    answered_as c.respond.result c.args.client
    (controls_view c.args.self.now c.respond.new.controls)
    (bay_with c.args.inputs.now c.args.self.now)
    c.read_request-request.result _
    (answer-held pdu c.read_request-request.result bytes c.read_request-request.ensures)
    c.respond.ensures.memory c.respond.ensures.ok

pub returns-clause-short : goal.returns-clause-short
returns-clause-short c =
    sent_short c.respond.result c.args.client (controls_view c.args.self.now c.respond.new.controls)
    (bay_with c.args.inputs.now c.args.self.now)
    c.read_request-request.result c.requires.most c.respond.ensures.ok

pub returns-clause-termination : goal.returns-clause-termination
returns-clause-termination c =
    end_short c.respond.result c.args.client (controls_view c.args.self.now c.respond.new.controls)
    (bay_with c.args.inputs.now c.args.self.now)
    c.read_request-request.result c.requires.most c.respond.ensures.ok
