use Rattle.std.proofs.Common.{ap, Result, Ok, None, ◌∙◌}
use Rattle.bay_mms.specs.Responses.{conclude_response_text}
use Rattle.bay_mms.specs.declared.fault.MmsFault.{MmsFault}
use Rattle.bay_mms.specs.declared.request.Request.{Request}
use Rattle.bay_mms.specs.declared.response.RejectReason.TheVariants.{InvalidPdu}
use Rattle.bay_mms_services.specs.Answers.{answer_of, refusal_answer, reject_answer, plain_answer}
use Rattle.bay_mms_services.specs.Bay.{Bay}
use Rattle.bay_mms_services.specs.Views.{bay_with, request_result_view}
use Rattle.bay_mms_services.proofs.AnswerLemmas.{not-memory}
use Rattle.bay_mms_services.proofs.ReplyLemmas.{answered_from}
use Rattle.bay_mms_services.proofs.bay.ServedBay.respond.Goals as goal

pub returns-in-Ok-Initiate-clause-ok : goal.returns-in-Ok-Initiate-clause-ok
returns-in-Ok-Initiate-clause-ok c =
    let b = bay_with c.args.inputs.now c.args.self.now in
    rw c.requires.first (answered_from c.answer_reject.result
    (λ (d : Bay). reject_answer None InvalidPdu d) b _
    c.answer_reject.ensures
    (ap (λ (q : Result Request MmsFault). answer_of c.args.client b (request_result_view q))
    (c.in-Ok-Initiate.is ∙ ap Ok c.in-Ok-Initiate.field-0-is)))

pub returns-in-Ok-Conclude-clause-ok : goal.returns-in-Ok-Conclude-clause-ok
returns-in-Ok-Conclude-clause-ok c =
    let b = bay_with c.args.inputs.now c.args.self.now in
    rw c.requires.first (answered_from c.answer_conclude.result
    (λ (d : Bay). plain_answer conclude_response_text d) b _
    c.answer_conclude.ensures
    (ap (λ (q : Result Request MmsFault). answer_of c.args.client b (request_result_view q))
    (c.in-Ok-Conclude.is ∙ ap Ok c.in-Ok-Conclude.field-0-is)))

pub returns-in-Err-clause-ok : goal.returns-in-Err-clause-ok
returns-in-Err-clause-ok c =
    let b = bay_with c.args.inputs.now c.args.self.now in
    rw c.requires.first (answered_from c.answer_fault.result
    (λ (d : Bay). refusal_answer c.in-Err.fault d) b _
    c.answer_fault.ensures.told (ap
    (λ (q : Result Request MmsFault). answer_of c.args.client b (request_result_view q))
    c.in-Err.is))

pub returns-in-Err-clause-memory : goal.returns-in-Err-clause-memory
returns-in-Err-clause-memory c =
    not-memory c.answer_fault.result c.args.request c.in-Err.fault c.in-Err.is
    c.answer_fault.ensures.memory
