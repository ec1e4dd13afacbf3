-- What was read of a PDU is what its octets ask.
use Rattle.std.proofs.Common.{◌≡◌, ◌≢◌, ◌≤◌, ⊎_elim, Result, Ok, Err, IfOk, ap, sym, subst, ◌∙◌}
use Rattle.std.specs.declared.alloc.AllocError.{AllocError}
use Rattle.bay_base.specs.Exact.{ExactOr}
use Rattle.bay_control.specs.Decisions.{State}
use Rattle.bay_mms.specs.RequestViews.{request_view}
use Rattle.bay_mms.specs.Requests.{MmsRequest}
use Rattle.bay_mms.specs.declared.fault.MmsFault.{MmsFault}
use Rattle.bay_mms.specs.declared.fault.MmsFault.TheVariants.{OutOfMemory}
use Rattle.bay_mms.specs.declared.request.Request.{Request}
use Rattle.bay_mms_services.specs.Answers.{answer_of}
use Rattle.bay_mms_services.specs.Bay.{Bay}
use Rattle.bay_mms_services.specs.Controls.{IsShort}
use Rattle.bay_mms_services.specs.Views.{AnswersAs, request_result_view}
use Rattle.bay_mms_services.specs.declared.answer.PduAnswer.{PduAnswer}
use Rattle.bay_mms_services.specs.declared.client.ClientContext.{ClientContext}
use Rattle.bay_mms_services.proofs.ShortLemmas.{AreShort, answer-brief, answer-short}

asked-is : (request : Result Request MmsFault) (held : Result MmsRequest MmsFault)
    → ExactOr OutOfMemory request_view request held → request ≢ Err OutOfMemory
    → held ≡ request_result_view request
asked-is (Ok r) held gives known = gives
asked-is (Err e) held gives known =
    ⊎_elim (λ (is : e ≡ OutOfMemory). absurd (known (ap Err is))) (λ (is : held ≡ Err e). is) gives

pub answered_as : (r : Result PduAnswer AllocError) (c : ClientContext) (o : State) (b : Bay)
    (request : Result Request MmsFault) (held : Result MmsRequest MmsFault)
    → ExactOr OutOfMemory request_view request held
    → IfOk r (λ _. request ≢ Err OutOfMemory)
    → IfOk r (λ a. AnswersAs a o b (answer_of c b (request_result_view request)))
    → IfOk r (λ a. AnswersAs a o b (answer_of c b held))
answered_as (Err e) c o b request held gives known told = tt
answered_as (Ok a) c o b request held gives known told =
    subst (λ (x : Result MmsRequest MmsFault). AnswersAs a o b (answer_of c b x))
    (sym (asked-is request held gives known)) told

pub sent_short : (r : Result PduAnswer AllocError) (c : ClientContext) (o : State) (b : Bay)
    (request : Result Request MmsFault) → c.size ≤ 65000
    → IfOk r (λ a. AnswersAs a o b (answer_of c b (request_result_view request)))
    → IfOk r (λ a. AreShort a.sent.items)
sent_short (Err e) c o b request most told = tt
sent_short (Ok a) c o b request most told =
    subst AreShort (sym told.sent) (answer-short c b (request_result_view request) most)

pub end_short : (r : Result PduAnswer AllocError) (c : ClientContext) (o : State) (b : Bay)
    (request : Result Request MmsFault) → c.size ≤ 65000
    → IfOk r (λ a. AnswersAs a o b (answer_of c b (request_result_view request)))
    → IfOk r (λ a. IsShort a.termination)
end_short (Err e) c o b request most told = tt
end_short (Ok a) c o b request most told =
    subst IsShort (sym told.termination) (answer-brief c b (request_result_view request) most).1

pub not-memory : (r : Result PduAnswer AllocError) (request : Result Request MmsFault)
    (fault : MmsFault) → request ≡ Err fault → IfOk r (λ _. fault ≢ OutOfMemory)
    → IfOk r (λ _. request ≢ Err OutOfMemory)
not-memory (Ok a) request fault is other =
    λ memory. other (let by : ◌≡◌ {A = Result Request MmsFault} (Err fault) (Err OutOfMemory) =
    sym is ∙ memory in cc)
not-memory (Err e) request fault is other = tt
