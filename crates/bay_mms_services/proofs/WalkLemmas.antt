-- What holds of each variable that is read or written, and of each answer, by what it comes to.
use Rattle.std.proofs.Common.{◌≡◌, ◌≤◌, ℕ, Bool, true, false, cond, nat_le, List, [], ◌∷◌, ◌++◌, length, Option, Some, None, Result, Ok, Err, refl, arith}
use Rattle.std.proofs.lemmas.Bool.Decides.{nat_tests}
use Rattle.bay_ber.proofs.SizeLemmas.{length-element}
use Rattle.bay_tree.specs.Rows.{name_at}
use Rattle.bay_control.specs.Acts as act
use Rattle.bay_control.specs.Acts.{Act, Entry}
use Rattle.bay_control.specs.Decisions.{select_outcome}
use Rattle.bay_control.specs.TimedCalls as call
use Rattle.bay_control.specs.TimedCalls.{Call}
use Rattle.bay_control.specs.Requests.{requested_choice}
use Rattle.bay_mms.specs.Controls as asked
use Rattle.bay_mms.specs.Controls.{Control, operate_or_error, cancel_or_error}
use Rattle.bay_mms.specs.Data.{Datum}
use Rattle.bay_mms.specs.Requests.{MmsName, ServiceRequest, identify, names, attributes, read, write, MmsRequest, initiate, conclude, confirmed}
use Rattle.bay_mms.specs.Responses.{conclude_response_text, error_text, failure_result, read_text, reject_text, write_text}
use Rattle.bay_ber.specs.Tags.{context}
use Rattle.bay_mms.specs.declared.fault.DataAccessError.{DataAccessError}
use Rattle.bay_mms.specs.declared.fault.DataAccessError.TheVariants.{ObjectAccessDenied, ObjectNonExistent}
use Rattle.bay_mms.specs.declared.fault.MmsFault.{MmsFault}
use Rattle.bay_mms.specs.declared.fault.MmsFault.TheVariants.{BadPdu, UnknownService, TooMany, OutOfMemory}
use Rattle.bay_mms.specs.declared.response.ErrorClass.{ErrorClass}
use Rattle.bay_mms.specs.declared.response.ErrorClass.TheVariants.{NoSuchObject, Resource}
use Rattle.bay_mms.specs.declared.response.RejectReason.{RejectReason}
use Rattle.bay_mms.specs.declared.response.RejectReason.TheVariants.{UnrecognizedService, InvalidPdu}
use Rattle.bay_mms.proofs.ShortLemmas.{error_short, reject_short}
use Rattle.bay_mms_services.specs.ObservedEntries.{act_of_read, act_of_write, cancel_act, operate_act, read_act, select_with_act, write_act}
use Rattle.bay_mms_services.specs.Answers.{AnswerData, answer_of, attributes_answer, plain_answer, service_answer, one_pdu_answer}
use Rattle.bay_mms_services.specs.Bay.{Bay, with_controls}
use Rattle.bay_mms_services.specs.Controls.{control_request_of, decision_view}
use Rattle.bay_mms_services.specs.Entries.{call_of_read, call_of_write, cancel_call, message_entries, operate_call, read_call, read_entries, select_with_call, service_entries, target_of_row, write_call, write_entries}
use Rattle.bay_mms_services.specs.Reads.{ReadState, initial_read, read_all, read_part, read_row, read_target, read_after_select, read_after_value}
use Rattle.bay_mms_services.specs.Rows.{row_named}
use Rattle.bay_mms_services.specs.Writes.{WriteState, write_cancel, initial_write, write_operate, write_select_with, write_all, write_after_error, write_part, write_row, write_target}
use Rattle.bay_mms_services.specs.declared.client.ClientContext.{ClientContext}
use Rattle.bay_mms_services.specs.declared.target.ControlPart.{ControlPart}
use Rattle.bay_mms_services.specs.declared.target.ControlPart.TheVariants.{Select, SelectWith, Operate, Cancel}
use Rattle.bay_mms_services.specs.declared.target.Target.{Target}

-- one that is read: a value, nothing, or SBO, which selects
module _ (c : ClientContext) (b : Bay) (r : ReadState)
    (P : Option Act → Option Call → ReadState → Type 0)
    (value : (place : ℕ) → P None None (read_after_value b place r))
    (nothing : P None None (record r {
      results = r.results ++ failure_result ObjectNonExistent;
    }))
    (selects : (place k : ℕ) → P (Some (act.Select c.association k))
    (Some (call.Select c.association k)) (read_after_select c b k (name_at b.rows place) r
    (select_outcome c.association k c.now r.controls))) where
  read-part-by : (place k : ℕ) (part : ControlPart)
      → P (read_act c.association k part) (read_call c k part) (read_part c b place r k part)
  read-part-by place k Select = selects place k
  read-part-by place k SelectWith = value place
  read-part-by place k Operate = value place
  read-part-by place k Cancel = value place

  read-target-by : (place : ℕ) (t : Option Target)
      → P (act_of_read c.association t) (call_of_read c t) (read_target c b place r t)
  read-target-by place None = value place
  read-target-by place (Some t) = read-part-by place t.switch t.part

  pub read-by : (row : Option ℕ) → P (act_of_read c.association (target_of_row b row))
      (call_of_read c (target_of_row b row)) (read_row c b r row)
  read-by None = nothing
  read-by (Some place) = read-target-by place (target_of_row b (Some place))

-- one that is written: an error, or what is asked of a control
module _ (c : ClientContext) (b : Bay) (w : WriteState)
    (P : Option Act → Option Call → WriteState → Type 0)
    (failed : (error : DataAccessError) → P None None (write_after_error error w))
    (selects : (k : ℕ) (item : List ℕ) (o : asked.Operate)
    → P (Some (act.SelectWith c.association k (requested_choice (control_request_of o))))
    (Some (call.SelectWith c.association k (control_request_of o)))
    (write_select_with c b k item w (Ok o)))
    (operates : (k : ℕ) (item : List ℕ) (o : asked.Operate)
    → P (Some (act.Operate c.association k (requested_choice (control_request_of o))))
    (Some (call.Operate c.association k (control_request_of o) (decision_view c k b)))
    (write_operate c b k item w (Ok o)))
    (cancels : (k : ℕ) (item : List ℕ) (control : Control) → P (Some (act.Cancel c.association k))
    (Some (call.Cancel c.association k)) (write_cancel c b k item w (Ok control))) where
  select-with-by : (k : ℕ) (item : List ℕ) (o : Result asked.Operate DataAccessError)
      → P (select_with_act c.association k o) (select_with_call c k o)
      (write_select_with c b k item w o)
  select-with-by k item (Ok o) = selects k item o
  select-with-by k item (Err error) = failed error

  operate-by : (k : ℕ) (item : List ℕ) (o : Result asked.Operate DataAccessError)
      → P (operate_act c.association k o) (operate_call c k b o) (write_operate c b k item w o)
  operate-by k item (Ok o) = operates k item o
  operate-by k item (Err error) = failed error

  cancel-by : (k : ℕ) (item : List ℕ) (o : Result Control DataAccessError)
      → P (cancel_act c.association k o) (cancel_call c k o) (write_cancel c b k item w o)
  cancel-by k item (Ok control) = cancels k item control
  cancel-by k item (Err error) = failed error

  write-part-by : (k : ℕ) (item : List ℕ) (given : Datum) (part : ControlPart)
      → P (write_act c.association given k part) (write_call c b given k part)
      (write_part c b k item given w part)
  write-part-by k item given Select = failed ObjectAccessDenied
  write-part-by k item given SelectWith = select-with-by k item (operate_or_error given)
  write-part-by k item given Operate = operate-by k item (operate_or_error given)
  write-part-by k item given Cancel = cancel-by k item (cancel_or_error given)

  write-target-by : (item : List ℕ) (given : Datum) (t : Option Target)
      → P (act_of_write c.association given t) (call_of_write c b given t)
      (write_target c b item given w t)
  write-target-by item given None = failed ObjectAccessDenied
  write-target-by item given (Some t) = write-part-by t.switch item given t.part

  pub write-by : (given : Datum) (row : Option ℕ)
      → P (act_of_write c.association given (target_of_row b row))
      (call_of_write c b given (target_of_row b row)) (write_row c b given w row)
  write-by given None = failed ObjectNonExistent
  write-by given (Some place) =
      write-target-by (name_at b.rows place) given (target_of_row b (Some place))

-- what is sent and done of a read and of a write whose responses fit
abbrev pub read_sent : ℕ → Bay → ReadState → AnswerData
read_sent id b r =
    one_pdu_answer (read_text id r.results) r.decisions (with_controls r.controls b)

abbrev pub write_sent : ℕ → Bay → WriteState → AnswerData
write_sent id b w = record {
  sent = w.reports ++ write_text id w.results ∷ [];
  commands = w.commands;
  decisions = w.decisions;
  termination = w.termination;
  after = with_controls w.controls b;
}

pub fits-size : (size : ℕ) (pdu : List ℕ) → size ≤ 65000 → nat_le (length pdu) size ≡ true
    → length pdu ≤ 65000
fits-size size pdu most is = grind (arith, nat_tests)

-- an answer: a PDU that does nothing, what is read, or what is written
module _ (c : ClientContext) (b : Bay) (P : List Entry → AnswerData → Type 0)
    (plain : (pdu : List ℕ) → (c.size ≤ 65000 → length pdu ≤ 65000) → P [] (plain_answer pdu b))
    (reads : (id : ℕ) (ns : List MmsName)
    → nat_le (length (read_text id (read_all c b ns (initial_read b)).results)) c.size ≡ true
    → P (read_entries c b ns (initial_read b)) (read_sent id b (read_all c b ns (initial_read b))))
    (writes : (id : ℕ) (ns : List MmsName) (values : List Datum)
    → nat_le (length (write_text id (write_all c b ns values (initial_write b)).results)) c.size
    ≡ true
    → P (write_entries c b ns values (initial_write b))
    (write_sent id b (write_all c b ns values (initial_write b)))) where
  error-by : (id : ℕ) (class : ErrorClass) → P [] (plain_answer (error_text id class) b)
  error-by id class =
      plain (error_text id class) (λ most. omega (arith, error_short id class))

  reject-by : (id : Option ℕ) (reason : RejectReason)
      → P [] (plain_answer (reject_text id reason) b)
  reject-by id reason =
      plain (reject_text id reason) (λ most. omega (arith, reject_short id reason))

  -- what is too long is undone
  within-by : (id : ℕ) (entries : List Entry) (x : AnswerData) (fits : Bool)
      → (fits ≡ true → P entries x)
      → P (cond fits entries []) (cond fits x (plain_answer (error_text id Resource) b))
  within-by id entries x true p = p refl
  within-by id entries x false p = error-by id Resource

  response-by : (id : ℕ) (pdu : List ℕ) (fits : Bool) → nat_le (length pdu) c.size ≡ fits
      → P [] (cond fits (plain_answer pdu b) (plain_answer (error_text id Resource) b))
  response-by id pdu true is = plain pdu (λ most. fits-size c.size pdu most is)
  response-by id pdu false is = error-by id Resource

  attributes-by : (id : ℕ) (row : Option ℕ) → P [] (attributes_answer c id b row)
  attributes-by id None = error-by id NoSuchObject
  attributes-by id (Some place) = response-by id _ _ refl

  service-by : (id : ℕ) (asking : ServiceRequest)
      → P (service_entries c id b asking) (service_answer c id b asking)
  service-by id identify = response-by id _ _ refl
  service-by id (names class place after) = response-by id _ _ refl
  service-by id (attributes name) = attributes-by id (row_named b name)
  service-by id (read ns) =
      within-by id _ _
      (nat_le (length (read_text id (read_all c b ns (initial_read b)).results)) c.size)
      (reads id ns)
  service-by id (write ns values) =
      within-by id _ _
      (nat_le (length (write_text id (write_all c b ns values (initial_write b)).results))
      c.size) (writes id ns values)

  pub answer-by : (m : Result MmsRequest MmsFault) → P (message_entries c b m) (answer_of c b m)
  answer-by (Ok (initiate proposal)) = reject-by None InvalidPdu
  answer-by (Ok conclude) =
      plain conclude_response_text (λ most. omega (arith, length-element (context 12) []))
  answer-by (Ok (confirmed id asking)) = service-by id asking
  answer-by (Err (BadPdu known)) = reject-by known InvalidPdu
  answer-by (Err (UnknownService id)) = reject-by (Some id) UnrecognizedService
  answer-by (Err (TooMany id)) = error-by id Resource
  answer-by (Err OutOfMemory) = reject-by None InvalidPdu
