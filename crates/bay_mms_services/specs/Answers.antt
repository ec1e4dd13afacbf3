-- The answer to a PDU of a client, and its effect (ISO 9506-2).
use Rattle.std.specs.Prelude.{ℕ, false, List, [], ◌∷◌, ◌++◌, length, nat_le, Option, Some, None, Result, Ok, Err, if◌then◌else◌}
use Rattle.bay_ber.specs.Writing.{element, truth_octets}
use Rattle.bay_mms.specs.Data.{Datum}
use Rattle.bay_mms.specs.Grammar.{request_in}
use Rattle.bay_mms.specs.Nodes.{type_at}
use Rattle.bay_mms.specs.Requests.{MmsName, ServiceRequest, identify, names, attributes, read, write, MmsRequest, initiate, conclude, confirmed}
use Rattle.bay_mms.specs.Responses as response
use Rattle.bay_mms.specs.Responses.{conclude_response_text, error_text, identity_text, read_text, reject_text, write_text}
use Rattle.bay_ber.specs.Tags.{context, constructed}
use Rattle.bay_mms.specs.Types.{type_text}
use Rattle.bay_mms.specs.declared.fault.MmsFault.{MmsFault}
use Rattle.bay_mms.specs.declared.fault.MmsFault.TheVariants.{BadPdu, UnknownService, TooMany, OutOfMemory}
use Rattle.bay_mms.specs.declared.response.ErrorClass.TheVariants.{NoSuchObject, Resource}
use Rattle.bay_mms.specs.declared.response.RejectReason.{RejectReason}
use Rattle.bay_mms.specs.declared.response.RejectReason.TheVariants.{UnrecognizedService, InvalidPdu}
use Rattle.bay_mms_services.specs.Bay.{Bay, with_controls}
use Rattle.bay_mms_services.specs.Names.{name_list_text}
use Rattle.bay_mms_services.specs.Reads.{ReadState, initial_read, read_all}
use Rattle.bay_mms_services.specs.Rows.{row_named}
use Rattle.bay_mms_services.specs.Writes.{WriteState, initial_write, write_all}
use Rattle.bay_mms_services.specs.declared.answer.Command.{Command}
use Rattle.bay_mms_services.specs.declared.answer.ControlDecision.{ControlDecision}
use Rattle.bay_mms_services.specs.declared.answer.TerminationReports.{TerminationReports}
use Rattle.bay_mms_services.specs.declared.client.ClientContext.{ClientContext}

-- the answer to a PDU: the PDUs to send in their order, the commands, the decisions on controls,
-- the reports for the end of an operate, and the bay after the PDU
pub record AnswerData : Type 0 where
  pub sent : List (List ℕ)
  pub commands : List Command
  pub decisions : List ControlDecision
  pub termination : Option TerminationReports
  pub after : Bay

-- an answer of one PDU, with decisions and without commands
abbrev pub one_pdu_answer : List ℕ → List ControlDecision → Bay → AnswerData
one_pdu_answer pdu decisions b = record {
  sent = pdu ∷ [];
  commands = [];
  decisions = decisions;
  termination = None;
  after = b;
}

-- an answer with no effect
abbrev pub plain_answer : List ℕ → Bay → AnswerData
plain_answer pdu b = one_pdu_answer pdu [] b

-- If a response has more octets than agreed, the answer is an error of the class resource, with no
-- effect.
abbrev pub answer_within_size : ClientContext → ℕ → Bay → List ℕ → AnswerData → AnswerData
answer_within_size c id b response answer =
    if nat_le (length response) c.size then answer else plain_answer (error_text id Resource) b

-- an answer with a response and no effect
abbrev pub response_answer : ClientContext → ℕ → Bay → List ℕ → AnswerData
response_answer c id b response = answer_within_size c id b response (plain_answer response b)

-- ---- the services

-- the answer to identify: the vendor, the model and the revision
abbrev pub identify_answer : ClientContext → ℕ → Bay → AnswerData
identify_answer c id b =
    response_answer c id b (response.confirmed_response id
    (element (constructed 2) (identity_text b.vendor b.model b.revision)))

-- the answer with the type of a variable, which a client cannot delete (ISO 9506-2,
-- mmsDeletable FALSE)
abbrev pub attributes_answer : ClientContext → ℕ → Bay → Option ℕ → AnswerData
attributes_answer c id b None = plain_answer (error_text id NoSuchObject) b
attributes_answer c id b (Some place) =
    response_answer c id b (response.confirmed_response id
    (element (constructed 6)
    (element (context 0) (truth_octets false)
    ++ element (constructed 2) (type_text (type_at b.rows place)))))

-- the answer to a read, if its response fits
abbrev pub answer_from_reading : ClientContext → ℕ → Bay → ReadState → AnswerData
answer_from_reading c id b r =
    answer_within_size c id b (read_text id r.results)
    (one_pdu_answer (read_text id r.results) r.decisions (with_controls r.controls b))

-- the answer to a read of these variables
abbrev pub read_answer : ClientContext → ℕ → Bay → List MmsName → AnswerData
read_answer c id b ns = answer_from_reading c id b (read_all c b ns (initial_read b))

-- the answer to a write, if its response fits; the reports of refusals come before the response
abbrev pub answer_from_writing : ClientContext → ℕ → Bay → WriteState → AnswerData
answer_from_writing c id b w = answer_within_size c id b (write_text id w.results)
    (record {
      sent = w.reports ++ write_text id w.results ∷ [];
      commands = w.commands;
      decisions = w.decisions;
      termination = w.termination;
      after = with_controls w.controls b;
    })

-- the answer to a write of these data to these variables
abbrev pub write_answer : ClientContext → ℕ → Bay → List MmsName → List Datum → AnswerData
write_answer c id b ns values =
    answer_from_writing c id b (write_all c b ns values (initial_write b))

-- the answer to a confirmed request
abbrev pub service_answer : ClientContext → ℕ → Bay → ServiceRequest → AnswerData
service_answer c id b identify = identify_answer c id b
service_answer c id b (names class place after) =
    response_answer c id b (name_list_text c id class place after b)
service_answer c id b (attributes name) = attributes_answer c id b (row_named b name)
service_answer c id b (read ns) = read_answer c id b ns
service_answer c id b (write ns values) = write_answer c id b ns values

-- ---- the PDUs

-- a reject, with the invoke id if it could be read
abbrev pub reject_answer : Option ℕ → RejectReason → Bay → AnswerData
reject_answer id reason b = plain_answer (reject_text id reason) b

-- Associations are opened elsewhere: an initiate is not a valid PDU here, and has no invoke id.
abbrev pub message_answer : ClientContext → Bay → MmsRequest → AnswerData
message_answer c b (initiate proposal) = reject_answer None InvalidPdu b
message_answer c b conclude = plain_answer conclude_response_text b
message_answer c b (confirmed id asking) = service_answer c id b asking

-- the answer to a PDU with a fault
abbrev pub refusal_answer : MmsFault → Bay → AnswerData
refusal_answer (BadPdu known) b = reject_answer known InvalidPdu b
refusal_answer (UnknownService id) b = reject_answer (Some id) UnrecognizedService b
refusal_answer (TooMany id) b = plain_answer (error_text id Resource) b
refusal_answer OutOfMemory b = reject_answer None InvalidPdu b

-- the answer to a parsed PDU, or to its fault
abbrev pub answer_of : ClientContext → Bay → Result MmsRequest MmsFault → AnswerData
answer_of c b (Ok message) = message_answer c b message
answer_of c b (Err fault) = refusal_answer fault b

-- The answer to the octets that a client sent as a PDU of MMS, and their effect.
abbrev pub pdu_answer : ClientContext → List ℕ → Bay → AnswerData
pdu_answer c pdu b = answer_of c b (request_in pdu)
