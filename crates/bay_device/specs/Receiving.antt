-- The effect of a client's octets on a device: it answers each PDU before it reads the next.
use Rattle.std.specs.Prelude.{ℕ, zero, suc, List, [], ◌∷◌, ◌++◌, map, Option, None, Some}
use Rattle.bay_assoc.specs.Receives.{association_terms}
use Rattle.bay_assoc.specs.declared.receive.AssociationTerms.{AssociationTerms}
use Rattle.bay_connection.specs.ConnectionStates.{Indication, answers, delivers, releases, ends, fails, Terms, octets_to_send}
use Rattle.bay_mms_services.specs.Answers.{AnswerData, pdu_answer}
use Rattle.bay_mms_services.specs.declared.answer.Command.{Command}
use Rattle.bay_mms_services.specs.declared.answer.ControlDecision.{ControlDecision}
use Rattle.bay_mms_services.specs.declared.answer.TerminationReports.{TerminationReports}
use Rattle.bay_mms_services.specs.declared.client.ClientContext.{ClientContext}
use Rattle.bay_device.specs.Device.{State, bay_of, is_fresh, with_bay}
use Rattle.bay_device.specs.declared.termination.PendingTermination.{PendingTermination}
use Rattle.bay_device.specs.declared.event.Sent.{Sent}
use Rattle.bay_device.specs.declared.event.Why.{Why}
use Rattle.bay_device.specs.declared.event.Why.TheVariants.{Ended, Fault, Memory}

-- the device, and the effects of an event so far: the octets to send, the commands to issue, and
-- the decisions on controls
pub record StepState : Type 0 where
  pub state : State
  pub sent : List Sent
  pub commands : List Command
  pub decisions : List ControlDecision

-- octets to send on an association
abbrev pub sent_on : ℕ → List ℕ → Sent
sent_on a octets = record { association = a; octets = octets }

-- the result so far, with octets to send on an association added
abbrev pub with_sent : ℕ → List ℕ → StepState → StepState
with_sent a octets d = record d { sent = d.sent ++ sent_on a octets ∷ [] }

-- the agreed size of a PDU; 0 if the association is not open
abbrev pub size_of : Option AssociationTerms → ℕ
size_of None = 0
size_of (Some terms) = terms.size

-- the client of an association on these terms, at a time
abbrev pub client_at : ℕ → ℕ → Terms → State → ClientContext
client_at now a terms s =
    record {
      association = a;
      size = size_of (association_terms terms.phase);
      now = now;
      lost = s.is_lost;
      fresh = is_fresh now s;
    }

-- the octets that carry a report, if there is one
abbrev pub sending_if : Terms → Option (List ℕ) → Option (List ℕ)
sending_if terms None = None
sending_if terms (Some pdu) = Some (octets_to_send terms pdu)

-- the pending reports for the end of an operate
abbrev pub pending_of : ℕ → Terms → TerminationReports → PendingTermination
pending_of a terms e =
    record {
      association = a;
      positive = sending_if terms e.positive;
      negative = sending_if terms e.negative;
    }

-- the pending reports for the end of an operate, if there are reports
abbrev pub pending_if : ℕ → Terms → Option TerminationReports → Option PendingTermination
pending_if a terms None = None
pending_if a terms (Some e) = Some (pending_of a terms e)

-- the pending reports of a new execution replace the previous ones
abbrev pub later_pending : Option PendingTermination → Option PendingTermination
    → Option PendingTermination
later_pending pending None = pending
later_pending pending (Some new) = Some new

-- the result of an answered PDU: each PDU of its answer is sent
abbrev pub answered_with : ℕ → Terms → AnswerData → StepState → StepState
answered_with a terms x d = record {
  state = record (with_bay x.after d.state)
      { pending = later_pending d.state.pending (pending_if a terms x.termination) };
  sent = d.sent ++ map (λ pdu. sent_on a (octets_to_send terms pdu)) x.sent;
  commands = d.commands ++ x.commands;
  decisions = d.decisions ++ x.decisions;
}

-- the result after a PDU of a client is answered and carried out
abbrev pub after_pdu : ℕ → ℕ → Terms → List ℕ → StepState → StepState
after_pdu now a terms pdu d =
    answered_with a terms (pdu_answer (client_at now a terms d.state) pdu (bay_of d.state)) d

-- the result of octets, and why the association is closed, if it is
pub record ReceiveResult : Type 0 where
  pub done : StepState
  pub why : Option Why

-- the result of one indication and then of the later ones; none follow a release, an end and a
-- fault
abbrev pub on_indication : ℕ → ℕ → Indication → StepState → (StepState → ReceiveResult)
    → ReceiveResult
on_indication now a (answers octets) d later = later (with_sent a octets d)
on_indication now a (delivers terms pdu) d later = later (after_pdu now a terms pdu d)
on_indication now a (releases octets) d later =
    record { done = with_sent a octets d; why = Some Ended }
on_indication now a ends d later = record { done = d; why = Some Ended }
on_indication now a (fails code) d later = record { done = d; why = Some (Fault code) }

-- The result of all indications, in their order. The first argument is the free choice: None, no
-- allocation fails; Some n, one fails after n indications.
abbrev pub after_indications : Option ℕ → ℕ → ℕ → List Indication → StepState → ReceiveResult
after_indications None now a [] d = record { done = d; why = None }
after_indications None now a (i ∷ is) d = on_indication now a i d (after_indications None now a is)
after_indications (Some zero) now a is d = record { done = d; why = Some Memory }
after_indications (Some (suc n)) now a [] d = record { done = d; why = None }
after_indications (Some (suc n)) now a (i ∷ is) d =
    on_indication now a i d (after_indications (Some n) now a is)
