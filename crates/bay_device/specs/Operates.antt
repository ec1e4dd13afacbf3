-- The commands of events, by the octets received and sent: each is an operate that a PDU requests
-- and a response accepts. Responses belong to PDUs by their order, as in `ObservedRuns`. The
-- definitions do not use the state of the device.
use Rattle.std.specs.Prelude.{ℕ, ◌≡◌, List, [], ◌∷◌, Option, None, Some, Result, IfOk}
use Rattle.std.specs.List.{Contains}
use Rattle.bay_connection.specs.ConnectionStates.{Indication, ConnectionState, Terms, delivers, indications}
use Rattle.bay_mms_services.specs.ObservedEntries.{observed_in_pdu}
use Rattle.bay_mms_services.specs.Bay.{Bay}
use Rattle.bay_mms_services.specs.Entries.{operates_in}
use Rattle.bay_mms_services.specs.declared.answer.Command.{Command}
use Rattle.bay_device.specs.Outcomes.{slot_of}
use Rattle.bay_device.specs.ObservedRuns.{pdus_in, connection_state_at, states_after_answer, observed_in_step}
use Rattle.bay_device.specs.declared.event.Event.{Event}
use Rattle.bay_device.specs.declared.event.Event.TheVariants.{Open, Recv, Close, Contact, Input, Measure, BadMeasure, Lost, Scan}
use Rattle.bay_device.specs.declared.event.Step.{Step}
use Rattle.bay_device.specs.declared.fault.StepFault.{StepFault}

-- A PDU among the indications requests the operate, and one of the PDUs that are sent, read as its
-- response, has a success as the result of that variable.
pub record IsReplied (now a : ℕ) (names : Bay) (heard : List Indication) (sent : List (List ℕ))
    (command : Command) : Type 0 where
  pub terms : Terms
  pub pdu : List ℕ
  pub asked : Contains heard (delivers terms pdu)
  pub response : List ℕ
  pub replied : Contains sent response
  pub accepts : Contains (operates_in (observed_in_pdu now a pdu names response)) command

-- Each command comes from octets of an open association; octets of any other cause none.
abbrev pub AreReplied : ℕ → ℕ → Bay → List ℕ → Option ConnectionState → Step → Type 0
AreReplied now a names octets None step = step.commands ≡ []
AreReplied now a names octets (Some connection) step = (command : Command)
    → Contains step.commands command
    → IsReplied now a names (indications connection octets) (pdus_in step.sent) command

-- No other event issues a command.
abbrev pub AreRepliedForEvent : ℕ → Event → Bay → List (Option ConnectionState) → Step → Type 0
AreRepliedForEvent now (Open a) names connections step = step.commands ≡ []
AreRepliedForEvent now (Recv a octets) names connections step =
    AreReplied now a names octets.now (connection_state_at (slot_of a) connections) step
AreRepliedForEvent now (Close a) names connections step = step.commands ≡ []
AreRepliedForEvent now (Contact k position) names connections step = step.commands ≡ []
AreRepliedForEvent now (Input k value) names connections step = step.commands ≡ []
AreRepliedForEvent now (Measure k field value) names connections step = step.commands ≡ []
AreRepliedForEvent now (BadMeasure k field) names connections step = step.commands ≡ []
AreRepliedForEvent now Lost names connections step = step.commands ≡ []
AreRepliedForEvent now Scan names connections step = step.commands ≡ []

-- The commands of a step are the accepted operates among the entries of the event and its answer,
-- in their order, one for each and no other; and each has a response that accepts it.
pub record AreOperates (now : ℕ) (event : Event) (names : Bay)
    (connections : List (Option ConnectionState))
    (step : Step) : Type 0 where
  pub operated : step.commands ≡ operates_in (observed_in_step now event names connections step)
  pub replied : AreRepliedForEvent now event names connections step

-- The commands of each step of a list of events are its accepted operates, for a bay whose
-- variables have these names, and with these states of the connections before the events.
abbrev pub AllOperate : Bay → List (Option ConnectionState) → List (ℕ × Event)
    → List (Result Step StepFault) → Type 0
AllOperate names connections [] replies = Unit {0}
AllOperate names connections (e ∷ es) [] = Unit {0}
AllOperate names connections (e ∷ es) (reply ∷ replies) =
    IfOk reply (AreOperates e.0 e.1 names connections)
    × AllOperate names (states_after_answer e.1 connections reply) es replies
