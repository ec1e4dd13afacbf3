-- Each command that a turn reports: who requested it, what was answered, and which scan released
-- it.
use Rattle.std.specs.Prelude.{ℕ, ◌≡◌, ◌+◌, true, All, List, [], ◌∷◌, ◌++◌, Option, None, Some, Ok, IfOk}
use Rattle.std.specs.Borrow.{Bor}
use Rattle.std.specs.List.{Contains}
use Rattle.bay_connection.specs.ConnectionStates.{ConnectionState, Terms, indications, delivers}
use Rattle.bay_process.specs.Values.{is_truth}
use Rattle.bay_mms_services.specs.ObservedEntries.{observed_in_pdu}
use Rattle.bay_mms_services.specs.Entries.{operates_in}
use Rattle.bay_mms_services.specs.Released.{enable_name}
use Rattle.bay_mms_services.specs.declared.answer.Command.{Command}
use Rattle.bay_tree.specs.Rows.{leaf_named}
use Rattle.bay_device.specs.Commands.{IsReleasedAt}
use Rattle.bay_device.specs.Device.{State, bay_of}
use Rattle.bay_device.specs.Fresh.{HasScan, IsSameProcess, PastEvent}
use Rattle.bay_device.specs.Outcomes.{outcome, slot_of}
use Rattle.bay_device.specs.Remote.{IsAtRemote}
use Rattle.bay_device.specs.Steps.{OfAssociation}
use Rattle.bay_device.specs.ObservedRuns.{pdu_in, connection_state_at}
use Rattle.bay_device.specs.declared.event.Event.TheVariants.{Recv}
use Rattle.bay_device.specs.declared.event.Sent.{Sent}
use Rattle.bay_device.specs.declared.event.Step.{Step}
use Rattle.bay_server_turn.specs.Turns.{ServerData, turn_calls}
use Rattle.bay_server_turn_laws.specs.Events.{ChosenEvent, outcomes_at, turn_events}
use Rattle.bay_server_turn_laws.specs.Flows.{FlowsAt, read_by_calls, replies_to}
use Rattle.cmd_serve.specs.Service.{DoneTurn, server_after, past_after}

-- There is such a scan among these events, and none of those since is a scan that was accepted. It
-- left the interlocking value of the command TRUE (EnaCls for on, EnaOpn for off), and the process
-- of this device is still as it was after the scan.
pub record IsReleasedBy (now age : ℕ) (past : List PastEvent) (s : State) (command : Command)
    : Type 0 where
  pub scan : HasScan now age past
  pub last : All (λ (p : PastEvent). IfOk p.answer (λ step. step.scan ≡ None)) scan.since
  pub enabled : is_truth true
      (leaf_named (enable_name command.switch command.operation) scan.scan.after.rows) ≡ true
  pub unchanged : IsSameProcess scan.scan.after s

-- some octets are a part of others
abbrev pub IsPartOf : List ℕ → List ℕ → Type 0
IsPartOf octets all = (before : List ℕ) × (after : List ℕ) × (all ≡ before ++ octets ++ after)

-- all that the device sends to an association in a turn
abbrev pub sent_in_turn : ℕ → DoneTurn → ServerData → List ℕ
sent_in_turn a t h =
    replies_to a (outcomes_at t.now (turn_events t.now t.given t.script h) h.device).answers

-- In a turn octets of an association were handled, after some of its events, each of which is one
-- of an association. They are those that the link read for the association in the turn, and this is
-- the device's answer to them.
pub record ReceivesOctets (h : ServerData) (t : DoneTurn) : Type 0 where
  pub front : List ChosenEvent
  pub choice : Option ℕ
  pub association : ℕ
  pub octets : Bor (List ℕ)
  pub back : List ChosenEvent
  pub is : turn_events t.now t.given t.script h ≡ front ++ (choice, Recv association octets) ∷ back
  pub first : All (λ (e : ChosenEvent). OfAssociation e.1) front
  pub given : read_by_calls association (turn_calls t.now t.given t.script h) ≡ octets.now
  pub step : Step
  pub answered : (outcome choice t.now (Recv association octets)
      (outcomes_at t.now front h.device).after).answer ≡ Ok step

-- Octets that were handled cause a command: one of their PDUs requests this operate, and octets
-- that are sent to the association in the turn, read as the response to that PDU, have a success as
-- its result. The octets that the link takes for the association in the turn, followed by those
-- that its queue then holds, are those that the queue held, followed by all that is sent to it. The
-- last scan of the earlier turns released the command, and the events of this turn before it are of
-- associations, so they are no scans. If the switch has a key, the events of the earlier turns say
-- that it is at remote.
pub record IsRequested (first : State) (h : ServerData) (t : DoneTurn) (past : List PastEvent)
    (command : Command) : Type 0 where
  pub heard : ReceivesOctets h t
  pub talk : ConnectionState
  pub is_open : connection_state_at (slot_of heard.association)
      (outcomes_at t.now heard.front h.device).after.connections ≡ Some talk
  pub terms : Terms
  pub pdu : List ℕ
  pub asked : Contains (indications talk heard.octets.now) (delivers terms pdu)
  pub sent : Sent
  pub answers : Contains heard.step.sent sent
  pub to : sent.association ≡ heard.association
  pub stands : IsPartOf sent.octets (sent_in_turn heard.association t h)
  pub place : ℕ
  pub number : heard.association ≡ place + 1
  pub flows : FlowsAt t.now t.given t.script h place
  pub accepts : Contains (operates_in (observed_in_pdu t.now heard.association pdu (bay_of first)
      (pdu_in sent.octets))) command
  pub allowed : IsReleasedAt t.now (outcomes_at t.now heard.front h.device).after command
  pub released : IsReleasedBy t.now first.scan_max_age_ms past
      (outcomes_at t.now heard.front h.device).after command
  pub remote : IsAtRemote first past command

-- Each command that one of the turns reports is ordered so.
abbrev pub AreRequested : State → ServerData → List PastEvent → List DoneTurn → Type 0
AreRequested first h past [] = Unit {0}
AreRequested first h past (t ∷ ts) =
    ((command : Command) → Contains t.reported.commands command
    → IsRequested first h t past command)
    × AreRequested first (server_after t h)
    (past_after t.now (turn_events t.now t.given t.script h) h.device past) ts
