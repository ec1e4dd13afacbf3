-- The octets of one association through a turn.
use Rattle.std.specs.Prelude.{◌≡◌, ℕ, ◌+◌, ◌<◌, ◌≤◌, ◌==◌, Bool, true, false, if◌then◌else◌, List, [], ◌∷◌, ◌++◌, length, take, Option, Some, None, Result, Ok, Err, ◌⊎◌}
use Rattle.bay_device.specs.Outcomes.{associations, last_moment}
use Rattle.bay_device.specs.declared.event.Event.{Event}
use Rattle.bay_device.specs.declared.event.Event.TheVariants.{Open, Recv, Close, Contact, Input, Measure, BadMeasure, Lost, Scan}
use Rattle.bay_device.specs.declared.event.Sent.{Sent}
use Rattle.bay_device.specs.declared.event.Step.{Step}
use Rattle.bay_device.specs.declared.fault.StepFault.{StepFault}
use Rattle.bay_server_turn.specs.Calls.{Call, Accepts, Reads, Writes, Closes, ReadOutcome, Octets, Silence, StreamEnd, Failure}
use Rattle.bay_server_turn.specs.Turns.{ServerData, Script, has_open, server_queue, turn_calls, after_turn}
use Rattle.bay_server_turn.specs.declared.process_input.ProcessReport.{ProcessReport}
use Rattle.bay_server_turn_laws.specs.Causes.{is_queue_full, reports_close}
use Rattle.bay_server_turn_laws.specs.Events.{ChosenEvent, outcomes_at, turn_events}

-- ---- what the link takes

-- the octets that a call wrote for an association
abbrev pub written_by_call : ℕ → Call → List ℕ
written_by_call a (Accepts b taken) = []
written_by_call a (Reads b room what) = []
written_by_call a (Writes b octets None) = []
written_by_call a (Writes b octets (Some n)) = if b == a then take n octets else []
written_by_call a (Closes b) = []

-- the octets that the link took for an association
abbrev pub written_by_calls : ℕ → List Call → List ℕ
written_by_calls a [] = []
written_by_calls a (call ∷ calls) = written_by_call a call ++ written_by_calls a calls

-- ---- what the link reads

-- the octets of a read
abbrev pub octets_of_read : ReadOutcome → List ℕ
octets_of_read (Octets octets) = octets
octets_of_read Silence = []
octets_of_read StreamEnd = []
octets_of_read Failure = []

-- the octets that a call read for an association
abbrev pub read_by_call : ℕ → Call → List ℕ
read_by_call a (Accepts b taken) = []
read_by_call a (Reads b room what) = if b == a then octets_of_read what else []
read_by_call a (Writes b octets taken) = []
read_by_call a (Closes b) = []

-- the octets that the link read for an association
abbrev pub read_by_calls : ℕ → List Call → List ℕ
read_by_calls a [] = []
read_by_calls a (call ∷ calls) = read_by_call a call ++ read_by_calls a calls

-- the octets of an association that an event has
abbrev pub event_octets : ℕ → Event → List ℕ
event_octets a (Recv b octets) = if b == a then octets.now else []
event_octets a (Open b) = []
event_octets a (Close b) = []
event_octets a (Contact k position) = []
event_octets a (Input k value) = []
event_octets a (Measure k field value) = []
event_octets a (BadMeasure k field) = []
event_octets a Lost = []
event_octets a Scan = []

-- the octets of an association that events have, in their order
abbrev pub received_of : ℕ → List ChosenEvent → List ℕ
received_of a [] = []
received_of a (e ∷ es) = event_octets a e.1 ++ received_of a es

-- ---- what the device sends

-- the octets that are for an association
abbrev pub octets_to : ℕ → Sent → List ℕ
octets_to a sent = if sent.association == a then sent.octets else []

-- the octets for an association, of all that is sent
abbrev pub sends_to : ℕ → List Sent → List ℕ
sends_to a [] = []
sends_to a (sent ∷ more) = octets_to a sent ++ sends_to a more

-- the octets for an association, of the report that an operation ended
abbrev pub end_to : ℕ → Option Sent → List ℕ
end_to a None = []
end_to a (Some sent) = octets_to a sent

-- what an answer sends to an association: the report that an operation ended comes first
abbrev pub answer_to : ℕ → Result Step StepFault → List ℕ
answer_to a (Err fault) = []
answer_to a (Ok step) = end_to a step.ended ++ sends_to a step.sent

-- what answers send to an association, in their order
abbrev pub replies_to : ℕ → List (Result Step StepFault) → List ℕ
replies_to a [] = []
replies_to a (answer ∷ answers) = answer_to a answer ++ replies_to a answers

-- ---- the law

-- There is a queue for each association, and that of one that is not open is empty.
pub record IsTidy (h : ServerData) : Type 0 where
  pub sized : length h.queues ≡ associations
  pub empty : (slot : ℕ) → slot < associations → has_open slot h ≡ false → server_queue slot h ≡ []

-- the moment is one that the device does not refuse
pub record IsInTime (now : ℕ) (h : ServerData) : Type 0 where
  pub not_before : h.device.moment ≤ now
  pub not_past : now ≤ last_moment

-- What the link took, followed by a rest, is what the queue held, followed by what was sent. The
-- queue holds the rest; or the association is closed, and the queue is empty.
pub record Flows (taken held sent holds : List ℕ) (up : Bool) : Type 0 where
  pub rest : List ℕ
  pub is : taken ++ rest ≡ held ++ sent
  pub kept : (holds ≡ rest) ⊎ ((holds ≡ []) × (up ≡ false))

-- `Flows` holds for an association in a turn.
abbrev pub FlowsAt : ℕ → ProcessReport → Script → ServerData → ℕ → Type 0
FlowsAt now given script h slot =
    Flows (written_by_calls (slot + 1) (turn_calls now given script h)) (server_queue slot h)
    (replies_to (slot + 1) (outcomes_at now (turn_events now given script h) h.device).answers)
    (server_queue slot (after_turn now given script h).server)
    (has_open slot (after_turn now given script h).server)

-- `Flows` holds for each association, and the server is tidy after the turn; if a full queue is
-- reported, the link left more octets of this association than there is room for.
pub record LosesNothing (now : ℕ) (given : ProcessReport) (script : Script) (h : ServerData)
    : Type 0 where
  pub flows : (slot : ℕ) → slot < associations → FlowsAt now given script h slot
  pub full : (slot : ℕ) (low : slot < associations)
      → reports_close is_queue_full (slot + 1) (after_turn now given script h).noted.closed ≡ true
      → 262144 < length (flows slot low).rest
  pub tidy : IsTidy (after_turn now given script h).server
