-- The input of a turn, and what a turn does with its link.
use Rattle.std.specs.Prelude.{◌≡◌, ℕ, nat_lt, Bool, false, true, List, ◌++◌, length, drop, Option, Some, None, option_and_then, option_map, unwrap_or, Result, Ok, Err, if◌then◌else◌}
use Rattle.std.specs.Borrow.{Bor}
use Rattle.std.specs.declared.net.socket_addr.SocketAddrV4.{SocketAddrV4}
use Rattle.bay_device.specs.Device.{State, expired_at}
use Rattle.bay_device.specs.LookUps.{input_index, meter_index, switch_index}
use Rattle.bay_device.specs.Outcomes.{associations, last_moment}
use Rattle.bay_trace.specs.Trace.{LineData, NamedData, blank, at_moment, connects, receives, disconnects, contact, input, measure, bad_measure, lost, scan, process_of, trace_line_of}
use Rattle.bay_server_turn.specs.Calls.{Call, MakesCalls}
use Rattle.bay_server_turn.specs.Offers.{offer_outcome, after_calls}
use Rattle.bay_server_turn.specs.Turns.{ServerData, Script, TurnState, accept_calls, with_accept, after_each, calls_of_each, moment_at, opening_of, after_octets, after_turn, turn_calls}
use Rattle.bay_server_turn.specs.declared.fault.ServeFault.{ServeFault}
use Rattle.bay_server_turn.specs.declared.fault.ServeFault.TheVariants.{BadLine, MomentTooLarge}
use Rattle.bay_server_turn.specs.declared.process_input.ProcessEvent.{ProcessEvent}
use Rattle.bay_server_turn.specs.declared.process_input.ProcessEvent.TheVariants.{Contact, Input, Measure, BadMeasure}
use Rattle.bay_server_turn.specs.declared.process_input.ProcessReport.{ProcessReport}
use Rattle.bay_server_turn.specs.declared.turn_report.Turn.{Turn}

-- ---- the input of a turn

-- the event of the process that a line spells: a contact, an input or a measurement, which may be
-- bad
abbrev pub line_of : List ℕ → Option NamedData
line_of text = process_of (trace_line_of text)

-- an event of the process of a device, by indices; an unknown name becomes an index that no item
-- has
abbrev pub process_event : State → NamedData → Option ProcessEvent
process_event s (connects a) = None
process_event s (receives a octets) = None
process_event s (disconnects a) = None
process_event s (contact id position) =
    Some (Contact (unwrap_or (switch_index s id) (length s.switches)) position)
process_event s (input name value) =
    Some (Input (unwrap_or (input_index s name) (length s.input_values)) value)
process_event s (measure id field value) =
    Some (Measure (unwrap_or (meter_index s id) (length s.meters)) field value)
process_event s (bad_measure id field) =
    Some (BadMeasure (unwrap_or (meter_index s id) (length s.meters)) field)
process_event s lost = None
process_event s scan = None

-- the process event that a line spells, for this device
abbrev pub event_in_line : State → List ℕ → Option ProcessEvent
event_in_line s text = option_and_then (process_event s) (line_of text)

-- the input of a turn, or why a line has none
abbrev pub TurnInput : Type 0
TurnInput = Result ProcessReport ServeFault

-- a report of an event alone, or of nothing, to a turn that reads clients
abbrev pub report_of_event : Option ProcessEvent → ProcessReport
report_of_event event = record { is_lost = false; event = event; skips_reads = false }

-- the input of a turn from the event of a line; without an event the line is bad
abbrev pub input_of_event : Option ProcessEvent → TurnInput
input_of_event None = Err BadLine
input_of_event (Some event) = Ok (report_of_event (Some event))

-- a line with the loss of the process
abbrev pub is_loss_line : Option LineData → Bool
is_loss_line None = false
is_loss_line (Some blank) = false
is_loss_line (Some (at_moment moment lost)) = true
is_loss_line (Some (at_moment moment other)) = false

-- the input of a turn from a line of a trace: the loss of the process, or an event of it
abbrev pub turn_input_of_line : State → List ℕ → TurnInput
turn_input_of_line s text =
    if is_loss_line (trace_line_of text)
    then Ok (record { is_lost = true; event = None; skips_reads = false })
    else input_of_event (event_in_line s text)

-- the line of a turn, if there is one
abbrev pub text_in : Option (Bor (List ℕ)) → Option (List ℕ)
text_in line = option_map (λ (text : Bor (List ℕ)). text.now) line

-- the input of a turn from its line; without a line the process has no event
abbrev pub turn_input_of : State → Option (List ℕ) → TurnInput
turn_input_of s None = Ok (report_of_event None)
turn_input_of s (Some text) = turn_input_of_line s text

-- the report of the process in the input of a turn
abbrev pub report_in : TurnInput → ProcessReport
report_in (Ok given) = given
report_in (Err fault) = report_of_event None

-- how many associations a turn may read: all of them, or none
abbrev pub reading_count : ProcessReport → ℕ
reading_count given = if given.skips_reads then 0 else associations

-- A turn is refused first for a bad line, then for a moment that is too large.
abbrev pub turn_refusal : ℕ → TurnInput → ServerData → Option ServeFault
turn_refusal clock (Err fault) h = Some fault
turn_refusal clock (Ok given) h =
    if nat_lt last_moment (moment_at clock h) then Some MomentTooLarge else None

-- ---- its parts

-- the device handled octets of an association, with some choice of where memory ran out
pub record HandlesOctets (now slot : ℕ) (octets : List ℕ) (before after : TurnState) : Type 0 where
  pub choice : Option ℕ
  pub is : after ≡ after_octets now slot choice octets before

module _ {L : Type 0} (step : L → Call → L → Type 0) where
  -- A part of a turn was done: for some choice, the calls and the state after them are those of the
  -- part.
  pub record Performs {C : Type 0} (f : C → TurnState → TurnState)
      (calls : C → TurnState → List Call)
      (old new : L) (before after : TurnState) : Type 0 where
    pub choice : C
    pub makes : MakesCalls step old (calls choice before) new
    pub is : after ≡ f choice before

  -- a connection was accepted, or none: the association that was opened, and the address of its
  -- client
  pub record Opens (now : ℕ) (old new : L) (before after : TurnState)
      (opened : Option (ℕ × SocketAddrV4)) : Type 0 where
    pub performs : Performs (with_accept now) (accept_calls now) old new before after
    pub opened_is : opened ≡ opening_of performs.choice before.server

  -- the part was done for the first `count` associations, in order
  pub record PerformsEach {C : Type 0} (f : ℕ → C → TurnState → TurnState)
      (calls : ℕ → C → TurnState → List Call) (old new : L) (count : ℕ) (before after : TurnState)
      : Type 0 where
    pub choices : List C
    pub many : length choices ≡ count
    pub makes : MakesCalls step old (calls_of_each f calls 0 choices before) new
    pub is : after ≡ after_each f 0 choices before

  -- octets were offered to the link: `done` of them were taken, and a write failed or not
  pub record Offers (old new : L) (a : ℕ) (octets : List ℕ) (done : ℕ) (failed : Bool)
      : Type 0 where
    pub takes : List ℕ
    pub fails : Bool
    pub makes : MakesCalls step old (offer_outcome a octets takes fails).calls new
    pub left : (offer_outcome a octets takes fails).left ≡ drop done octets
    pub failed_is : (offer_outcome a octets takes fails).failed ≡ failed

  -- an offer under way: `done` octets were taken so far
  pub record OffersSoFar (old new : L) (a : ℕ) (octets : List ℕ) (done : ℕ) : Type 0 where
    pub takes : List ℕ
    pub calls : List Call
    pub makes : MakesCalls step old calls new
    pub continues : (later : List ℕ) (fails : Bool)
        → offer_outcome a octets (takes ++ later) fails
        ≡ after_calls calls (offer_outcome a (drop done octets) later fails)

  -- ---- a turn

  -- There is a script, of the line that the event of the process was read from, of the results of an
  -- accept, eight reads (none, if the turn skips reads) and eight offers, and of where memory ran
  -- out, such that the calls on the link, the server after them and the report of the turn are those
  -- of the script.
  pub record Serves (old new : L) (now : ℕ) (given : ProcessReport) (source : List ℕ)
      (before after : ServerData) (turn : Turn) : Type 0 where
    pub script : Script
    pub source_is : script.source ≡ source
    pub all_read : length script.readings ≡ reading_count given
    pub all_offered : length script.offers ≡ associations
    pub makes : MakesCalls step old (turn_calls now given script before) new
    pub server : after ≡ (after_turn now given script before).server
    pub opened : turn.opened ≡ opening_of script.accepted before
    pub over : turn.over ≡ expired_at now before.device
    pub refused : turn.refused ≡ (after_turn now given script before).noted.refused
    pub commands : turn.commands ≡ (after_turn now given script before).noted.commands
    pub decisions : turn.decisions ≡ (after_turn now given script before).noted.decisions
    pub closed : turn.closed ≡ (after_turn now given script before).noted.closed
    pub memory : turn.memory ≡ (after_turn now given script before).noted.memory
