-- Why an association is closed in a turn, by the calls on the link and by the answers of the
-- device.
use Rattle.std.specs.Prelude.{◌≡◌, ℕ, ◌==◌, ◌&&◌, ◌||◌, Bool, true, false, not, is_none, List, [], ◌∷◌, ◌++◌, if◌then◌else◌, Option, Some, None, Result}
use Rattle.bay_device.specs.declared.event.Step.{Step}
use Rattle.bay_device.specs.declared.event.Why.{Why}
use Rattle.bay_device.specs.declared.event.Why.TheVariants as why
use Rattle.bay_device.specs.declared.fault.StepFault.{StepFault}
use Rattle.bay_server_turn.specs.Calls.{Call, Accepts, Reads, Writes, Closes, ReadOutcome, Octets, Silence, StreamEnd, Failure, is_failure}
use Rattle.bay_server_turn.specs.Turns.{ServerData, Script, turn_calls, after_turn}
use Rattle.bay_server_turn.specs.declared.process_input.ProcessReport.{ProcessReport}
use Rattle.bay_server_turn.specs.declared.turn_report.CloseReason.{CloseReason}
use Rattle.bay_server_turn.specs.declared.turn_report.CloseReason.TheVariants.{Ended, Fault, QueueFull, LinkFailed}
use Rattle.bay_server_turn_laws.specs.Events.{outcomes_at, turn_events}
use Rattle.bay_server_turn_laws.specs.Faults.{is_link_failed}
use Rattle.bay_server_turn_laws.specs.CloseReports.{closed_in}

-- one of the items passes the test
abbrev pub has_some : {A : Type 0} → (A → Bool) → List A → Bool
has_some f [] = false
has_some f (x ∷ xs) = f x || has_some f xs

-- ---- what happens to an association

-- a read or a write of it failed
abbrev pub fails_for : ℕ → Call → Bool
fails_for a (Accepts b taken) = false
fails_for a (Reads b room what) = b == a && is_failure what
fails_for a (Writes b octets taken) = b == a && is_none taken
fails_for a (Closes b) = false

-- the read brought the end
abbrev pub is_over : ReadOutcome → Bool
is_over (Octets octets) = false
is_over Silence = false
is_over StreamEnd = true
is_over Failure = false

-- a read of it brought the end: its client sends no more
abbrev pub ends_for : ℕ → Call → Bool
ends_for a (Accepts b taken) = false
ends_for a (Reads b room what) = b == a && is_over what
ends_for a (Writes b octets taken) = false
ends_for a (Closes b) = false

-- why the device closed this association, if it closed this one
abbrev pub reason_in : ℕ → Option (ℕ × Why) → List Why
reason_in a None = []
reason_in a (Some closed) = if closed.0 == a then closed.1 ∷ [] else []

-- the reasons for which the device closed an association, by its answers
abbrev pub reasons_of : ℕ → List (Result Step StepFault) → List Why
reasons_of a [] = []
reasons_of a (answer ∷ answers) = reason_in a (closed_in answer) ++ reasons_of a answers

-- the device closed it for some reason
abbrev pub has_reason : List Why → Bool
has_reason [] = false
has_reason (reason ∷ reasons) = true

-- the device closed it as ended
abbrev pub is_end : Why → Bool
is_end why.Ended = true
is_end (why.Fault code) = false
is_end why.Memory = false

-- the device refused its octets with the fault of this number
abbrev pub is_refusal : ℕ → Why → Bool
is_refusal code why.Ended = false
is_refusal code (why.Fault number) = number == code
is_refusal code why.Memory = false

-- the device closed it because it was out of memory
abbrev pub is_memory : Why → Bool
is_memory why.Ended = false
is_memory (why.Fault code) = false
is_memory why.Memory = true

-- ---- what is reported of it

-- the report says that it ended
abbrev pub is_ended : CloseReason → Bool
is_ended Ended = true
is_ended (Fault code) = false
is_ended QueueFull = false
is_ended LinkFailed = false

-- the report has the fault of this number
abbrev pub is_fault : ℕ → CloseReason → Bool
is_fault code Ended = false
is_fault code (Fault number) = number == code
is_fault code QueueFull = false
is_fault code LinkFailed = false

-- the report says that its queue was full
abbrev pub is_queue_full : CloseReason → Bool
is_queue_full Ended = false
is_queue_full (Fault code) = false
is_queue_full QueueFull = true
is_queue_full LinkFailed = false

-- An entry reports that the association was closed, for a reason that passes the test.
abbrev pub reports_close : (CloseReason → Bool) → ℕ → List (ℕ × CloseReason) → Bool
reports_close is a closed =
    has_some (λ (entry : ℕ × CloseReason). entry.0 == a && is entry.1) closed

-- the number of the association is one of the numbers
abbrev pub has_number : ℕ → List ℕ → Bool
has_number a numbers = has_some (λ number. number == a) numbers

-- ---- the law

-- An end is reported exactly if the client sends no more, or the device closed the association as
-- ended; a fault, exactly if the device closed it with that number; and out of memory, exactly if
-- it closed it for that. A failed link is reported exactly if a call failed, and neither the client
-- nor the device had closed the association; and a full queue only if nothing else closed it.
pub record IsCaused (failed over : Bool) (reasons : List Why) (a : ℕ)
    (reported : List (ℕ × CloseReason))
    (memory : List ℕ) : Type 0 where
  pub ended : reports_close is_ended a reported ≡ (over || has_some is_end reasons)
  pub fault : (code : ℕ) → reports_close (is_fault code) a reported
      ≡ has_some (is_refusal code) reasons
  pub out_of_memory : has_number a memory ≡ has_some is_memory reasons
  pub link : reports_close is_link_failed a reported ≡ (failed && not (over || has_reason reasons))
  pub queue : reports_close is_queue_full a reported ≡ true
      → (failed ≡ false) × (over ≡ false) × (reasons ≡ [])

-- What a turn reports of an association is caused so, by the calls of the turn and the device's
-- answers to its events.
abbrev pub HasItsCause : ℕ → ProcessReport → Script → ServerData → ℕ → Type 0
HasItsCause now given script h a =
    IsCaused (has_some (fails_for a) (turn_calls now given script h))
    (has_some (ends_for a) (turn_calls now given script h))
    (reasons_of a (outcomes_at now (turn_events now given script h) h.device).answers) a
    (after_turn now given script h).noted.closed (after_turn now given script h).noted.memory
