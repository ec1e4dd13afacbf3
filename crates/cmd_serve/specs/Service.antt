-- The turns of a service, and all events of its device in them.
use Rattle.std.specs.Prelude.{ℕ, ◌≡◌, zero, suc, List, [], ◌∷◌, length, replicate, Option, Result, Ok, Err}
use mathlib.Core.Logic.{inl, inr}
use Rattle.bay_device.specs.Device.{State}
use Rattle.bay_device.specs.Fresh.{IsHistory, PastEvent}
use Rattle.bay_device.specs.Outcomes.{associations, outcome}
use Rattle.bay_io.specs.Calls.{WriteCall}
use Rattle.bay_io.specs.Watched.{WriterState}
use Rattle.bay_io.specs.declared.outbox.WriteFault.{WriteFault}
use Rattle.cmd_replay.specs.Runs.{IsGuardedRun}
use Rattle.bay_server_turn.specs.Calls.{Call}
use Rattle.bay_server_turn.specs.Served.{reading_count, report_in}
use Rattle.bay_server_turn.specs.Recorded.{Recording}
use Rattle.bay_server_turn.specs.Turns.{ServerData, Script, after_turn, with_recording}
use Rattle.bay_server_turn.specs.declared.process_input.ProcessReport.{ProcessReport}
use Rattle.bay_server_turn.specs.declared.record.RecordEnd.{RecordEnd}
use Rattle.bay_server_turn.specs.declared.turn_report.Turn.{Turn}
use Rattle.bay_server_turn_laws.specs.Events.{ChosenEvent, turn_events}
use Rattle.bay_server_turn_laws.specs.Flows.{IsInTime}
use Rattle.bay_server.specs.Host.{HostCall}
use Rattle.bay_server.specs.ServeReport.{AfterTurn, ServiceState, ServesTurns, TurnServed, chosen_input, moment_of}

-- ---- a new server

-- The device is as it was loaded, and the queues of the eight associations are empty. The session
-- is recorded or not.
pub record IsBegun (h : ServerData) : Type 0 where
  pub loaded : IsHistory [] h.device
  pub empty : h.queues ≡ replicate associations []

-- ---- turns

-- a turn that was done: its moment, the report of the process to it, what the link and the memory
-- decided, and its own report; the line of its input, what the file of the record took, the end of
-- the record that was logged, and the record after that
pub record DoneTurn : Type 0 where
  pub now : ℕ
  pub given : ProcessReport
  pub script : Script
  pub reported : Turn
  pub line : List ℕ
  pub took : List ℕ
  pub end : Option RecordEnd
  pub recording : Option Recording

-- the server after a turn, and after what it recorded was written
abbrev pub server_after : DoneTurn → ServerData → ServerData
server_after t h = with_recording t.recording (after_turn t.now t.given t.script h).server

-- the server after all of them
abbrev pub server_after_all : List DoneTurn → ServerData → ServerData
server_after_all [] h = h
server_after_all (t ∷ ts) h = server_after_all ts (server_after t h)

-- A turn was done on a server: the script has the results of eight reads, or of none if the turn
-- skips them, and of eight offers, the moment is not before the last nor too large, and the turn reported the commands that it
-- collected.
pub record IsTurn (h : ServerData) (t : DoneTurn) : Type 0 where
  pub all_read : length t.script.readings ≡ reading_count t.given
  pub all_offered : length t.script.offers ≡ associations
  pub in_time : IsInTime t.now h
  pub commands : t.reported.commands ≡ (after_turn t.now t.given t.script h).noted.commands

-- Each turn was done so, on the server after the turns before it.
abbrev pub AreTurns : ServerData → List DoneTurn → Type 0
AreTurns h [] = Unit {0}
AreTurns h (t ∷ ts) = IsTurn h t × AreTurns (server_after t h) ts

-- ---- the turns that were served

-- the turns after one, if its lines could be written
abbrev pub later_turns : (Ends Goes : Type 0) (reported : Result ℕ WriteFault)
    → AfterTurn reported Ends Goes → (Goes → List DoneTurn) → List DoneTurn
later_turns Ends Goes (Err fault) ends more = []
later_turns Ends Goes (Ok status) goes more = more goes

module _ {L H W : Type 0} (step : L → Call → L → Type 0) (acts : H → HostCall L → H → Type 0)
    (contents : W → Option (List ℕ)) (asks : W → WriteCall → W → Type 0) where
  abbrev pub turn_in : (before : ServiceState L H) (old : WriterState W) (after : ServiceState L H)
      (new : WriterState W) (answer : Result ℕ WriteFault)
      → TurnServed step acts contents asks before old after new answer → DoneTurn
  turn_in before old after new answer goes = record {
    now = moment_of goes.clocks before;
    given = report_in (chosen_input goes.clocks before).next.given;
    script = goes.serves.script;
    reported = goes.turn;
    line = (chosen_input goes.clocks before).next.shown;
    took = goes.took;
    end = goes.end;
    recording = after.held.recording;
  }

  -- each turn that was done, in their order
  abbrev pub turns_in : (turns : ℕ) (before : ServiceState L H) (old : WriterState W) (host : H)
      (new : WriterState W) (answer : Result ℕ WriteFault)
      → ServesTurns step acts contents asks turns before old host new answer
      → List DoneTurn
  turns_in zero before old host new answer serves = []
  turns_in (suc turns) before old host new answer (inl fails) = []
  turns_in (suc turns) before old host new answer (inr did) =
      turn_in _ _ _ _ _ did.3
      ∷ later_turns _ _ did.2 did.4 (λ rest. turns_in turns rest.0 _ host new answer rest.2)

-- ---- the history

-- the history after these events, at this moment
abbrev pub past_after : ℕ → List ChosenEvent → State → List PastEvent → List PastEvent
past_after now [] s past = past
past_after now (e ∷ es) s past =
    let o = outcome e.0 now e.1 s in
    past_after now es o.after
    (record { now = now; event = e.1; answer = o.answer; after = o.after } ∷ past)

-- the history after these turns
abbrev pub past_of : List DoneTurn → ServerData → List PastEvent → List PastEvent
past_of [] h past = past
past_of (t ∷ ts) h past =
    past_of ts (server_after t h)
    (past_after t.now (turn_events t.now t.given t.script h) h.device past)

-- ---- one run

-- Turns were done on a server, and the history of its device in them since load is one run.
pub record IsService (first : ServerData) (turns : List DoneTurn) : Type 0 where
  pub are : AreTurns first turns
  pub run : IsGuardedRun first.device (past_of turns first []) (server_after_all turns first).device
