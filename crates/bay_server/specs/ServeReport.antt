-- Serving, turn by turn: what each turn does, and what is printed for it.
use Rattle.bay_io.specs.Calls.{WriteCall}
use Rattle.std.specs.Prelude.{◌≡◌, ℕ, zero, suc, ◌+◌, ◌-◌, nat_lt, ◌&&◌, true, List, ◌∷◌, drop, slice_get, Option, None, Some, Result, Ok, Err, ◌⊎◌, MatchBool, Bool, false, ◌||◌, []}
use Rattle.std.specs.Borrow.{Bor}
use Rattle.bay_device.specs.Device.{State}
use Rattle.bay_io.specs.Sent.{Logs}
use Rattle.bay_io.specs.Watched.{WriterState}
use Rattle.bay_io.specs.declared.outbox.WriteFault.{WriteFault}
use Rattle.bay_server.specs.Clock.{ClockData, after_reading, jump_of, moment_read, shift_of, turn_end}
use Rattle.bay_server.specs.Host.{HostCall, ReadsTimes, Pauses, WaitsUntil}
use Rattle.bay_report.specs.Report.{IsOutput, Prints}
use Rattle.bay_server.specs.TurnLines.{is_quiet, connection_event_text, turn_text, turn_refusal_text}
use Rattle.bay_server.specs.Logging.{LogsAll}
use Rattle.bay_server.specs.ChangeLines.{bay_view, turn_log}
use Rattle.bay_server.specs.ConnectionLines.{count_after}
use Rattle.bay_server.specs.LogLines.{connection_event_log, shift_log, turn_refusal_log, all_served_log}
use Rattle.bay_server.specs.RecordLine.{record_log}
use Rattle.bay_process_port.specs.Polling.{Polls, poll_outcome}
use Rattle.bay_lines.specs.Escaped.{escaped_text}
use Rattle.bay_process_port.specs.Ports.{PortData, has_line, shown_line, port_reading, loss_reading}
use Rattle.bay_process_port.specs.ProcessOutput.{reported_turn}
use Rattle.bay_process_port.specs.declared.connection_event.ConnectionEvent.{ConnectionEvent}
use Rattle.bay_server_turn.specs.Calls.{Call}
use Rattle.bay_server_turn.specs.Recorded.{Recording, WritesRecording}
use Rattle.bay_server_turn.specs.Served.{TurnInput, Serves, turn_input_of_line, report_of_event, report_in, turn_refusal}
use Rattle.bay_server_turn.specs.Turns.{ServerData, moment_at, with_recording}
use Rattle.bay_server_turn.specs.declared.fault.ServeFault.{ServeFault}
use Rattle.bay_server_turn.specs.declared.record.RecordEnd.{RecordEnd}
use Rattle.bay_server_turn.specs.declared.turn_report.Turn.{Turn}
use Rattle.bay_server.specs.declared.change_lines.BayView.{BayView}
use Rattle.bay_server.specs.declared.clock.Clocks.{Clocks}
use Rattle.bay_server.specs.declared.connection_lines.LineCount.{LineCount}
use Rattle.bay_server.specs.declared.process.NextInput.{NextInput}

-- the lines of a trace that are not empty, each with its number among all
abbrev pub numbered_lines : ℕ → List (List ℕ) → List (ℕ × List ℕ)
numbered_lines k [] = []
numbered_lines k ([] ∷ lines) = numbered_lines (k + 1) lines
numbered_lines k ((b ∷ bs) ∷ lines) = (k, b ∷ bs) ∷ numbered_lines (k + 1) lines

-- a line that the code returns as a slice
abbrev pub line_view : Option (ℕ × Bor (List ℕ)) → Option (ℕ × List ℕ)
line_view None = None
line_view (Some line) = Some (line.0, line.1.now)

-- a writer is not used
abbrev pub StaysUnused : {W : Type 0} → WriterState W → WriterState W → Result ℕ WriteFault → Type 0
StaysUnused old new answer = (new ≡ old) × (answer ≡ Ok 0)

-- the lines of a turn are printed and flushed; if there are none, the writer is not used
abbrev pub PrintsTurn : {W : Type 0} → (W → Option (List ℕ)) → (W → WriteCall → W → Type 0) → ℕ
    → Turn → State → WriterState W
    → WriterState W → Result ℕ WriteFault → Type 0
PrintsTurn contents asks now turn s old new answer =
    MatchBool (is_quiet turn) (StaysUnused old new answer)
    (Prints contents asks (IsOutput (turn_text now turn s) 0) old new answer)

-- a turn is logged, and then its lines are printed
pub record ReportsTurn {W : Type 0} (contents : W → Option (List ℕ))
    (asks : W → WriteCall → W → Type 0)
    (now : ℕ) (count : LineCount) (next : NextInput) (before : BayView) (turn : Turn) (s : State)
    (old new : WriterState W) (answer : Result ℕ WriteFault) : Type 0 where
  pub mid : WriterState W
  pub logged : LogsAll contents asks old (turn_log now count next before s turn) mid
  pub printed : PrintsTurn contents asks now turn s mid new answer

-- why a turn is refused is logged, printed and flushed
pub record ReportsTurnRefusal {W : Type 0} (contents : W → Option (List ℕ))
    (asks : W → WriteCall → W → Type 0) (fault : ServeFault) (number : ℕ) (shown : List ℕ)
    (old new : WriterState W) (answer : Result ℕ WriteFault) : Type 0 where
  pub mid : WriterState W
  pub logged : Logs contents asks old (turn_refusal_log fault number shown) mid
  pub printed : Prints contents asks (IsOutput (turn_refusal_text fault number) 3) mid new answer

-- the first, after a turn whose lines could not be written; otherwise the second
abbrev pub AfterTurn : Result ℕ WriteFault → Type 0 → Type 0 → Type 0
AfterTurn (Err fault) ends goes = ends
AfterTurn (Ok status) ends goes = goes

-- the process: its link, its port, and how many of the next turns may skip their reads
pub record ProcessData (L : Type 0) : Type 0 where
  pub link : L
  pub port : PortData
  pub skips_left : ℕ

-- the state of a service, before or after a turn: the link, the server, its clock, the count of the
-- log lines of connections, the host, the process, if there is one, and the lines of the trace that
-- are left
pub record ServiceState (L H : Type 0) : Type 0 where
  pub link : L
  pub held : ServerData
  pub clock : ClockData
  pub count : LineCount
  pub host : H
  pub process : Option (ProcessData L)
  pub lines : List (ℕ × List ℕ)

-- ---- the input of a turn

-- the input of a turn, the lines of the trace after it, and the process then
pub record ChosenInput (L : Type 0) : Type 0 where
  pub next : NextInput
  pub lines : List (ℕ × List ℕ)
  pub process : Option (ProcessData L)

-- a process has gone, or is believed no more, and is lost now; and the process after that
abbrev pub loss_of : {L : Type 0} → State → ℕ → ℕ → Option (ProcessData L) → Bool
loss_of s now jump None = false
loss_of s now jump (Some p) = (loss_reading s now jump p.port).is_lost

-- the process after a turn with a line of a trace took its loss, if there was one
abbrev pub after_loss : {L : Type 0} → State → ℕ → ℕ → Option (ProcessData L)
    → Option (ProcessData L)
after_loss s now jump None = None
after_loss s now jump (Some p) =
    Some (record { link = p.link; port = (loss_reading s now jump p.port).port; skips_left = 0 })

-- A turn skips its reads if a line of the process waits and the turn may skip them; of 64 turns in a
-- row at least one does not.
abbrev pub skips_reads_of : {L : Type 0} → ProcessData L → Bool
skips_reads_of p = nat_lt 0 p.skips_left && has_line p.port

-- how many of the next turns may skip their reads, after a turn that skipped its own or did not
abbrev pub skips_after : Bool → ℕ → ℕ
skips_after true left = left - 1
skips_after false left = 63

-- the next turn skips its reads, if no line of a trace is left
abbrev pub skips_reads : {L : Type 0} → Option (ProcessData L) → Bool
skips_reads None = false
skips_reads (Some p) = skips_reads_of p

-- the input of a turn with a line, with the loss of the process
abbrev pub with_loss : Bool → TurnInput → TurnInput
with_loss is_lost (Err fault) = Err fault
with_loss is_lost (Ok given) =
    Ok (record
    { is_lost = is_lost || given.is_lost; event = given.event; skips_reads = given.skips_reads })

-- the input of a turn from a line of the trace
abbrev pub input_from_line : State → Bool → ℕ × List ℕ → NextInput
input_from_line s is_lost line = record {
  number = line.0;
  shown = escaped_text line.1;
  given = with_loss is_lost (turn_input_of_line s line.1);
}

-- the input of a turn from the port of the process, if there is one; its line has no number
abbrev pub input_from_port : {L : Type 0} → State → ℕ → ℕ → List (ℕ × List ℕ)
    → Option (ProcessData L)
    → ChosenInput L
input_from_port s now jump lines None = record {
  next = record { number = 0; shown = []; given = Ok (report_of_event None) };
  lines = lines;
  process = None;
}
input_from_port s now jump lines (Some p) =
    let taken = port_reading s now jump p.port in
    record {
      next = record {
        number = 0;
        shown = shown_line taken.line;
        given = Ok (record
            { is_lost = taken.is_lost; event = taken.event; skips_reads = skips_reads_of p });
      };
      lines = lines;
      process = Some (record {
        link = p.link;
        port = taken.port;
        skips_left = skips_after (skips_reads_of p) p.skips_left;
      });
    }

-- The input of a turn is the next line of the trace, with the loss of the process, if it is lost;
-- if no line is left, it is what the process has.
abbrev pub input_from_trace : {L : Type 0} → Option (ℕ × List ℕ) → State → ℕ → ℕ → List (ℕ × List ℕ)
    → Option (ProcessData L) → ChosenInput L
input_from_trace None s now jump lines process = input_from_port s now jump lines process
input_from_trace (Some line) s now jump lines process = record {
  next = input_from_line s (loss_of s now jump process) line;
  lines = drop 1 lines;
  process = after_loss s now jump process;
}

-- the input of a turn, by the lines of the trace that are left
abbrev pub choose_input : {L : Type 0} → State → ℕ → ℕ → List (ℕ × List ℕ) → Option (ProcessData L)
    → ChosenInput L
choose_input s now jump lines process =
    input_from_trace (slice_get lines 0) s now jump lines process

-- ---- a turn

-- the moment of a turn, if the host's clocks have these times
abbrev pub moment_of : {L H : Type 0} → Clocks → ServiceState L H → ℕ
moment_of clocks b = moment_at (moment_read clocks b.clock) b.held

-- the input of this turn
abbrev pub chosen_input : {L H : Type 0} → Clocks → ServiceState L H → ChosenInput L
chosen_input clocks b =
    choose_input b.held.device (moment_of clocks b) (jump_of clocks b.clock) b.lines b.process

-- The host's clocks were read. If the side of the system's time changed, that was logged.
pub record ReadsClocks {L H W : Type 0} (acts : H → HostCall L → H → Type 0)
    (contents : W → Option (List ℕ)) (asks : W → WriteCall → W → Type 0) (clocks : Clocks)
    (before : ServiceState L H) (host : H) (old new : WriterState W) : Type 0 where
  pub reported : acts before.host (ReadsTimes clocks.system clocks.steady) host
  pub logged : LogsAll contents asks old (shift_log (moment_of clocks before)
      (shift_of before.clock.side (moment_read clocks before.clock) clocks.system)) new

-- The host waited until its steady clock shows this time, if there is one.
abbrev pub WaitsForEnd : {L H : Type 0} → (H → HostCall L → H → Type 0) → Option ℕ → H → H → Type 0
WaitsForEnd acts None before after = after ≡ before
WaitsForEnd acts (Some time) before after = acts before (WaitsUntil time) after

-- After a turn a pause was made, or none. Then the host waited for the end of the turn, if turns
-- have a least length.
pub record AwaitsTurn {L H : Type 0} (acts : H → HostCall L → H → Type 0) (end : Option ℕ)
    (before after : H) : Type 0 where
  pub rested : H
  pub pause : (rested ≡ before) ⊎ acts before Pauses rested
  pub waits : WaitsForEnd acts end rested after

-- The state of a service at the next turn: at once, if that turn skips its reads.
abbrev pub AwaitsNext : {L H : Type 0} → (H → HostCall L → H → Type 0) → ServiceState L H
    → ServiceState L H
    → Type 0
AwaitsNext acts before after =
    MatchBool (skips_reads before.process) (after.host ≡ before.host)
    (AwaitsTurn acts (turn_end before.clock) before.host after.host)
    × (after ≡ record before { host = after.host })

-- an event of the process's connection is logged, printed and flushed
abbrev pub ReportsConnectionEvent : {W : Type 0} → (W → Option (List ℕ))
    → (W → WriteCall → W → Type 0) → ℕ
    → Option ConnectionEvent → WriterState W
    → WriterState W → Result ℕ WriteFault → Type 0
ReportsConnectionEvent contents asks now None old new answer = StaysUnused old new answer
ReportsConnectionEvent {W} contents asks now (Some connection_event) old new answer =
    (mid : WriterState W) × Logs contents asks old (connection_event_log now connection_event) mid
    × Prints contents asks (IsOutput (connection_event_text now connection_event) 0) mid new answer

module _ {L W : Type 0} (step : L → Call → L → Type 0) (contents : W → Option (List ℕ))
    (asks : W → WriteCall → W → Type 0) where
  -- the process's connection is served, if there is one, and its event is reported
  pub record PollsOne (now : ℕ) (turn : Turn) (s : State) (before after : ProcessData L)
      (old new : WriterState W) (answer : Result ℕ WriteFault) : Type 0 where
    pub connection_event : Option ConnectionEvent
    pub attends : Polls step
        (λ script. poll_outcome (reported_turn now turn s) s script before.port)
        before.link after.link after.port connection_event
    pub skips_left : after.skips_left ≡ before.skips_left
    pub printed : ReportsConnectionEvent contents asks now connection_event old new answer

  -- The process's connection is served, if there is a process; without one the writer stays as it
  -- is.
  abbrev pub PollsProcess : ℕ → Turn → State → Option (ProcessData L) → Option (ProcessData L)
      → WriterState W
      → WriterState W → Result ℕ WriteFault → Type 0
  PollsProcess now turn s None None old new answer = StaysUnused old new answer
  PollsProcess now turn s None (Some after) old new answer = ⊥
  PollsProcess now turn s (Some before) None old new answer = ⊥
  PollsProcess now turn s (Some before) (Some after) old new answer =
      PollsOne now turn s before after old new answer

  -- What a turn reports is logged and printed, and then the process is attended to; or the lines
  -- could not be printed.
  pub record ReportsAndPolls (now : ℕ) (count : LineCount) (next : NextInput) (seen : BayView)
      (turn : Turn) (s : State) (before after : Option (ProcessData L)) (old new : WriterState W)
      (answer : Result ℕ WriteFault) : Type 0 where
    pub between : WriterState W
    pub outcome : Result ℕ WriteFault
    pub printed : ReportsTurn contents asks now count next seen turn s old between outcome
    pub polls : AfterTurn outcome
        ((after ≡ before) × (new ≡ between) × (answer ≡ outcome))
        (PollsProcess now turn s before after between new answer)

module _ {L H W : Type 0} (step : L → Call → L → Type 0) (acts : H → HostCall L → H → Type 0)
    (contents : W → Option (List ℕ)) (asks : W → WriteCall → W → Type 0) where
  -- The clock was read for the moment of a turn, and the input of the turn was chosen. The turn was
  -- refused: the reason is reported, and nothing has changed.
  pub record TurnRefused (before : ServiceState L H) (old : WriterState W) (host : H)
      (new : WriterState W)
      (answer : Result ℕ WriteFault) : Type 0 where
    pub clocks : Clocks
    pub begun : WriterState W
    pub clocks_read : ReadsClocks acts contents asks clocks before host old begun
    pub fault : ServeFault
    pub is : turn_refusal (moment_read clocks before.clock) (chosen_input clocks before).next.given
        before.held ≡ Some fault
    pub printed : ReportsTurnRefusal contents asks fault (chosen_input clocks before).next.number
        (chosen_input clocks before).next.shown begun new answer

  -- The clock was read, the input of the turn was chosen, the turn was done, its report was
  -- printed, and the process was attended to; or it could not be printed. The turn's events were
  -- recorded, an event of the process with the line of the input; then what was recorded was
  -- written, of which the file took a prefix. If the record has ended, that was logged.
  pub record TurnServed (before : ServiceState L H) (old : WriterState W) (after : ServiceState L H)
      (new : WriterState W) (answer : Result ℕ WriteFault) : Type 0 where
    pub clocks : Clocks
    pub begun : WriterState W
    pub clocks_read : ReadsClocks acts contents asks clocks before after.host old begun
    pub clock : after.clock ≡ after_reading clocks before.clock
    pub lines : after.lines ≡ (chosen_input clocks before).lines
    pub turn : Turn
    pub right : turn_refusal (moment_read clocks before.clock)
        (chosen_input clocks before).next.given
        before.held ≡ None
    pub unwritten : Option Recording
    pub serves : Serves step before.link after.link (moment_of clocks before)
        (report_in (chosen_input clocks before).next.given)
        (chosen_input clocks before).next.shown before.held (with_recording unwritten after.held)
        turn
    pub reported : WriterState W
    pub reports : ReportsAndPolls step contents asks (moment_of clocks before) before.count
        (chosen_input clocks before).next (bay_view before.held.device) turn after.held.device
        (chosen_input clocks before).process after.process begun reported answer
    pub count : after.count ≡ count_after (moment_of clocks before) turn before.count
    pub took : List ℕ
    pub end : Option RecordEnd
    pub written : WritesRecording took unwritten after.held.recording end
    pub ended : LogsAll contents asks reported (record_log (moment_of clocks before) end) new

  -- `turns` turns are served: all of them, which is logged; up to one that is refused; or up to one
  -- whose lines could not be written.
  abbrev pub ServesTurns : ℕ → ServiceState L H → WriterState W → H → WriterState W
      → Result ℕ WriteFault
      → Type 0
  ServesTurns zero before old host new answer =
      (host ≡ before.host) × Logs contents asks old (all_served_log before.held.device.moment) new
      × (answer ≡ Ok 0)
  ServesTurns (suc turns) before old host new answer =
      TurnRefused before old host new answer
      ⊎ ((after : ServiceState L H) × (mid : WriterState W) × (reported : Result ℕ WriteFault)
      × TurnServed before old after mid reported
      × AfterTurn reported ((host ≡ after.host) × (new ≡ mid) × (answer ≡ reported))
      ((next : ServiceState L H) × AwaitsNext acts after next
      × ServesTurns turns next mid host new answer))
