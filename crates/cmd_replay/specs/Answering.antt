-- How a line of the trace is answered: with which choice, and by which steps.
use Rattle.bay_io.specs.Calls.{WriteCall}
use Rattle.std.specs.Prelude.{◌≡◌, ℕ, Bool, true, false, List, Option, Result, IfOk, MatchResult}
use Rattle.bay_device.specs.Device.{State}
use Rattle.bay_device.specs.Outcomes.{outcome}
use Rattle.bay_device.specs.declared.event.Event.{Event}
use Rattle.bay_io.specs.Sent.{Finishes, Puts}
use Rattle.bay_io.specs.Watched.{WriterState}
use Rattle.bay_io.specs.declared.outbox.WriteFault.{WriteFault}
use Rattle.cmd_replay.specs.LineAnswers.{Choice, LineAnswer, Replaying}
use Rattle.cmd_replay.specs.declared.answer.ReplayEnd.{ReplayEnd}
use Rattle.cmd_replay.specs.declared.answer.ReplayEnd.TheVariants.{Unreadable, OutOfMemory}
use Rattle.bay_report.specs.Lines.{step_text}
use Rattle.bay_report.specs.LogLines.{LogsIfAny}

-- a replay ended at a line that is not valid
abbrev pub is_unreadable : ReplayEnd → Bool
is_unreadable Unreadable = true
is_unreadable OutOfMemory = false

-- an event was applied, and its lines were put into the writer
pub record AppliesEvent {W : Type 0} (contents : W → Option (List ℕ))
    (asks : W → WriteCall → W → Type 0)
    (old : WriterState W) (now : ℕ)
    (event : Event) (before : State) (new : WriterState W) (after : State) : Type 0 where
  pub choice : Option ℕ
  pub text : Puts contents asks old
      (step_text now (outcome choice now event before).answer
      (outcome choice now event before).after) new
  pub after_is : after ≡ (outcome choice now event before).after

-- a line was answered, with some choice: its text was put into the writer, and if the answer is not
-- the last, the state after it is the one that results
pub record AnswersLine {W : Type 0} (contents : W → Option (List ℕ))
    (asks : W → WriteCall → W → Type 0)
    (old : WriterState W)
    (said : Choice → LineAnswer) (new : WriterState W) (after : Replaying) (is_last : Bool)
    : Type 0 where
  pub choice : Choice
  pub text : Puts contents asks old (said choice).text new
  pub last : is_last ≡ (said choice).is_last
  pub after_is : is_last ≡ false → after ≡ (said choice).after

-- a writer was flushed, with this status, and then a line was logged, if there is one; after a
-- failure nothing was logged
pub record FinishesLogs {W : Type 0} (contents : W → Option (List ℕ))
    (asks : W → WriteCall → W → Type 0) (status : ℕ) (line : Option (List ℕ))
    (old new : WriterState W)
    (result : Result ℕ WriteFault) : Type 0 where
  pub between : WriterState W
  pub finishes : Finishes contents asks old between result
  pub status_is : IfOk result (λ answered. answered ≡ status)
  pub logged : MatchResult result (λ answered. LogsIfAny contents asks between line new)
      (λ fault. new ≡ between)
