-- What is done at a line of the trace.
use Rattle.bay_io.specs.Calls.{WriteCall}
use Rattle.std.proofs.Common.{◌≡◌, ℕ, ◌<◌, nat_lt, Bool, true, false, cond, List, Option, None, Result, Ok, Err, IsErr, arith, refl, ap, ap₂, subst, ◌∙◌}
use Rattle.std.proofs.lemmas.Bool.Decides.{nat_tests}
use Rattle.bay_device.specs.Device.{State}
use Rattle.bay_device.specs.Outcomes.{Outcome, outcome}
use Rattle.bay_device.specs.declared.event.Event.{Event}
use Rattle.bay_device.specs.declared.event.Step.{Step}
use Rattle.bay_device.specs.declared.fault.StepFault.{StepFault}
use Rattle.bay_io.specs.Sent.{Finishes, Puts}
use Rattle.bay_io.specs.Watched.{WriterState}
use Rattle.bay_io.specs.declared.outbox.WriteFault.{WriteFault}
use Rattle.cmd_replay.specs.Answering.{AppliesEvent, FinishesLogs}
use Rattle.cmd_replay.specs.LineAnswers.{Replaying, event_answer, memory_answer, named_answer, unread}
use Rattle.bay_report.specs.Lines.{step_text}
use Rattle.bay_trace.specs.Resolving.{without_address, octet_count, resolved_event}
use Rattle.bay_trace.specs.Trace.{NamedData}
use Rattle.bay_trace.proofs.PlacingLemmas.{same-anywhere}

-- what an event comes to is told by what is taken for it
pub Does-same : {W : Type 0} (contents : W → Option (List ℕ)) (asks : W → WriteCall → W → Type 0)
    (old : WriterState W) (now : ℕ)
    (event other : Event) (before : State) (new : WriterState W) (after : State)
    → without_address event ≡ other → AppliesEvent contents asks old now event before new after
    → AppliesEvent contents asks old now other before new after
Does-same contents asks old now event other before new after e d =
    let same : outcome d.choice now event before ≡ outcome d.choice now other before =
    same-anywhere d.choice now event before ∙ ap (λ f. outcome d.choice now f before) e in
    record {
      choice = d.choice;
      text = subst (λ (o : Outcome). Puts contents asks old (step_text now o.answer o.after) new)
          same
          d.text;
      after_is = d.after_is ∙ ap (λ (o : Outcome). o.after) same;
    }

-- an event is done where the text of its answer is put
pub Does-put : {W : Type 0} (contents : W → Option (List ℕ)) (asks : W → WriteCall → W → Type 0)
    (old : WriterState W) (now : ℕ) (event : Event) (before : State) (new : WriterState W)
    (after : State)
    (choice : Option ℕ) (answer : Result Step StepFault)
    → answer ≡ (outcome choice now event before).answer
    → after ≡ (outcome choice now event before).after
    → Puts contents asks old (step_text now answer after) new
    → AppliesEvent contents asks old now event before new after
Does-put contents asks old now event before new after choice answer answered left put =
    record {
      choice = choice;
      text = subst (λ t. Puts contents asks old t new) (ap₂ (step_text now) answered left) put;
      after_is = left;
    }

-- ---- what is taken for a line

pub memory-said : (now : ℕ) (event : NamedData) (r : Replaying) → r.room < octet_count event
    → named_answer unread now event r ≡ memory_answer r
memory-said now event r lt = by_test (nat_lt r.room (octet_count event)) refl
  where
    by_test : (v : Bool) → nat_lt r.room (octet_count event) ≡ v
        → named_answer unread now event r ≡ memory_answer r
    by_test true is =
        ap (λ v. cond v (memory_answer r)
        (event_answer None now (resolved_event r.device event) (octet_count event) r)) is
    by_test false is = absurd (grind (arith, nat_tests))

-- ---- the last line of a trace

-- the report could not be flushed
pub FinishesLogs-cut : {W : Type 0} {contents : W → Option (List ℕ)}
    {asks : W → WriteCall → W → Type 0} {status : ℕ} {line : Option (List ℕ)}
    {old new : WriterState W}
    (fault : WriteFault) (r : Result ℕ WriteFault) → IsErr r
    → Finishes {X = ℕ} {E = WriteFault} contents asks old new (Err fault)
    → FinishesLogs contents asks status line old new r
FinishesLogs-cut fault (Ok answered) is f = absurd cc
FinishesLogs-cut {new = new} fault (Err e) is f =
    record { between = new; finishes = f; status_is = tt; logged = refl }
