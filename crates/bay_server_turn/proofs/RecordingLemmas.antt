-- What a step sends, and what a turn collects, don't depend on the record.
use Rattle.std.proofs.Common.{◌≡◌, ℕ, Bool, true, false, cond, List, [], ◌∷◌, ◌++◌, Option, None, Some, Result, Ok, Err, refl, ap, ◌∙◌}
use Rattle.bay_device.specs.Outcomes.{slot_of}
use Rattle.bay_device.specs.declared.event.Sent.{Sent}
use Rattle.bay_device.specs.declared.event.Step.{Step}
use Rattle.bay_device.specs.declared.fault.StepFault.{StepFault}
use Rattle.bay_server_turn.specs.AssociationStates.{accepts_replies, after_full}
use Rattle.bay_server_turn.specs.Recorded.{Recording}
use Rattle.bay_server_turn.specs.Turns.{TurnState, after_device_close, has_room, is_open_at, put_all, put_answer, put_at, put_ended, put_sent, put_whole, record_refusal, state_at, turn_queue, with_commands, with_decisions, with_noted, with_queue, with_state}

-- a turn with another record
abbrev pub with_record : (Option Recording → Option Recording) → TurnState → TurnState
with_record f s = record {
  server = record s.server { recording = f s.server.recording };
  noted = s.noted;
}

module _ (f : Option Recording → Option Recording) where
  whole-by : (slot : ℕ) (octets : List ℕ) (s : TurnState) (b : Bool)
      → cond b (with_queue slot (turn_queue slot s ++ octets) (with_record f s))
      (with_noted (with_state slot (after_full (state_at slot s)) s.noted) (with_record f s))
      ≡ with_record f (cond b (with_queue slot (turn_queue slot s ++ octets) s)
      (with_noted (with_state slot (after_full (state_at slot s)) s.noted) s))
  whole-by slot octets s true = refl
  whole-by slot octets s false = refl

  at-by : (slot : ℕ) (octets : List ℕ) (s : TurnState) (b : Bool)
      → cond b (put_whole slot octets (with_record f s)) (with_record f s)
      ≡ with_record f (cond b (put_whole slot octets s) s)
  at-by slot octets s true = whole-by slot octets s (has_room (turn_queue slot s) octets)
  at-by slot octets s false = refl

  at-recorded : (at : Option ℕ) (octets : List ℕ) (s : TurnState)
      → put_at at octets (with_record f s) ≡ with_record f (put_at at octets s)
  at-recorded None octets s = refl
  at-recorded (Some slot) octets s =
      at-by slot octets s (accepts_replies (state_at slot s) (is_open_at slot s))

  sent-recorded : (sent : Sent) (s : TurnState)
      → put_sent sent (with_record f s) ≡ with_record f (put_sent sent s)
  sent-recorded sent s = at-recorded (slot_of sent.association) sent.octets s

  pub ended-recorded : (ended : Option Sent) (s : TurnState)
      → put_ended ended (with_record f s) ≡ with_record f (put_ended ended s)
  ended-recorded None s = refl
  ended-recorded (Some sent) s = sent-recorded sent s

  pub all-recorded : (sends : List Sent) (s : TurnState)
      → put_all sends (with_record f s) ≡ with_record f (put_all sends s)
  all-recorded [] s = refl
  all-recorded (sent ∷ more) s =
      ap (put_all more) (sent-recorded sent s) ∙ all-recorded more (put_sent sent s)

  pub answer-recorded : (slot : ℕ) (answer : Result Step StepFault) (s : TurnState)
      → put_answer slot answer (with_record f s) ≡ with_record f (put_answer slot answer s)
  answer-recorded slot (Err fault) s = refl
  answer-recorded slot (Ok step) s =
      let left : TurnState = after_device_close slot step.closed s in
      ap (λ (t : TurnState). with_noted (with_decisions slot step.decisions
      (with_commands step.commands t).noted) (with_commands step.commands t))
      (ap (put_all step.sent) (ended-recorded step.ended left)
      ∙ all-recorded step.sent (put_ended step.ended left))

  pub refusal-recorded : (answer : Result Step StepFault) (s : TurnState)
      → record_refusal answer (with_record f s) ≡ with_record f (record_refusal answer s)
  refusal-recorded (Err fault) s = refl
  refusal-recorded (Ok step) s = ended-recorded step.ended s
