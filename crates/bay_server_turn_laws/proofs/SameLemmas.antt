-- What changes neither the device nor the commands, and tells of no failed link.
use Rattle.std.proofs.Common.{Bool, Err, List, None, Ok, Option, Result, Some, [], ap, append-nil, false, if◌then◌else◌, refl, sym, true, ℕ, ◌++◌, ◌+◌, ◌∷◌, ◌≡◌}
use Rattle.bay_mms_services.specs.declared.answer.Command.{Command}
use Rattle.bay_device.specs.declared.event.Event.{Event}
use Rattle.bay_device.specs.declared.event.Step.{Step}
use Rattle.bay_device.specs.declared.event.Why.{Why}
use Rattle.bay_device.specs.declared.event.Why.TheVariants.{Ended, Fault, Memory}
use Rattle.bay_device.specs.declared.fault.StepFault.{StepFault}
use Rattle.bay_server_turn.specs.AssociationStates.{is_close_reported}
use Rattle.bay_server_turn.specs.Turns.{TurnData, TurnState, after_closing, mark_closed, start_closing, after_device_close, put_all, put_answer, put_ended, put_quiet, record_refusal, noted_state, memory_reported, close_reported, with_closing, with_noted, with_recorded}
use Rattle.bay_server_turn.specs.declared.turn_report.CloseReason.{CloseReason}
use Rattle.bay_server_turn.specs.declared.turn_report.CloseReason.TheVariants as closing
use Rattle.bay_server_turn_laws.specs.Events.{answer_commands}
use Rattle.bay_server_turn_laws.specs.Faults.{is_link_failed, reports_failure}
use Rattle.bay_server_turn_laws.proofs.BlameLemmas.{tells-append}
use Rattle.bay_server_turn_laws.proofs.PutLemmas.{IsPut, puts-all, puts-ended, puts-quiet}

pub record Same (s t : TurnState) : Type 0 where
  pub device : t.server.device ≡ s.server.device
  pub commands : t.noted.commands ≡ s.noted.commands
  pub failures : reports_failure t.noted.closed ≡ reports_failure s.noted.closed

pub Same-refl : (s : TurnState) → Same s s
Same-refl s = record { device = refl; commands = refl; failures = refl }

same-put : (s : TurnState) → IsPut (Same s)
same-put s = record {
  fits = λ slot octets t room p. record
      { device = p.device; commands = p.commands; failures = p.failures };
  fills = λ slot t p. record
      { device = p.device; commands = p.commands; failures = p.failures };
}

pub put_quiet-same : (answer : Result Step StepFault) (s : TurnState) → Same s (put_quiet answer s)
put_quiet-same answer s = puts-quiet (Same s) (same-put s) answer s (Same-refl s)

pub put_told-same : (answer : Result Step StepFault) (s : TurnState)
    → Same s (record_refusal answer s)
put_told-same (Err fault) s = record { device = refl; commands = refl; failures = refl }
put_told-same (Ok step) s = puts-ended (Same s) (same-put s) step.ended s (Same-refl s)

-- an event is recorded
pub recorded-same : (now : ℕ) (source : List ℕ) (event : Event) (s t : TurnState) → Same s t
    → Same s (with_recorded now source event t)
recorded-same now source event s t p =
    record { device = p.device; commands = p.commands; failures = p.failures }

-- ---- what is told

pub record SameNotes (n m : TurnData) : Type 0 where
  pub commands : m.commands ≡ n.commands
  pub failures : reports_failure m.closed ≡ reports_failure n.closed

notes-if : (n m : TurnData) (b : Bool) → SameNotes n m → SameNotes n (if b then n else m)
notes-if n m true h = record { commands = refl; failures = refl }
notes-if n m false h = h

told-same : (slot : ℕ) (closing : CloseReason) (n : TurnData) → is_link_failed closing ≡ false
    → SameNotes n (with_closing slot closing n)
told-same slot closing n e =
    notes-if n (record n { closed = n.closed ++ (slot + 1, closing) ∷ [] })
    (is_close_reported (noted_state slot n))
    (record { commands = refl; failures = tells-append n.closed (slot + 1) closing e })

told_memory-same : (slot : ℕ) (n : TurnData) → SameNotes n (memory_reported slot n)
told_memory-same slot n =
    notes-if n (record n { memory = n.memory ++ (slot + 1) ∷ [] })
    (is_close_reported (noted_state slot n))
    (record { commands = refl; failures = refl })

told_why-same : (slot : ℕ) (why : Why) (n : TurnData) → SameNotes n (close_reported slot why n)
told_why-same slot Ended n = told-same slot closing.Ended n refl
told_why-same slot (Fault code) n = told-same slot (closing.Fault code) n refl
told_why-same slot Memory n = told_memory-same slot n

pub leaves-same : (slot : ℕ) (why : Why) (s : TurnState)
    → Same s (with_noted (start_closing slot why s.noted) s)
leaves-same slot why s =
    let with_closing : SameNotes s.noted (close_reported slot why s.noted) =
    told_why-same slot why s.noted in
    record { device = refl; commands = with_closing.commands; failures = with_closing.failures }

pub goes-same : (slot : ℕ) (closing : CloseReason) (n : TurnData) → is_link_failed closing ≡ false
    → SameNotes n (mark_closed slot closing n)
goes-same slot closing n e =
    let with_closing : SameNotes n (with_closing slot closing n) = told-same slot closing n e in
    record { commands = with_closing.commands; failures = with_closing.failures }

commands-if : (n m : TurnData) (b : Bool) → m.commands ≡ n.commands
    → (let o : TurnData = if b then n else m in o).commands ≡ n.commands
commands-if n m true e = refl
commands-if n m false e = e

-- whatever the reason
pub goes-commands : (slot : ℕ) (closing : CloseReason) (n : TurnData)
    → (mark_closed slot closing n).commands ≡ n.commands
goes-commands slot closing n =
    commands-if n (record n { closed = n.closed ++ (slot + 1, closing) ∷ [] })
    (is_close_reported (noted_state slot n)) refl

pub parted-same : (slot : ℕ) (s : TurnState) → Same s (after_closing slot s)
parted-same slot s = record { device = refl; commands = refl; failures = refl }

-- ---- the device's answer to octets

left_by-same : (slot : ℕ) (closed : Option (ℕ × Why)) (s : TurnState)
    → Same s (after_device_close slot closed s)
left_by-same slot None s = Same-refl s
left_by-same slot (Some closed) s = leaves-same slot closed.1 s

-- its commands are told besides
pub record Commands (added : List Command) (s t : TurnState) : Type 0 where
  pub device : t.server.device ≡ s.server.device
  pub commands : t.noted.commands ≡ s.noted.commands ++ added
  pub failures : reports_failure t.noted.closed ≡ reports_failure s.noted.closed

pub put_answer-commands : (slot : ℕ) (answer : Result Step StepFault) (s : TurnState)
    → Commands (answer_commands answer) s (put_answer slot answer s)
put_answer-commands slot (Err fault) s =
    record { device = refl; commands = sym (append-nil s.noted.commands); failures = refl }
put_answer-commands slot (Ok step) s =
    let left : TurnState = after_device_close slot step.closed s in
    let all : Same s (put_all step.sent (put_ended step.ended left)) =
    puts-all (Same s) (same-put s) step.sent (put_ended step.ended left)
    (puts-ended (Same s) (same-put s) step.ended left (left_by-same slot step.closed s)) in
    record {
      device = all.device;
      commands = ap (λ l. l ++ step.commands) all.commands;
      failures = all.failures;
    }
