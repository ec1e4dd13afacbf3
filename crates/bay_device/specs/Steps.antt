-- The promises of a step and of a run: they are the outcome of some choices.
use Rattle.std.specs.Prelude.{ℕ, ◌≡◌, List, [], ◌∷◌, Option, Some, Result, Ok, Err}
use Rattle.bay_connection.specs.ConnectionStates.{ConnectionState, indications, connection_after}
use Rattle.bay_device.specs.Device.{State}
use Rattle.bay_device.specs.Receiving.{after_indications}
use Rattle.bay_device.specs.Outcomes.{Outcome, connection_at, step_start, outcome, slot_of, quiet_step, recv_done, recv_outcome, scan_step}
use Rattle.bay_device.specs.declared.event.Event.{Event}
use Rattle.bay_device.specs.declared.event.Event.TheVariants.{Open, Recv, Close, Contact, Input, Measure, BadMeasure, Lost, Scan}
use Rattle.bay_device.specs.declared.event.ScanResult.{ScanResult}
use Rattle.bay_device.specs.declared.event.Sent.{Sent}
use Rattle.bay_device.specs.declared.event.Step.{Step}
use Rattle.bay_device.specs.declared.fault.StepFault.{StepFault}

-- the answer and the device after it are those of an outcome
pub record IsOutcome (o : Outcome) (answer : Result Step StepFault) (new : State) : Type 0 where
  pub answered : answer ≡ o.answer
  pub left : new ≡ o.after

-- an answer that sends nothing but the report that an operate ended
abbrev pub quiet_answer : Result (Option Sent) StepFault → Result Step StepFault
quiet_answer (Ok ended) = Ok (quiet_step ended)
quiet_answer (Err fault) = Err fault

-- the answer sends nothing but the report that an operate ended, and is that of an outcome
pub record IsQuiet (answer : Result (Option Sent) StepFault) (new : State) (o : Outcome)
    : Type 0 where
  pub answered : quiet_answer answer ≡ o.answer
  pub left : new ≡ o.after

-- an answer that has nothing but the result of a scan
abbrev pub scan_answer : Result ScanResult StepFault → Result Step StepFault
scan_answer (Ok scanned) = Ok (scan_step scanned)
scan_answer (Err fault) = Err fault

-- An event at a time has this answer and leads to this device: they are its outcome, for some
-- choice.
pub record Steps (now : ℕ) (event : Event) (old : State) (answer : Result Step StepFault)
    (new : State) : Type 0 where
  pub choice : Option ℕ
  pub answered : answer ≡ (outcome choice now event old).answer
  pub left : new ≡ (outcome choice now event old).after

-- Octets of an association, at a time that is not refused, have this answer and lead to this
-- device, for some choice.
pub record Receives (now a : ℕ) (octets : List ℕ) (old : State) (answer : Result Step StepFault)
    (new : State) : Type 0 where
  pub choice : Option ℕ
  pub answered : answer ≡ (recv_outcome choice now a octets old
      (connection_at (slot_of a) old)).answer
  pub left : new ≡ (recv_outcome choice now a octets old (connection_at (slot_of a) old)).after

-- Octets of an open association have this answer and lead to this device, for some choice, after
-- the end of what has expired, of which `ended` is the report.
pub record HandlesOctetsFrom (now a : ℕ) (octets : List ℕ) (ended : Option Sent) (s : State)
    (connection : ConnectionState)
    (step : Step) (new : State) : Type 0 where
  pub choice : Option ℕ
  pub answered : (let answer : Result Step StepFault = Ok step in answer)
      ≡ (recv_done a (connection_after connection octets) ended
      (after_indications choice now a (indications connection octets) (step_start s))).answer
  pub left : new ≡ (recv_done a (connection_after connection octets) ended
      (after_indications choice now a (indications connection octets) (step_start s))).after

-- Octets of an open association have this answer, from the state of its connection.
abbrev pub HandlesOctets : ℕ → ℕ → List ℕ → Option Sent → State → Step → State → Type 0
HandlesOctets now a octets ended s step new =
    (connection : ConnectionState) → connection_at (slot_of a) s ≡ Some connection
    → HandlesOctetsFrom now a octets ended s connection step new

-- an event of an association
abbrev pub OfAssociation : Event → Type 0
OfAssociation (Open a) = Unit {0}
OfAssociation (Recv a octets) = Unit {0}
OfAssociation (Close a) = Unit {0}
OfAssociation (Contact k position) = ⊥
OfAssociation (Input k value) = ⊥
OfAssociation (Measure k field value) = ⊥
OfAssociation (BadMeasure k field) = ⊥
OfAssociation Lost = ⊥
OfAssociation Scan = ⊥

-- an event without octets; it does not allocate
abbrev pub IsWithoutOctets : Event → Type 0
IsWithoutOctets (Open a) = Unit {0}
IsWithoutOctets (Recv a octets) = octets.now ≡ []
IsWithoutOctets (Close a) = Unit {0}
IsWithoutOctets (Contact k position) = Unit {0}
IsWithoutOctets (Input k value) = Unit {0}
IsWithoutOctets (Measure k field value) = Unit {0}
IsWithoutOctets (BadMeasure k field) = Unit {0}
IsWithoutOctets Lost = Unit {0}
IsWithoutOctets Scan = Unit {0}

-- The events have these answers, one after the other, and lead to this device; and `Does` is true
-- for each of them: for its time, the event, the device before it, its answer and the device after
-- it.
abbrev pub EachStep : (ℕ → Event → State → Result Step StepFault → State → Type 0)
    → List (ℕ × Event) → State → List (Result Step StepFault) → State → Type 0
EachStep Does [] old [] new = new ≡ old
EachStep Does [] old (answer ∷ answers) new = ⊥
EachStep Does (e ∷ es) old [] new = ⊥
EachStep Does (e ∷ es) old (answer ∷ answers) new =
    (next : State) × Steps e.0 e.1 old answer next × Does e.0 e.1 old answer next
    × EachStep Does es next answers new
