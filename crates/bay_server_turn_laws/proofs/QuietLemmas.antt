-- Events that bring no octets of a client.
use Rattle.std.proofs.Common.{◌≡◌, ℕ, ℤ, Bool, true, false, if◌then◌else◌, nat_lt, List, [], Option, Some, None, Result, Ok, Err, slice_get, refl, sym, subst}
use Rattle.bay_base.specs.declared.position.Dbpos.{Dbpos}
use Rattle.bay_nodes.specs.declared.switch.Switch.{Switch}
use Rattle.bay_base.specs.declared.point.MeterField.{MeterField}
use Rattle.bay_connection.specs.ConnectionStates.{ConnectionState}
use Rattle.bay_device.specs.Device.{State}
use Rattle.bay_device.specs.Outcomes.{Outcome, close_outcome, connection_at, contact_outcome, event_outcome, bad_measure_outcome, input_outcome, last_moment, measure_outcome, octets_outcome, open_outcome, outcome, slot_of, recv_outcome, refusal_outcome}
use Rattle.bay_device.specs.Steps.{IsWithoutOctets}
use Rattle.bay_device.specs.declared.event.Event.{Event}
use Rattle.bay_device.specs.declared.event.Event.TheVariants.{Open, Recv, Close, Contact, Input, Measure, BadMeasure, Lost, Scan}
use Rattle.bay_device.specs.declared.event.Step.{Step}
use Rattle.bay_device.specs.declared.fault.StepFault.{StepFault}
use Rattle.bay_device.specs.declared.fault.StepFault.TheVariants.{MomentTooLarge, TimeWentBack}
use Rattle.bay_server_turn.specs.Turns.{event_of}
use Rattle.bay_server_turn.specs.declared.process_input.ProcessEvent.{ProcessEvent}
use Rattle.bay_server_turn.specs.declared.process_input.ProcessEvent.TheVariants as process

-- nothing is sent but what tells of an end, nothing is to be operated, and nothing was closed
pub record SaysLittle (step : Step) : Type 0 where
  pub sent : step.sent ≡ []
  pub commands : step.commands ≡ []
  pub closed : step.closed ≡ None

-- a step, if it is accepted, sends nothing but what tells of an end
abbrev pub IsQuiet : Result Step StepFault → Type 0
IsQuiet (Err fault) = Unit {0}
IsQuiet (Ok step) = SaysLittle step

contact-quiet : (now k : ℕ) (position : Dbpos) (s : State) (switch : Option Switch)
    → IsQuiet (contact_outcome now k position s switch).answer
contact-quiet now k position s None = tt
contact-quiet now k position s (Some switch) =
    record { sent = refl; commands = refl; closed = refl }

input-quiet : (now k : ℕ) (value : Bool) (s : State) (before : Option Bool)
    → IsQuiet (input_outcome now k value s before).answer
input-quiet now k value s None = tt
input-quiet now k value s (Some before) = record { sent = refl; commands = refl; closed = refl }

measure-quiet : (now k : ℕ) (field : MeterField) (value : ℤ) (s : State) (id : Option (List ℕ))
    → IsQuiet (measure_outcome now k field value s id).answer
measure-quiet now k field value s None = tt
measure-quiet now k field value s (Some id) = record { sent = refl; commands = refl; closed = refl }

bad-measure-quiet : (now k : ℕ) (field : MeterField) (s : State) (id : Option (List ℕ))
    → IsQuiet (bad_measure_outcome now k field s id).answer
bad-measure-quiet now k field s None = tt
bad-measure-quiet now k field s (Some id) =
    record { sent = refl; commands = refl; closed = refl }

open-quiet : (now a : ℕ) (s : State) (slot : Option ℕ) (talk : Option ConnectionState)
    → IsQuiet (open_outcome now a s slot talk).answer
open-quiet now a s None talk = tt
open-quiet now a s (Some slot) None = record { sent = refl; commands = refl; closed = refl }
open-quiet now a s (Some slot) (Some talk) = tt

close-quiet : (now a : ℕ) (s : State) (talk : Option ConnectionState)
    → IsQuiet (close_outcome now a s talk).answer
close-quiet now a s None = tt
close-quiet now a s (Some talk) = record { sent = refl; commands = refl; closed = refl }

recv-quiet : (choice : Option ℕ) (now a : ℕ) (octets : List ℕ) (s : State)
    (talk : Option ConnectionState)
    → octets ≡ [] → IsQuiet (recv_outcome choice now a octets s talk).answer
recv-quiet choice now a octets s None e = tt
recv-quiet choice now a octets s (Some talk) e =
    subst (λ l. IsQuiet (octets_outcome choice now a s talk l).answer) (sym e)
    (record { sent = refl; commands = refl; closed = refl })

event-quiet : (choice : Option ℕ) (now : ℕ) (event : Event) (s : State) → IsWithoutOctets event
    → IsQuiet (event_outcome choice now event s).answer
event-quiet choice now (Open a) s h = open-quiet now a s (slot_of a) (connection_at (slot_of a) s)
event-quiet choice now (Recv a octets) s h =
    recv-quiet choice now a octets.now s (connection_at (slot_of a) s) h
event-quiet choice now (Close a) s h = close-quiet now a s (connection_at (slot_of a) s)
event-quiet choice now (Contact k position) s h =
    contact-quiet now k position s (slice_get s.switches k)
event-quiet choice now (Input k value) s h = input-quiet now k value s (slice_get s.input_values k)
event-quiet choice now (Measure k field value) s h =
    measure-quiet now k field value s (slice_get s.meters k)
event-quiet choice now (BadMeasure k field) s h =
    bad-measure-quiet now k field s (slice_get s.meters k)
event-quiet choice now Lost s h = record { sent = refl; commands = refl; closed = refl }
event-quiet choice now Scan s h = record { sent = refl; commands = refl; closed = refl }

-- what holds of a refusal and of what else an event does holds of it at any moment
pub at_any_moment : (P : Outcome → Type 0) (choice : Option ℕ) (now : ℕ) (event : Event) (s : State)
    → ((fault : StepFault) → P (refusal_outcome fault s)) → P (event_outcome choice now event s)
    → P (outcome choice now event s)
at_any_moment P choice now event s f g =
    elim (nat_lt last_moment now) as
    (λ b. P (if b then refusal_outcome MomentTooLarge s else if nat_lt now s.moment
    then refusal_outcome TimeWentBack s else event_outcome choice now event s)) [
      | true ↦ f MomentTooLarge
      | false ↦ elim (nat_lt now s.moment) as
          (λ b. P (if b then refusal_outcome TimeWentBack s else event_outcome choice now event s))
          [ true ↦ f TimeWentBack | false ↦ g ]
    ]

pub outcome-quiet : (choice : Option ℕ) (now : ℕ) (event : Event) (s : State)
    → IsWithoutOctets event → IsQuiet (outcome choice now event s).answer
outcome-quiet choice now event s h =
    at_any_moment (λ o. IsQuiet o.answer) choice now event s (λ f. tt)
    (event-quiet choice now event s h)

-- what happens to the process has no octets
pub process-quiet : (event : ProcessEvent) → IsWithoutOctets (event_of event)
process-quiet (process.Contact k position) = tt
process-quiet (process.Input k value) = tt
process-quiet (process.Measure k field value) = tt
process-quiet (process.BadMeasure k field) = tt
process-quiet process.Lost = tt
