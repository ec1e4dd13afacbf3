-- The moment of a device does not go back.
use Rattle.std.proofs.Common.{◌≡◌, ℕ, zero, suc, ◌≤◌, Bool, true, false, cond, nat_lt, List, [], ◌∷◌, Option, None, Some, Result, Ok, refl, ap, subst, sym, arith}
use Rattle.std.specs.Prelude.{ℤ, slice_get}
use Rattle.bay_base.specs.declared.position.Dbpos.{Dbpos}
use Rattle.bay_base.specs.declared.point.MeterField.{MeterField}
use Rattle.bay_nodes.specs.declared.switch.Switch.{Switch}
use Rattle.bay_connection.specs.ConnectionStates.{ConnectionState, Indication, answers, connection_after, ends, fails, indications, releases, delivers}
use Rattle.bay_device.specs.Device.{State, device_at}
use Rattle.bay_device.specs.Outcomes.{Outcome, close_outcome, connection_at, contact_outcome, bad_measure_outcome, event_outcome, initial_connection, input_outcome, last_moment, lost_outcome, measure_outcome, step_start, open_outcome, slot_of, recv_after, recv_outcome, refusal_outcome, with_connection, without_owner}
use Rattle.bay_device.specs.Receiving.{StepState, ReceiveResult, after_indications, after_pdu, on_indication, with_sent}
use Rattle.bay_device.specs.Steps.{Steps}
use Rattle.bay_device.specs.declared.event.Event.{Event}
use Rattle.bay_device.specs.declared.event.Event.TheVariants.{BadMeasure, Close, Contact, Input, Lost, Measure, Open, Recv, Scan}
use Rattle.bay_device.specs.declared.event.Step.{Step}
use Rattle.bay_device.specs.declared.event.Why.{Why}
use Rattle.bay_device.specs.declared.fault.StepFault.{StepFault}
use Rattle.bay_device.specs.declared.fault.StepFault.TheVariants.{MomentTooLarge, TimeWentBack}
use Rattle.bay_device.proofs.LostLemmas.{Fixed, lost-fixed}

-- ---- octets

said-moment : (now a : ℕ) (i : Indication) (d : StepState) (later : StepState → ReceiveResult)
    → ((e : StepState) → (later e).done.state.moment ≡ e.state.moment)
    → (on_indication now a i d later).done.state.moment ≡ d.state.moment
said-moment now a (answers octets) d later h = h (with_sent a octets d)
said-moment now a (delivers terms pdu) d later h = h (after_pdu now a terms pdu d)
said-moment now a (releases octets) d later h = refl
said-moment now a ends d later h = refl
said-moment now a (fails code) d later h = refl

heard-moment : (choice : Option ℕ) (now a : ℕ) (is : List Indication) (d : StepState)
    → (after_indications choice now a is d).done.state.moment ≡ d.state.moment
heard-moment None now a [] d = refl
heard-moment None now a (i ∷ is) d =
    said-moment now a i d (after_indications None now a is) (λ e. heard-moment None now a is e)
heard-moment (Some zero) now a is d = refl
heard-moment (Some (suc n)) now a [] d = refl
heard-moment (Some (suc n)) now a (i ∷ is) d =
    said-moment now a i d (after_indications (Some n) now a is)
    (λ e. heard-moment (Some n) now a is e)

set-moment : (o : Option ℕ) (t : Option ConnectionState) (s : State)
    → (with_connection o t s).moment ≡ s.moment
set-moment None t s = refl
set-moment (Some i) t s = refl

after-moment : (a : ℕ) (left : ConnectionState) (s : State) (why : Option Why)
    → (recv_after a left s why).moment ≡ s.moment
after-moment a left s None = set-moment (slot_of a) (Some left) s
after-moment a left s (Some why) = set-moment (slot_of a) None (without_owner a s)

-- ---- events

module _ (m now : ℕ) (s : State) (before : m ≤ s.moment) (by : m ≤ now) where
  open-behind : (a : ℕ) (place : Option ℕ) (talk : Option ConnectionState)
      → m ≤ (open_outcome now a s place talk).after.moment
  open-behind a None talk = before
  open-behind a (Some place) (Some talk) = before
  open-behind a (Some place) None = let e =
      set-moment (slot_of a) (Some (initial_connection a)) (device_at now s) in
      omega (arith, e, by)

  close-behind : (a : ℕ) (talk : Option ConnectionState)
      → m ≤ (close_outcome now a s talk).after.moment
  close-behind a None = before
  close-behind a (Some talk) = let e =
      set-moment (slot_of a) None (without_owner a (device_at now s)) in omega (arith, e, by)

  recv-behind : (choice : Option ℕ) (a : ℕ) (octets : List ℕ) (talk : Option ConnectionState)
      → m ≤ (recv_outcome choice now a octets s talk).after.moment
  recv-behind choice a octets None = before
  recv-behind choice a [] (Some talk) = by
  recv-behind choice a (octet ∷ octets) (Some talk) =
      let d = step_start (device_at now s) in
      let x = after_indications choice now a (indications talk (octet ∷ octets)) d in
      let heard = heard-moment choice now a (indications talk (octet ∷ octets)) d in
      let after =
      after-moment a (connection_after talk (octet ∷ octets)) x.done.state x.why in
      omega (arith, heard, after, by)

  contact-behind : (k : ℕ) (position : Dbpos) (switch : Option Switch)
      → m ≤ (contact_outcome now k position s switch).after.moment
  contact-behind k position None = before
  contact-behind k position (Some switch) = by

  input-behind : (k : ℕ) (value : Bool) (old : Option Bool)
      → m ≤ (input_outcome now k value s old).after.moment
  input-behind k value None = before
  input-behind k value (Some old) = by

  measure-behind : (k : ℕ) (field : MeterField) (value : ℤ) (id : Option (List ℕ))
      → m ≤ (measure_outcome now k field value s id).after.moment
  measure-behind k field value None = before
  measure-behind k field value (Some id) = by

  doubt-behind : (k : ℕ) (field : MeterField) (id : Option (List ℕ))
      → m ≤ (bad_measure_outcome now k field s id).after.moment
  doubt-behind k field None = before
  doubt-behind k field (Some id) = by

  lost-behind : m ≤ (lost_outcome now s).after.moment
  lost-behind = let e = ap (λ (f : Fixed). f.moment) (lost-fixed now (device_at now s)) in
      omega (arith, e, by)

  event-behind : (choice : Option ℕ) (event : Event)
      → m ≤ (event_outcome choice now event s).after.moment
  event-behind choice (Open a) = open-behind a (slot_of a) (connection_at (slot_of a) s)
  event-behind choice (Recv a octets) =
      recv-behind choice a octets.now (connection_at (slot_of a) s)
  event-behind choice (Close a) = close-behind a (connection_at (slot_of a) s)
  event-behind choice (Contact k position) =
      contact-behind k position (slice_get s.switches k)
  event-behind choice (Input k value) = input-behind k value (slice_get s.input_values k)
  event-behind choice (Measure k field value) =
      measure-behind k field value (slice_get s.meters k)
  event-behind choice (BadMeasure k field) = doubt-behind k field (slice_get s.meters k)
  event-behind choice Lost = lost-behind
  event-behind choice Scan = by

-- ---- a step

abbrev choose : Bool → Bool → State → Outcome → Outcome
choose late early s o =
    cond late (refusal_outcome MomentTooLarge s) (cond early (refusal_outcome TimeWentBack s) o)

behind-if : (late early : Bool) (m now : ℕ) (s : State) (o : Outcome)
    → nat_lt now s.moment ≡ early → m ≤ s.moment → (s.moment ≤ now → m ≤ o.after.moment)
    → m ≤ (choose late early s o).after.moment
behind-if true early m now s o is before later = before
behind-if false true m now s o is before later = before
behind-if false false m now s o is before later = later (grind (arith, is))

-- the device's moment is not before an earlier one
pub moment-on : (m now : ℕ) (event : Event) (s : State) (answer : Result Step StepFault)
    (new : State) → Steps now event s answer new → m ≤ s.moment → m ≤ new.moment
moment-on m now event s answer new steps before =
    subst (λ (t : State). m ≤ t.moment) (sym steps.left)
    (behind-if (nat_lt last_moment now) (nat_lt now s.moment) m now s
    (event_outcome steps.choice now event s) refl before
    (λ le. event-behind m now s before (omega (arith, before, le)) steps.choice event))

accepted-if : (late early : Bool) (now : ℕ) (s : State) (o : Outcome) (step : Step)
    → nat_lt now s.moment ≡ early → (choose late early s o).answer ≡ Ok step → s.moment ≤ now
accepted-if true early now s o step is e = absurd cc
accepted-if false true now s o step is e = absurd cc
accepted-if false false now s o step is e = grind (arith, is)

-- a step that is accepted is not before the device's moment
pub accepted-on : (now : ℕ) (event : Event) (s : State) (step : Step) (new : State)
    → Steps now event s (Ok step) new → s.moment ≤ now
accepted-on now event s step new steps =
    accepted-if (nat_lt last_moment now) (nat_lt now s.moment) now s
    (event_outcome steps.choice now event s) step refl (sym steps.answered)
