-- Which associations are open after an event, and its moment.
use Rattle.std.proofs.Common.{Bool, Err, List, None, Ok, Option, Result, Some, [], ap, arith, false, if◌then◌else◌, is_some, length, nat_lt, position, refl, set, slice_get, subst, suc, sym, true, unwrap_or, zero, ℕ, ℤ, ◌&&◌, ◌+◌, ◌-◌, ◌<◌, ◌∙◌, ◌∷◌, ◌≡◌, ◌≢◌, ◌≤◌}
use Rattle.std.proofs.lemmas.Bool.{and_left, le-ltb, lt-ltb}
use Rattle.bay_base.specs.declared.point.MeterField.{MeterField}
use Rattle.bay_base.specs.declared.position.Dbpos.{Dbpos}
use Rattle.bay_nodes.specs.declared.switch.Switch.{Switch}
use Rattle.bay_connection.specs.ConnectionStates.{Indication, ConnectionState, answers, ends, fails, indications, connection_after, releases, delivers}
use Rattle.bay_device.proofs.LostLemmas.{Fixed, lost-fixed}
use Rattle.bay_device.specs.Device.{State, device_at, expiry_report}
use Rattle.bay_device.specs.Receiving.{ReceiveResult, StepState, after_indications, after_pdu, on_indication, with_sent}
use Rattle.bay_device.specs.Outcomes.{Outcome, close_outcome, closed_by, connection_at, contact_outcome, bad_measure_outcome, event_outcome, initial_connection, input_outcome, last_moment, lost_outcome, measure_outcome, step_start, open_outcome, outcome, slot_of, recv_after, recv_done, recv_outcome, refusal_outcome, with_connection, without_connection, without_owner}
use Rattle.bay_device.specs.declared.event.Event.{Event}
use Rattle.bay_device.specs.declared.event.Event.TheVariants.{BadMeasure, Close, Contact, Input, Lost, Measure, Open, Recv, Scan}
use Rattle.bay_device.specs.declared.event.Sent.{Sent}
use Rattle.bay_device.specs.declared.event.Step.{Step}
use Rattle.bay_device.specs.declared.event.Why.{Why}
use Rattle.bay_device.specs.declared.fault.StepFault.{StepFault}
use Rattle.bay_device.specs.declared.fault.StepFault.TheVariants.{MomentTooLarge, TimeWentBack}
use Rattle.bay_trace.specs.Resolving.{borrow_of}
use Rattle.bay_server_turn.specs.Turns.{event_of}
use Rattle.bay_server_turn.specs.declared.process_input.ProcessEvent.{ProcessEvent}
use Rattle.bay_server_turn.specs.declared.process_input.ProcessEvent.TheVariants as process
use Rattle.bay_server_turn_laws.proofs.QuietLemmas.{at_any_moment}

-- ---- lists of connections

abbrev pub up_in : ℕ → List (Option ConnectionState) → Bool
up_in slot makes = is_some (unwrap_or (slice_get makes slot) None)

abbrev pub up_at : ℕ → State → Bool
up_at slot s = up_in slot s.connections

none-down : (ts : List (Option ConnectionState)) (i : ℕ) → up_in i (set ts i None) ≡ false
none-down [] i = refl
none-down (t ∷ ts) zero = refl
none-down (t ∷ ts) (suc i) = none-down ts i

other-up : (ts : List (Option ConnectionState)) (i p : ℕ) (t : Option ConnectionState) → i ≢ p
    → up_in p (set ts i t) ≡ up_in p ts
other-up [] i p t n = refl
other-up (x ∷ ts) zero zero t n = absurd (n refl)
other-up (x ∷ ts) zero (suc p) t n = refl
other-up (x ∷ ts) (suc i) zero t n = refl
other-up (x ∷ ts) (suc i) (suc p) t n = other-up ts i p t (λ e. n (ap suc e))

some-down : (ts : List (Option ConnectionState)) (i p : ℕ) (t : ConnectionState)
    → up_in p (set ts i (Some t)) ≡ false
    → up_in p ts ≡ false
some-down [] i p t e = refl
some-down (x ∷ ts) zero zero t e = absurd (cc)
some-down (x ∷ ts) zero (suc p) t e = e
some-down (x ∷ ts) (suc i) zero t e = e
some-down (x ∷ ts) (suc i) (suc p) t e = some-down ts i p t e

some-up : (ts : List (Option ConnectionState)) (i : ℕ) (t : ConnectionState) → up_in i ts ≡ true
    → up_in i (set ts i (Some t)) ≡ true
some-up [] i t e = absurd (cc)
some-up (x ∷ ts) zero t e = refl
some-up (x ∷ ts) (suc i) t e = some-up ts i t e

-- ---- numbers of associations

pub place-of : (slot : ℕ) → slot < 8 → slot_of (slot + 1) ≡ Some slot
place-of slot h =
    let low : nat_lt 0 (slot + 1) ≡ true = lt-ltb 0 (slot + 1) (omega arith) in
    let high : nat_lt (slot + 1) 9 ≡ true = lt-ltb (slot + 1) 9 (omega arith) in
    let same : slot + 1 - 1 ≡ slot = omega arith in
    ap (λ b. if b && nat_lt (slot + 1) 9 then Some (slot + 1 - 1) else None) low
    ∙ ap (λ b. if b then Some (slot + 1 - 1) else None) high ∙ ap (λ n. Some n) same

number-if : (b : Bool) (a i : ℕ) → (nat_lt 0 a ≡ false → b ≡ false)
    → (if b then Some (a - 1) else None) ≡ Some i → a ≡ i + 1
number-if true zero i f e = let absent : true ≡ false = f refl in absurd (cc)
number-if true (suc a) i f e = let same : suc a - 1 ≡ i =
    ap (λ (o : Option ℕ). unwrap_or o (suc a - 1)) e in omega (arith, same)
number-if false a i f e = absurd (cc)

pub number-of : (a slot : ℕ) → slot_of a ≡ Some slot → a ≡ slot + 1
number-of a slot e =
    number-if (nat_lt 0 a && nat_lt a 9) a slot (and_left (nat_lt 0 a) (nat_lt a 9)) e

-- ---- what keeps the connections

pub record Keeps (now : ℕ) (s t : State) : Type 0 where
  pub connections : t.connections ≡ s.connections
  pub moment : s.moment ≤ now → t.moment ≤ now

Keeps-refl : (now : ℕ) (s : State) → Keeps now s s
Keeps-refl now s = record { connections = refl; moment = λ h. h }

Keeps-trans : (now : ℕ) (s t u : State) → Keeps now s t → Keeps now t u → Keeps now s u
Keeps-trans now s t u a b =
    record { connections = b.connections ∙ a.connections; moment = λ h. b.moment (a.moment h) }

said-keeps : (now a : ℕ) (i : Indication) (d : StepState) (later : StepState → ReceiveResult)
    → ((e : StepState) → Keeps now e.state (later e).done.state)
    → Keeps now d.state (on_indication now a i d later).done.state
said-keeps now a (answers octets) d later h = h (with_sent a octets d)
said-keeps now a (delivers terms pdu) d later h =
    let e = after_pdu now a terms pdu d in
    Keeps-trans now d.state e.state (later e).done.state
    (record { connections = refl; moment = λ h. h }) (h e)
said-keeps now a (releases octets) d later h = Keeps-refl now d.state
said-keeps now a ends d later h = Keeps-refl now d.state
said-keeps now a (fails code) d later h = Keeps-refl now d.state

heard-keeps : (choice : Option ℕ) (now a : ℕ) (is : List Indication) (d : StepState)
    → Keeps now d.state (after_indications choice now a is d).done.state
heard-keeps None now a [] d = Keeps-refl now d.state
heard-keeps None now a (i ∷ is) d =
    said-keeps now a i d (after_indications None now a is) (λ e. heard-keeps None now a is e)
heard-keeps (Some zero) now a is d = Keeps-refl now d.state
heard-keeps (Some (suc n)) now a [] d = Keeps-refl now d.state
heard-keeps (Some (suc n)) now a (i ∷ is) d =
    said-keeps now a i d (after_indications (Some n) now a is)
    (λ e. heard-keeps (Some n) now a is e)

-- ---- a connection that is set

set-far : (o : Option ℕ) (p : ℕ) (t : Option ConnectionState) (s : State) → (o ≡ Some p → ⊥)
    → up_at p (with_connection o t s) ≡ up_at p s
set-far None p t s n = refl
set-far (Some i) p t s n = other-up s.connections i p t (λ e. n (ap (λ k. Some k) e))

set-moment : (o : Option ℕ) (t : Option ConnectionState) (s : State)
    → (with_connection o t s).moment ≡ s.moment
set-moment None t s = refl
set-moment (Some i) t s = refl

-- it may be opened, and is not closed
abbrev pub NotClosed : ℕ → State → State → Type 0
NotClosed p s t = up_at p t ≡ false → up_at p s ≡ false

set-open : (o : Option ℕ) (p : ℕ) (t : ConnectionState) (s : State)
    → up_at p (with_connection o (Some t) s) ≡ false → up_at p s ≡ false
set-open None p t s e = e
set-open (Some i) p t s e = some-down s.connections i p t e

-- ---- moments

open-moment : (now a : ℕ) (s : State) (slot : Option ℕ) (talk : Option ConnectionState)
    → s.moment ≤ now
    → (open_outcome now a s slot talk).after.moment ≤ now
open-moment now a s None talk h = h
open-moment now a s (Some slot) (Some talk) h = h
open-moment now a s (Some slot) None h = let e =
    set-moment (slot_of a) (Some (initial_connection a)) (device_at now s) in omega (arith, e)

close-moment : (now a : ℕ) (s : State) (talk : Option ConnectionState) → s.moment ≤ now
    → (close_outcome now a s talk).after.moment ≤ now
close-moment now a s None h = h
close-moment now a s (Some talk) h = let e =
    set-moment (slot_of a) None (without_owner a (device_at now s)) in omega (arith, e)

contact-keeps : (now k : ℕ) (position : Dbpos) (s : State) (switch : Option Switch)
    → Keeps now s (contact_outcome now k position s switch).after
contact-keeps now k position s None = Keeps-refl now s
contact-keeps now k position s (Some switch) =
    record { connections = refl; moment = λ h. omega arith }

input-keeps : (now k : ℕ) (value : Bool) (s : State) (before : Option Bool)
    → Keeps now s (input_outcome now k value s before).after
input-keeps now k value s None = Keeps-refl now s
input-keeps now k value s (Some before) = record { connections = refl; moment = λ h. omega arith }

measure-keeps : (now k : ℕ) (field : MeterField) (value : ℤ) (s : State) (id : Option (List ℕ))
    → Keeps now s (measure_outcome now k field value s id).after
measure-keeps now k field value s None = Keeps-refl now s
measure-keeps now k field value s (Some id) =
    record { connections = refl; moment = λ h. omega arith }

bad-measure-keeps : (now k : ℕ) (field : MeterField) (s : State) (id : Option (List ℕ))
    → Keeps now s (bad_measure_outcome now k field s id).after
bad-measure-keeps now k field s None = Keeps-refl now s
bad-measure-keeps now k field s (Some id) = record { connections = refl; moment = λ h. omega arith }

lost-keeps : (now : ℕ) (s : State) → Keeps now s (lost_outcome now s).after
lost-keeps now s = let same = lost-fixed now (device_at now s) in record {
  connections = ap (λ (f : Fixed). f.connections) same;
  moment = λ h. let e = ap (λ (f : Fixed). f.moment) same in omega (arith, e);
}

-- what happens to the process keeps the connections
process-keeps : (choice : Option ℕ) (now : ℕ) (event : ProcessEvent) (s : State)
    → Keeps now s (event_outcome choice now (event_of event) s).after
process-keeps choice now (process.Contact k position) s =
    contact-keeps now k position s (slice_get s.switches k)
process-keeps choice now (process.Input k value) s =
    input-keeps now k value s (slice_get s.input_values k)
process-keeps choice now (process.Measure k field value) s =
    measure-keeps now k field value s (slice_get s.meters k)
process-keeps choice now (process.BadMeasure k field) s =
    bad-measure-keeps now k field s (slice_get s.meters k)
process-keeps choice now process.Lost s = lost-keeps now s

after-moment : (now a : ℕ) (left : ConnectionState) (s : State) (why : Option Why) → s.moment ≤ now
    → (recv_after a left s why).moment ≤ now
after-moment now a left s None h = let e = set-moment (slot_of a) (Some left) s in omega (arith, e)
after-moment now a left s (Some why) h = let e =
    set-moment (slot_of a) None (without_owner a s) in omega (arith, e)

recv-moment : (choice : Option ℕ) (now a : ℕ) (octets : List ℕ) (s : State)
    (talk : Option ConnectionState)
    → s.moment ≤ now → (recv_outcome choice now a octets s talk).after.moment ≤ now
recv-moment choice now a octets s None h = h
recv-moment choice now a [] s (Some talk) h = omega arith
recv-moment choice now a (octet ∷ octets) s (Some talk) h =
    let d = step_start (device_at now s) in
    let x = after_indications choice now a (indications talk (octet ∷ octets)) d in
    let keeps = heard-keeps choice now a (indications talk (octet ∷ octets)) d in
    after-moment now a (connection_after talk (octet ∷ octets)) x.done.state x.why
    (keeps.moment (omega arith))

event-moment : (choice : Option ℕ) (now : ℕ) (event : Event) (s : State) → s.moment ≤ now
    → (event_outcome choice now event s).after.moment ≤ now
event-moment choice now (Open a) s h =
    open-moment now a s (slot_of a) (connection_at (slot_of a) s) h
event-moment choice now (Recv a octets) s h =
    recv-moment choice now a octets.now s (connection_at (slot_of a) s) h
event-moment choice now (Close a) s h = close-moment now a s (connection_at (slot_of a) s) h
event-moment choice now (Contact k position) s h =
    (contact-keeps now k position s (slice_get s.switches k)).moment h
event-moment choice now (Input k value) s h =
    (input-keeps now k value s (slice_get s.input_values k)).moment h
event-moment choice now (Measure k field value) s h =
    (measure-keeps now k field value s (slice_get s.meters k)).moment h
event-moment choice now (BadMeasure k field) s h =
    (bad-measure-keeps now k field s (slice_get s.meters k)).moment h
event-moment choice now Lost s h = (lost-keeps now s).moment h
event-moment choice now Scan s h = omega arith

-- the last moment is not after an event's
pub outcome-moment : (choice : Option ℕ) (now : ℕ) (event : Event) (s : State) → s.moment ≤ now
    → (outcome choice now event s).after.moment ≤ now
outcome-moment choice now event s h =
    at_any_moment (λ o. o.after.moment ≤ now) choice now event s (λ f. h)
    (event-moment choice now event s h)

-- ---- the process

pub process-outcome-up : (choice : Option ℕ) (now p : ℕ) (event : ProcessEvent) (s : State)
    → up_at p (outcome choice now (event_of event) s).after ≡ up_at p s
process-outcome-up choice now p event s =
    at_any_moment (λ o. up_at p o.after ≡ up_at p s) choice now (event_of event) s (λ f. refl)
    (ap (up_in p) (process-keeps choice now event s).connections)

pub scan-outcome-up : (choice : Option ℕ) (now p : ℕ) (s : State)
    → up_at p (outcome choice now Scan s).after ≡ up_at p s
scan-outcome-up choice now p s =
    at_any_moment (λ o. up_at p o.after ≡ up_at p s) choice now Scan s (λ f. refl) refl

-- ---- an association is opened

open-up : (now a p : ℕ) (s : State) (slot : Option ℕ) (talk : Option ConnectionState)
    → NotClosed p s (open_outcome now a s slot talk).after
open-up now a p s None talk e = e
open-up now a p s (Some slot) (Some talk) e = e
open-up now a p s (Some slot) None e =
    set-open (slot_of a) p (initial_connection a) (device_at now s) e

pub open-outcome-up : (choice : Option ℕ) (now a p : ℕ) (s : State)
    → NotClosed p s (outcome choice now (Open a) s).after
open-outcome-up choice now a p s =
    at_any_moment (λ o. NotClosed p s o.after) choice now (Open a) s (λ f. λ e. e)
    (open-up now a p s (slot_of a) (connection_at (slot_of a) s))

in_time : (choice : Option ℕ) (now : ℕ) (event : Event) (s : State) → now ≤ last_moment
    → s.moment ≤ now
    → outcome choice now event s ≡ event_outcome choice now event s
in_time choice now event s h g =
    ap (λ b. if b then refusal_outcome MomentTooLarge s else if nat_lt now s.moment
    then refusal_outcome TimeWentBack s else event_outcome choice now event s)
    (le-ltb last_moment now h)
    ∙ ap (λ b. if b then refusal_outcome TimeWentBack s else event_outcome choice now event s)
    (le-ltb now s.moment g)

up-set : (ts : List (Option ConnectionState)) (i : ℕ) (t : ConnectionState) → i < length ts
    → up_in i (set ts i (Some t)) ≡ true
up-set [] i t h = absurd (omega arith)
up-set (x ∷ ts) zero t h = refl
up-set (x ∷ ts) (suc i) t h = up-set ts i t (omega arith)

-- one that is free is opened, at a moment that is not refused
pub open-outcome-here : (choice : Option ℕ) (now p : ℕ) (s : State) → p < 8 → now ≤ last_moment
    → s.moment ≤ now → p < length s.connections → connection_at (Some p) s ≡ None
    → up_at p (outcome choice now (Open (p + 1)) s).after ≡ true
open-outcome-here choice now p s h past before long free =
    ap (λ (o : Outcome). up_at p o.after) (in_time choice now (Open (p + 1)) s past before)
    ∙ ap (λ (o : Option ℕ).
    up_at p (open_outcome now (p + 1) s o (connection_at o s)).after) (place-of p h)
    ∙ ap (λ (t : Option ConnectionState). up_at p (open_outcome now (p + 1) s (Some p) t).after)
    free
    ∙ ap (λ (o : Option ℕ).
    up_at p (with_connection o (Some (initial_connection (p + 1))) (device_at now s)))
    (place-of p h)
    ∙ up-set s.connections p (initial_connection (p + 1)) long

-- ---- an association is closed

other-place : (i p : ℕ) → i ≢ p → slot_of (i + 1) ≡ Some p → ⊥
other-place i p n e = let same : i + 1 ≡ p + 1 = number-of (i + 1) p e in n (omega arith)

close-far : (now i p : ℕ) (s : State) (talk : Option ConnectionState) → i ≢ p
    → up_at p (close_outcome now (i + 1) s talk).after ≡ up_at p s
close-far now i p s None n = refl
close-far now i p s (Some talk) n =
    set-far (slot_of (i + 1)) p None (without_owner (i + 1) (device_at now s)) (other-place i p n)

pub close-outcome-far : (choice : Option ℕ) (now i p : ℕ) (s : State) → i ≢ p
    → up_at p (outcome choice now (Close (i + 1)) s).after ≡ up_at p s
close-outcome-far choice now i p s n =
    at_any_moment (λ o. up_at p o.after ≡ up_at p s) choice now (Close (i + 1)) s (λ f. refl)
    (close-far now i p s (connection_at (slot_of (i + 1)) s) n)

closed-here : (p : ℕ) (s : State) → p < 8 → up_at p (without_connection (p + 1) s) ≡ false
closed-here p s h =
    let t : State = without_owner (p + 1) s in
    ap (λ (o : Option ℕ). up_at p (with_connection o None t)) (place-of p h)
    ∙ none-down t.connections p

close-here : (now p : ℕ) (s : State) (talk : Option ConnectionState) → p < 8
    → connection_at (slot_of (p + 1)) s ≡ talk
    → up_at p (close_outcome now (p + 1) s talk).after ≡ false
close-here now p s None h e =
    ap (λ o. is_some (connection_at o s)) (sym (place-of p h))
    ∙ ap (λ (t : Option ConnectionState). is_some t) e
close-here now p s (Some talk) h e = closed-here p (device_at now s) h

pub close-outcome-here : (choice : Option ℕ) (now p : ℕ) (s : State) → p < 8 → now ≤ last_moment
    → s.moment ≤ now
    → up_at p (outcome choice now (Close (p + 1)) s).after ≡ false
close-outcome-here choice now p s h past before =
    ap (λ (o : Outcome). up_at p o.after) (in_time choice now (Close (p + 1)) s past before)
    ∙ close-here now p s (connection_at (slot_of (p + 1)) s) h refl

-- ---- octets of an association

after-far : (now i p : ℕ) (left : ConnectionState) (s : State) (why : Option Why) → i ≢ p
    → up_at p (recv_after (i + 1) left s why) ≡ up_at p s
after-far now i p left s None n = set-far (slot_of (i + 1)) p (Some left) s (other-place i p n)
after-far now i p left s (Some why) n =
    set-far (slot_of (i + 1)) p None (without_owner (i + 1) s) (other-place i p n)

recv-far : (choice : Option ℕ) (now i p : ℕ) (octets : List ℕ) (s : State)
    (talk : Option ConnectionState)
    → i ≢ p
    → up_at p (recv_outcome choice now (i + 1) octets s talk).after ≡ up_at p s
recv-far choice now i p octets s None n = refl
recv-far choice now i p [] s (Some talk) n = refl
recv-far choice now i p (octet ∷ octets) s (Some talk) n =
    let d = step_start (device_at now s) in
    let x = after_indications choice now (i + 1) (indications talk (octet ∷ octets)) d in
    let keeps = heard-keeps choice now (i + 1) (indications talk (octet ∷ octets)) d in
    after-far now i p (connection_after talk (octet ∷ octets)) x.done.state x.why n
    ∙ ap (up_in p) keeps.connections

pub recv-outcome-far : (choice : Option ℕ) (now i p : ℕ) (octets : List ℕ) (s : State) → i ≢ p
    → up_at p (outcome choice now (Recv (i + 1) (borrow_of octets)) s).after ≡ up_at p s
recv-outcome-far choice now i p octets s n =
    at_any_moment (λ o. up_at p o.after ≡ up_at p s) choice now (Recv (i + 1) (borrow_of octets)) s
    (λ f. refl)
    (recv-far choice now i p octets s (connection_at (slot_of (i + 1)) s) n)

-- it is open still, or the answer says that the device has closed it
abbrev pub LeftOpen : ℕ → Option (ℕ × Why) → State → Type 0
LeftOpen p None s = up_at p s ≡ true
LeftOpen p (Some without_connection) s = up_at p s ≡ false

-- the association at a place is open still, unless the step closed it
abbrev pub HeardOpen : ℕ → Result Step StepFault → State → Type 0
HeardOpen p (Err fault) s = up_at p s ≡ true
HeardOpen p (Ok step) s = LeftOpen p step.closed s

after-here : (now p : ℕ) (left : ConnectionState) (ended : Option Sent) (h : ReceiveResult)
    (why : Option Why)
    → p < 8
    → up_at p h.done.state ≡ true → h.why ≡ why
    → HeardOpen p (recv_done (p + 1) left ended h).answer (recv_done (p + 1) left ended h).after
after-here now p left ended h None low up e =
    let s : State = h.done.state in
    let open_now : up_at p (with_connection (slot_of (p + 1)) (Some left) s) ≡ true =
    ap (λ (o : Option ℕ). up_at p (with_connection o (Some left) s)) (place-of p low)
    ∙ some-up s.connections p left up in
    subst (λ w. LeftOpen p (closed_by (p + 1) w) (recv_after (p + 1) left s w)) (sym e) open_now
after-here now p left ended h (Some why) low up e =
    subst (λ w. LeftOpen p (closed_by (p + 1) w) (recv_after (p + 1) left h.done.state w)) (sym e)
    (closed-here p h.done.state low)

recv-here : (choice : Option ℕ) (now p : ℕ) (octets : List ℕ) (s : State)
    (talk : Option ConnectionState)
    → p < 8 → up_at p s ≡ true
    → HeardOpen p (recv_outcome choice now (p + 1) octets s talk).answer
    (recv_outcome choice now (p + 1) octets s talk).after
recv-here choice now p octets s None h up = up
recv-here choice now p [] s (Some talk) h up = up
recv-here choice now p (octet ∷ octets) s (Some talk) h up =
    let d = step_start (device_at now s) in
    let x = after_indications choice now (p + 1) (indications talk (octet ∷ octets)) d in
    let keeps = heard-keeps choice now (p + 1) (indications talk (octet ∷ octets)) d in
    after-here now p (connection_after talk (octet ∷ octets)) (expiry_report now s) x x.why h
    (ap (up_in p) keeps.connections ∙ up) refl

pub recv-outcome-here : (choice : Option ℕ) (now p : ℕ) (octets : List ℕ) (s : State) → p < 8
    → up_at p s ≡ true
    → HeardOpen p (outcome choice now (Recv (p + 1) (borrow_of octets)) s).answer
    (outcome choice now (Recv (p + 1) (borrow_of octets)) s).after
recv-outcome-here choice now p octets s h up =
    at_any_moment (λ o. HeardOpen p o.answer o.after) choice now (Recv (p + 1) (borrow_of octets)) s
    (λ f. up)
    (recv-here choice now p octets s (connection_at (slot_of (p + 1)) s) h up)
