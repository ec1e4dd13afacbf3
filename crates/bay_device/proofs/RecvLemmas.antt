-- A Recv, from what its octets come to.
use Rattle.std.proofs.Common.{◌≡◌, ◌<◌, ℕ, List, [], ◌∷◌, length, Option, None, Some, is_some, Result, Ok, Err, refl, ap, sym, ◌∙◌, true, false, cond, nat_lt, slice_set, arith}
use Rattle.std.proofs.lemmas.List.{set-set}
use Rattle.std.specs.Result.{OnOk, IfErr, result_err}
use Rattle.bay_connection.specs.ConnectionStates.{ConnectionState, connection_after}
use Rattle.bay_device.specs.Device.{State, device_at, expiry_report}
use Rattle.bay_device.specs.Receiving.{StepState}
use Rattle.bay_device.specs.ReceivingViews.{ResultsIn}
use Rattle.bay_device.specs.Outcomes.{Outcome, closed_by, connection_at, event_outcome, last_moment, step_start, outcome, slot_of, quiet_step, refusal_outcome, recv_after, recv_done, recv_outcome, with_connection, without_owner}
use Rattle.bay_device.specs.Steps.{IsOutcome, HandlesOctetsFrom, IsWithoutOctets, Receives, Steps}
use Rattle.bay_device.specs.declared.event.Event.{Event}
use Rattle.bay_device.specs.declared.event.Event.TheVariants.{Open, Recv, Close, Contact, Input, Measure, BadMeasure, Lost, Scan}
use Rattle.bay_device.specs.declared.fault.StepFault.TheVariants.{MomentTooLarge, TimeWentBack}
use Rattle.bay_device.specs.declared.event.Sent.{Sent}
use Rattle.bay_device.specs.declared.event.Step.{Step}
use Rattle.bay_device.specs.declared.event.Why.{Why}
use Rattle.bay_device.specs.declared.fault.StepFault.{StepFault}

pub ended : {T : Type 0} (r : Result T Why) (P : Option Why → Type 0) → OnOk r (P None)
    → IfErr r (λ why. P (Some why)) → P (result_err r)
ended (Ok x) P ok err = ok
ended (Err why) P ok err = err

-- what is left is asked only where the association goes on
pub left-if : {T : Type 0} (r : Result T Why) (a : ℕ) (s : State) (left wanted : ConnectionState)
    → OnOk r (left ≡ wanted)
    → recv_after a left s (result_err r) ≡ recv_after a wanted s (result_err r)
left-if (Ok x) a s left wanted is = ap (λ (t : ConnectionState). recv_after a t s None) is
left-if (Err why) a s left wanted is = refl

-- the connection may have been taken out before
one : (place : ℕ) (x : Option ConnectionState) (s : State)
    → with_connection (Some place) x (record s { connections = slice_set s.connections place None })
    ≡ with_connection (Some place) x s
one place x s =
    ap (λ (cs : List (Option ConnectionState)). record s { connections = cs })
    (set-set s.connections place None x)

placed : (a place : ℕ) (x : Option ConnectionState) (s : State) → slot_of a ≡ Some place
    → with_connection (slot_of a) x (record s { connections = slice_set s.connections place None })
    ≡ with_connection (slot_of a) x s
placed a place x s here =
    ap (λ (o : Option ℕ). with_connection o x
    (record s { connections = slice_set s.connections place None })) here ∙ one place x s
    ∙ sym (ap (λ (o : Option ℕ). with_connection o x s) here)

pub after-taken : (a place : ℕ) (s : State) (left : ConnectionState) (why : Option Why)
    → slot_of a ≡ Some place
    → recv_after a left (record s { connections = slice_set s.connections place None }) why
    ≡ recv_after a left s why
after-taken a place s left None here = placed a place (Some left) s here
after-taken a place s left (Some why) here = placed a place None (without_owner a s) here

-- the device and its answer, from what the octets come to
pub heard-from : (now a : ℕ) (octets : List ℕ) (told : Option Sent) (s new : State)
    (talk : ConnectionState)
    (why : Option Why) (e : StepState) → ResultsIn now a talk octets (step_start s) why e
    → new ≡ recv_after a (connection_after talk octets) e.state why
    → HandlesOctetsFrom now a octets told s talk
    (record {
      ended = told;
      sent = e.sent;
      commands = e.commands;
      decisions = e.decisions;
      closed = closed_by a why;
      scan = None;
    }) new
heard-from now a octets told s new talk why e comes is =
    let whole = ap (recv_done a (connection_after talk octets) told) comes.is in
    record {
      choice = comes.choice;
      answered = sym (ap (λ (o : Outcome). o.answer) whole);
      left = is ∙ sym (ap (λ (o : Outcome). o.after) whole);
    }

-- ---- a Recv

-- octets that an open association hears are an event that is received
pub received : (now a : ℕ) (octets : List ℕ) (old new : State) (talk : ConnectionState)
    (step : Step)
    → connection_at (slot_of a) old ≡ Some talk → 0 < length octets
    → HandlesOctetsFrom now a octets (expiry_report now old) (device_at now old) talk step new
    → Receives now a octets old (Ok step) new
received now a [] old new talk step here some hears = absurd (omega arith)
received now a (octet ∷ octets) old new talk step here some hears =
    let whole = ap (recv_outcome hears.choice now a (octet ∷ octets) old) here in
    record {
      choice = hears.choice;
      answered = hears.answered ∙ sym (ap (λ (o : Outcome). o.answer) whole);
      left = hears.left ∙ sym (ap (λ (o : Outcome). o.after) whole);
    }

-- without octets, which need no choice
pub received-none : (now a : ℕ) (old : State) (talk : ConnectionState)
    → connection_at (slot_of a) old ≡ Some talk
    → Receives now a [] old (Ok (quiet_step (expiry_report now old))) (device_at now old)
received-none now a old talk here =
    let whole = ap (recv_outcome None now a [] old) here in
    record {
      choice = None;
      answered = sym (ap (λ (o : Outcome). o.answer) whole);
      left = sym (ap (λ (o : Outcome). o.after) whole);
    }

-- an association that is open has a connection
pub opened : (o : Option ConnectionState) → is_some o ≡ true
    → (talk : ConnectionState) × (o ≡ Some talk)
opened (Some talk) is = (talk, refl)
opened None is = absurd (cc)

pub not-opened : (o : Option ConnectionState) → is_some o ≡ false → o ≡ None
not-opened None is = refl
not-opened (Some talk) is = absurd (cc)

-- what octets come to, whichever it is
pub ended-at : {T : Type 0} (r : Result T Why)
    (P : List (Option ConnectionState) → Option Why → Type 0)
    → OnOk r ((cs : List (Option ConnectionState)) → P cs None)
    → IfErr r (λ why. (cs : List (Option ConnectionState)) → P cs (Some why))
    → (cs : List (Option ConnectionState))
    → P cs (result_err r)
ended-at (Ok x) P ok err = ok
ended-at (Err why) P ok err = err

pub same-talk : (t u : ConnectionState) (o : Option ConnectionState) → Some t ≡ o → o ≡ Some u
    → t ≡ u
same-talk t u o a b = let e : Some t ≡ Some u = a ∙ b in cc

-- ---- an event without octets has one outcome

none-heard : (choice : Option ℕ) (now a : ℕ) (s : State) (o : Option ConnectionState)
    → recv_outcome choice now a [] s o ≡ recv_outcome None now a [] s o
none-heard choice now a s None = refl
none-heard choice now a s (Some talk) = refl

one-event : (choice : Option ℕ) (now : ℕ) (event : Event) (s : State) → IsWithoutOctets event
    → event_outcome choice now event s ≡ event_outcome None now event s
one-event choice now (Open a) s h = refl
one-event choice now (Recv a octets) s h =
    ap (λ xs. recv_outcome choice now a xs s (connection_at (slot_of a) s)) h
    ∙ none-heard choice now a s (connection_at (slot_of a) s)
    ∙ sym (ap (λ xs. recv_outcome None now a xs s (connection_at (slot_of a) s)) h)
one-event choice now (Close a) s h = refl
one-event choice now (Contact k position) s h = refl
one-event choice now (Input k value) s h = refl
one-event choice now (Measure k field value) s h = refl
one-event choice now (BadMeasure k field) s h = refl
one-event choice now Lost s h = refl
one-event choice now Scan s h = refl

pub one-outcome : (now : ℕ) (event : Event) (s : State) (answer : Result Step StepFault)
    (new : State) → Steps now event s answer new → IsWithoutOctets event
    → IsOutcome (outcome None now event s) answer new
one-outcome now event s answer new steps h =
    let same : outcome steps.choice now event s ≡ outcome None now event s =
    ap (λ (x : Outcome). cond (nat_lt last_moment now) (refusal_outcome MomentTooLarge s)
    (cond (nat_lt now s.moment) (refusal_outcome TimeWentBack s) x))
    (one-event steps.choice now event s h) in
    record {
      answered = steps.answered ∙ ap (λ (o : Outcome). o.answer) same;
      left = steps.left ∙ ap (λ (o : Outcome). o.after) same;
    }
