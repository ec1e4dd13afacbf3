-- The chains of two clauses of a run are one.
use Rattle.std.proofs.Common.{◌≡◌, ◌≢◌, ℕ, zero, suc, ◌<◌, ◌≤◌, ltb, Bool, true, false, List, [], ◌∷◌, length, map, Option, Some, None, Result, Ok, Err, refl, sym, ap, ◌∙◌, subst, arith, length-append}
use Rattle.bay_connection.specs.ConnectionStates.{Indication, ConnectionState, answers, delivers, releases, ends, fails, indications, connection_after, octets_to_send}
use Rattle.bay_mms_services.specs.Answers.{pdu_answer}
use Rattle.bay_mms_services.proofs.ReleaseLemmas.{answer-sent}
use Rattle.bay_device.specs.Device.{State, bay_of, device_at, expiry_report}
use Rattle.bay_device.specs.Receiving.{StepState, ReceiveResult, after_indications, after_pdu, client_at, on_indication, sent_on, with_sent}
use Rattle.bay_device.specs.Outcomes.{Outcome, closed_by, connection_at, event_outcome, last_moment, outcome, recv_after, recv_done, recv_outcome, slot_of, step_start}
use Rattle.bay_device.specs.Steps.{EachStep, Steps}
use Rattle.bay_device.specs.declared.event.Event.{Event}
use Rattle.bay_device.specs.declared.event.Event.TheVariants.{Open, Recv, Close, Contact, Input, Measure, BadMeasure, Lost, Scan}
use Rattle.bay_device.specs.declared.event.Sent.{Sent}
use Rattle.bay_device.specs.declared.event.Step.{Step}
use Rattle.bay_device.specs.declared.event.Why.{Why}
use Rattle.bay_device.specs.declared.event.Why.TheVariants.{Memory}
use Rattle.bay_device.specs.declared.fault.StepFault.{StepFault}

-- ---- octets

-- No fewer octets are sent later.
on-grows : (now a : ℕ) (i : Indication) (d : StepState) (later : StepState → ReceiveResult)
    → ((e : StepState) → length e.sent ≤ length (later e).done.sent)
    → length d.sent ≤ length (on_indication now a i d later).done.sent
on-grows now a (answers octets) d later rest =
    let more = rest (with_sent a octets d) in
    omega (arith, length-append d.sent (sent_on a octets ∷ []), more)
on-grows now a (delivers terms pdu) d later rest =
    let more = rest (after_pdu now a terms pdu d) in
    omega (
      arith,
      length-append d.sent (map (λ p. sent_on a (octets_to_send terms p))
          (pdu_answer (client_at now a terms d.state) pdu (bay_of d.state)).sent),
      more,
    )
on-grows now a (releases octets) d later rest =
    omega (arith, length-append d.sent (sent_on a octets ∷ []))
on-grows now a ends d later rest = omega arith
on-grows now a (fails code) d later rest = omega arith

grows : (choice : Option ℕ) (now a : ℕ) (is : List Indication) (d : StepState)
    → length d.sent ≤ length (after_indications choice now a is d).done.sent
grows None now a [] d = omega arith
grows None now a (i ∷ is) d =
    on-grows now a i d (after_indications None now a is) (λ e. grows None now a is e)
grows (Some zero) now a is d = omega arith
grows (Some (suc k)) now a [] d = omega arith
grows (Some (suc k)) now a (i ∷ is) d =
    on-grows now a i d (after_indications (Some k) now a is) (λ e. grows (Some k) now a is e)

some-mapped : (f : List ℕ → Sent) (xs : List (List ℕ)) → xs ≢ [] → 0 < length (map f xs)
some-mapped f [] some = absurd (some refl)
some-mapped f (x ∷ xs) some = omega arith

-- Two results with the same octets sent and the same end have the same device.
abbrev IsFixedBy : ReceiveResult → ReceiveResult → Type 0
IsFixedBy g h = g.done.sent ≡ h.done.sent → g.why ≡ h.why → g.done.state ≡ h.done.state

-- An indication that is handled sends something or ends otherwise: so no failure before it has the
-- same answer.
not-before : (now a : ℕ) (i : Indication) (d : StepState) (later : StepState → ReceiveResult)
    → ((e : StepState) → length e.sent ≤ length (later e).done.sent)
    → d.sent ≡ (on_indication now a i d later).done.sent
    → Some Memory ≡ (on_indication now a i d later).why → ⊥
not-before now a (answers octets) d later rest sent why =
    let more = rest (with_sent a octets d) in
    let same = ap length sent in
    omega (arith, length-append d.sent (sent_on a octets ∷ []), more, same)
not-before now a (delivers terms pdu) d later rest sent why =
    let more = rest (after_pdu now a terms pdu d) in
    let same = ap length sent in
    let new = (pdu_answer (client_at now a terms d.state) pdu (bay_of d.state)).sent in
    let f = λ (p : List ℕ). sent_on a (octets_to_send terms p) in
    let some = some-mapped f new
    (answer-sent (client_at now a terms d.state) pdu (bay_of d.state)) in
    omega (arith, length-append d.sent (map f new), more, same, some)
not-before now a (releases octets) d later rest sent why = cc
not-before now a ends d later rest sent why = cc
not-before now a (fails code) d later rest sent why = cc

on-fixed : (now a : ℕ) (i : Indication) (d : StepState) (f g : StepState → ReceiveResult)
    → ((e : StepState) → IsFixedBy (f e) (g e))
    → IsFixedBy (on_indication now a i d f) (on_indication now a i d g)
on-fixed now a (answers octets) d f g rest = rest (with_sent a octets d)
on-fixed now a (delivers terms pdu) d f g rest = rest (after_pdu now a terms pdu d)
on-fixed now a (releases octets) d f g rest = λ sent why. refl
on-fixed now a ends d f g rest = λ sent why. refl
on-fixed now a (fails code) d f g rest = λ sent why. refl

octets-fixed : (b c : Option ℕ) (now a : ℕ) (is : List Indication) (d : StepState)
    → IsFixedBy (after_indications b now a is d) (after_indications c now a is d)
octets-fixed None None now a is d sent why = refl
octets-fixed None (Some zero) now a [] d sent why = absurd cc
octets-fixed None (Some zero) now a (i ∷ is) d sent why =
    absurd (not-before now a i d (after_indications None now a is)
    (λ e. grows None now a is e) (sym sent) (sym why))
octets-fixed None (Some (suc k)) now a [] d sent why = refl
octets-fixed None (Some (suc k)) now a (i ∷ is) d sent why =
    on-fixed now a i d (after_indications None now a is) (after_indications (Some k) now a is)
    (λ e. octets-fixed None (Some k) now a is e) sent why
octets-fixed (Some zero) None now a [] d sent why = absurd cc
octets-fixed (Some zero) None now a (i ∷ is) d sent why =
    absurd (not-before now a i d (after_indications None now a is)
    (λ e. grows None now a is e) sent why)
octets-fixed (Some zero) (Some zero) now a is d sent why = refl
octets-fixed (Some zero) (Some (suc k)) now a [] d sent why = absurd cc
octets-fixed (Some zero) (Some (suc k)) now a (i ∷ is) d sent why =
    absurd (not-before now a i d (after_indications (Some k) now a is)
    (λ e. grows (Some k) now a is e) sent why)
octets-fixed (Some (suc j)) None now a [] d sent why = refl
octets-fixed (Some (suc j)) None now a (i ∷ is) d sent why =
    on-fixed now a i d (after_indications (Some j) now a is) (after_indications None now a is)
    (λ e. octets-fixed (Some j) None now a is e) sent why
octets-fixed (Some (suc j)) (Some zero) now a [] d sent why = absurd cc
octets-fixed (Some (suc j)) (Some zero) now a (i ∷ is) d sent why =
    absurd (not-before now a i d (after_indications (Some j) now a is)
    (λ e. grows (Some j) now a is e) (sym sent) (sym why))
octets-fixed (Some (suc j)) (Some (suc k)) now a [] d sent why = refl
octets-fixed (Some (suc j)) (Some (suc k)) now a (i ∷ is) d sent why =
    on-fixed now a i d (after_indications (Some j) now a is) (after_indications (Some k) now a is)
    (λ e. octets-fixed (Some j) (Some k) now a is e) sent why

-- ---- events

abbrev why_of : Option (ℕ × Why) → Option Why
why_of None = None
why_of (Some closed) = Some closed.1

why-back : (a : ℕ) (why : Option Why) → why_of (closed_by a why) ≡ why
why-back a None = refl
why-back a (Some why) = refl

-- what an answer sends, and why it closes an association
abbrev sent_in : Result Step StepFault → List Sent
sent_in (Ok step) = step.sent
sent_in (Err fault) = []

abbrev why_in : Result Step StepFault → Option Why
why_in (Ok step) = why_of step.closed
why_in (Err fault) = None

-- Two outcomes with one answer have one device.
abbrev IsFixed : Outcome → Outcome → Type 0
IsFixed o p = o.answer ≡ p.answer → o.after ≡ p.after

done-fixed : (a : ℕ) (left : ConnectionState) (ended : Option Sent) (g h : ReceiveResult)
    → IsFixedBy g h → IsFixed (recv_done a left ended g) (recv_done a left ended h)
done-fixed a left ended g h fixed e =
    let sent : g.done.sent ≡ h.done.sent = ap sent_in e in
    let why : g.why ≡ h.why =
    sym (why-back a g.why) ∙ ap why_in e ∙ why-back a h.why in
    ap (λ (s : State). recv_after a left s g.why) (fixed sent why)
    ∙ ap (recv_after a left h.done.state) why

event-fixed : (b c : Option ℕ) (now : ℕ) (event : Event) (s : State)
    → IsFixed (event_outcome b now event s) (event_outcome c now event s)
event-fixed b c now (Recv a octets) s e =
    go octets.now (connection_at (slot_of a) s) e
  where
    go : (text : List ℕ) (o : Option ConnectionState)
        → IsFixed (recv_outcome b now a text s o) (recv_outcome c now a text s o)
    go text None e = refl
    go [] (Some t) e = refl
    go (x ∷ text) (Some t) e =
        done-fixed a (connection_after t (x ∷ text)) (expiry_report now s)
        (after_indications b now a (indications t (x ∷ text)) (step_start (device_at now s)))
        (after_indications c now a (indications t (x ∷ text)) (step_start (device_at now s)))
        (octets-fixed b c now a (indications t (x ∷ text)) (step_start (device_at now s))) e
event-fixed b c now (Open a) s e = refl
event-fixed b c now (Close a) s e = refl
event-fixed b c now (Contact k position) s e = refl
event-fixed b c now (Input k value) s e = refl
event-fixed b c now (Measure k field value) s e = refl
event-fixed b c now (BadMeasure k field) s e = refl
event-fixed b c now Lost s e = refl
event-fixed b c now Scan s e = refl

outcome-fixed : (b c : Option ℕ) (now : ℕ) (event : Event) (s : State)
    → IsFixed (outcome b now event s) (outcome c now event s)
outcome-fixed b c now event s = go (ltb last_moment now) (ltb now s.moment) refl refl
  where
    go : (late early : Bool) → ltb last_moment now ≡ late → ltb now s.moment ≡ early
        → IsFixed (outcome b now event s) (outcome c now event s)
    go true early e f = rw e (λ h. refl)
    go false true e f = rw (e, f) (λ h. refl)
    go false false e f = rw (e, f) (event-fixed b c now event s)

pub answers-fix : (now : ℕ) (event : Event) (old : State) (answer : Result Step StepFault)
    (new other : State) → Steps now event old answer new → Steps now event old answer other
    → new ≡ other
answers-fix now event old answer new other x y =
    x.left ∙ outcome-fixed x.choice y.choice now event old (sym x.answered ∙ y.answered)
    ∙ sym y.left

-- ---- chains

-- both of two facts of a step
abbrev pub Pair : (ℕ → Event → State → Result Step StepFault → State → Type 0)
    → (ℕ → Event → State → Result Step StepFault → State → Type 0)
    → ℕ → Event → State → Result Step StepFault → State → Type 0
Pair P Q now event old answer new = P now event old answer new × Q now event old answer new

-- What two clauses say is true along one chain, which ends at one device.
module _ {P Q Both : ℕ → Event → State → Result Step StepFault → State → Type 0}
    (both : (now : ℕ) (event : Event) (old : State) (answer : Result Step StepFault) (new : State)
    → P now event old answer new → Q now event old answer new → Both now event old answer new) where
  pub join-chains : (events : List (ℕ × Event)) (old : State)
      (replies : List (Result Step StepFault)) (new other : State)
      → EachStep P events old replies new → EachStep Q events old replies other
      → EachStep Both events old replies new × (new ≡ other)
  join-chains [] old [] new other p q = (p, p ∙ sym q)
  join-chains [] old (answer ∷ replies) new other p q = absurd p
  join-chains (e ∷ es) old [] new other p q = absurd p
  join-chains (e ∷ es) old (answer ∷ replies) new other p q =
      let same : q.0 ≡ p.0 = answers-fix e.0 e.1 old answer q.0 p.0 q.1 p.1 in
      let here : Q e.0 e.1 old answer p.0 =
      subst (λ (s : State). Q e.0 e.1 old answer s) same q.2 in
      let rest : EachStep Q es p.0 replies other =
      subst (λ (s : State). EachStep Q es s replies other) same q.3 in
      let later = join-chains es p.0 replies new other p.3 rest in
      ((p.0, p.1, both e.0 e.1 old answer p.0 p.2 here, later.0), later.1)
