-- Which turns order a command in small runs.
use Rattle.std.proofs.Common.{◌≡◌, ◌<◌, ◌+◌, ◌++◌, ℕ, zero, suc, Bool, true, false, cond, List, [], ◌∷◌, drop, replicate, Option, None, Some, Result, Ok, refl, ap, sym, subst, ◌∙◌, append-nil, arith}
use Rattle.std.specs.Borrow.{Bor}
use Rattle.std.specs.List.{Contains}
use Rattle.std.proofs.lemmas.List.Elements.{All-append, All-cons, All-contains, All-head, All-nil, All-tail, Contains-append_right}
use Rattle.bay_mms_services.specs.declared.answer.Command.{Command}
use Rattle.bay_device.specs.Device.{State}
use Rattle.bay_device.specs.Fresh.{PastEvent}
use Rattle.bay_device.specs.Outcomes.{initial_connection, outcome, slot_of}
use Rattle.bay_device.specs.ObservedRuns.{connection_state_at}
use Rattle.bay_device.specs.declared.event.Event.{Event}
use Rattle.bay_device.specs.declared.event.Event.TheVariants.{Open, Recv, Close, Contact, Input, Measure, BadMeasure, Lost, Scan}
use Rattle.bay_device.specs.declared.event.Step.{Step}
use Rattle.bay_device.specs.declared.fault.StepFault.{StepFault}
use Rattle.bay_device.proofs.SameLemmas.{Parts}
use Rattle.bay_trace.specs.Resolving.{borrow_of}
use Rattle.bay_server_turn.specs.Calls.{Octets, Silence}
use Rattle.bay_server_turn.specs.Offers.{Offer}
use Rattle.bay_server_turn.specs.AssociationStates.{is_draining}
use Rattle.bay_server_turn.specs.Turns.{ServerData, TurnState, after_event, after_loss, after_line, after_scan, after_closing_full, close_at_once, first_full, lowest_free_association, is_open_at, queue_offer, offer_one, read_one, state_at, after_octets, turn_begin}
use Rattle.bay_server_turn.specs.declared.turn_report.CloseReason.TheVariants as closing
use Rattle.bay_server_turn.specs.declared.turn_report.Turn.{Turn}
use Rattle.bay_server_turn_laws.specs.Events.{ChosenEvent, accept_events_at, outcomes_at, events_of_each, failed_events, events_on_read, offer_events, read_events, scan_events, events_closing_full, events_closing_some_full, events_closing_next_full, with_memory, turn_events}
use Rattle.bay_server_turn_laws.specs.Flows.{event_octets, received_of}
use Rattle.bay_server_turn_laws.proofs.GivenLemmas.{turn-brings}
use Rattle.bay_server_turn_laws.proofs.ReadingLemmas.{few-read}
use Rattle.cmd_serve.specs.Requests.{AreRequested, ReceivesOctets, IsRequested}
use Rattle.cmd_serve.specs.Service.{DoneTurn, IsTurn}
use Rattle.cmd_serve.proofs.FrontLemmas.{AreWithout, IsFree, IsWithout, not-told, same-events}
use Rattle.cmd_audit_laws.specs.Orders.{octets_arrived, server_without_clients, server_with_client, octets_refused, scan_past, no_octets, turn_with}
use Rattle.cmd_audit_laws.proofs.ReleaseLemmas.{none-releases, old-releases-none}

-- ---- turns in which no octets come

settled-free : (now count : ℕ) (s : TurnState) → AreWithout (events_closing_some_full now count s)
settled-free now zero s = All-nil IsFree
settled-free now (suc count) s = by-first (first_full s.noted) (settled-free now count)
  where
    by-first : (o : Option ℕ)
        → ((t : TurnState) → AreWithout (events_closing_some_full now count t))
        → AreWithout (events_closing_next_full now o s (events_closing_some_full now count))
    by-first None more = All-nil IsFree
    by-first (Some place) more =
        All-cons IsFree (with_memory (Close (place + 1))) _ tt
        (more (close_at_once now closing.QueueFull place s))

all-settled-free : (now : ℕ) (s : TurnState) → AreWithout (events_closing_full now s)
unfolding events_closing_full
all-settled-free now s = settled-free now 8 s

-- where nothing came of the associations from a place on
silent-free : (now place count : ℕ) (s : TurnState)
    → AreWithout (events_of_each (read_one now) (read_events now) place (replicate count no_octets)
    s)
silent-free now place zero s = All-nil IsFree
silent-free now place (suc count) s =
    All-append IsFree (read_events now place no_octets s) _ (by-open (is_open_at place s))
    (silent-free now (place + 1) count (read_one now place no_octets s))
  where
    by-open : (b : Bool) → AreWithout (cond b (events_on_read now place None Silence s) [])
    by-open true = All-nil IsFree
    by-open false = All-nil IsFree

offers-free : (now place : ℕ) (os : List Offer) (s : TurnState)
    → AreWithout (events_of_each (offer_one now) (offer_events now) place os s)
offers-free now place [] s = All-nil IsFree
offers-free now place (o ∷ os) s =
    All-append IsFree (offer_events now place o s) _ (by-leaving (is_draining (state_at place s)))
    (offers-free now (place + 1) os (offer_one now place o s))
  where
    by-failed : (b : Bool) → AreWithout (failed_events now place b s)
    by-failed true =
        All-cons IsFree (with_memory (Close (place + 1))) _ tt
        (all-settled-free now (close_at_once now closing.LinkFailed place s))
    by-failed false = All-nil IsFree

    by-open : (b : Bool)
        → AreWithout (cond b (failed_events now place (queue_offer place o s).failed s) [])
    by-open true = by-failed (queue_offer place o s).failed
    by-open false = All-nil IsFree

    by-leaving : (b : Bool) → AreWithout (cond b []
        (cond (is_open_at place s) (failed_events now place (queue_offer place o s).failed s) []))
    by-leaving true = All-nil IsFree
    by-leaving false = by-open (is_open_at place s)

-- what the associations bring, a scan, and what is offered
abbrev all_parts : ServerData → DoneTurn → List ChosenEvent → List ChosenEvent
all_parts h t reads =
    reads ++ [] ++ scan_events t.now (after_line t.now t.given t.script h)
    ++ events_of_each (offer_one t.now) (offer_events t.now) 0 t.script.offers
    (after_scan t.now t.given t.script h)

parts-free : (h : ServerData) (t : DoneTurn) (reads : List ChosenEvent) → AreWithout reads
    → AreWithout (all_parts h t reads)
parts-free h t reads free =
    let s : TurnState = after_line t.now t.given t.script h in
    let u : TurnState = after_scan t.now t.given t.script h in
    All-append IsFree (reads ++ [] ++ scan_events t.now s) _
    (All-append IsFree (reads ++ []) _ (All-append IsFree reads [] free (All-nil IsFree))
    (All-cons IsFree (with_memory Scan) _ tt (all-settled-free t.now (after_event t.now Scan s))))
    (offers-free t.now 0 t.script.offers u)

-- none of these events brings octets
free-in : (es front : List ChosenEvent) (e : ChosenEvent) (back : List ChosenEvent)
    → AreWithout es → es ≡ front ++ e ∷ back → IsWithout e.1
free-in es front e back free is =
    let there : Contains (e ∷ back) e = (0, omega arith, refl) in
    All-contains IsFree es e free
    (subst (λ es. Contains es e) (sym is) (Contains-append_right front (e ∷ back) e there))

-- the event by which octets are heard
abbrev heard-event : (h : ServerData) (t : DoneTurn) → ReceivesOctets h t → ChosenEvent
heard-event h t i = (i.choice, Recv i.association i.octets)

heard-nowhere : (h : ServerData) (t : DoneTurn) → AreWithout (turn_events t.now t.given t.script h)
    → ReceivesOctets h t → ⊥
heard-nowhere h t free i =
    free-in (turn_events t.now t.given t.script h) i.front (heard-event h t i) i.back free i.is

pub closed-hears-none : (s : State) (octets : List ℕ) (reported : Turn)
    → ReceivesOctets (server_without_clients s) (turn_with (octets_arrived octets) reported) → ⊥
closed-hears-none s octets reported heard =
    let h : ServerData = server_without_clients s in
    let t : DoneTurn = turn_with (octets_arrived octets) reported in
    let u : TurnState = after_loss t.now t.given t.script h in
    heard-nowhere h t
    (parts-free h t (events_of_each (read_one 0) (read_events 0) 1 (replicate 7 no_octets) u)
    (silent-free 0 1 7 u)) heard

accept-none : (now : ℕ) (place : Option ℕ) (s : TurnState)
    → AreWithout (accept_events_at now place None s)
accept-none now None s = All-nil IsFree
accept-none now (Some place) s = All-nil IsFree

pub silent-orders-none : (first : State) (h : ServerData) (reported : Turn) (past : List PastEvent)
    (command : Command) → IsRequested first h (turn_with no_octets reported) past command → ⊥
silent-orders-none first h reported past command o =
    let t : DoneTurn = turn_with no_octets reported in
    let accepts : List ChosenEvent =
    accept_events_at 0 (lowest_free_association h) None (turn_begin h) in
    let u : TurnState = after_loss t.now t.given t.script h in
    let reads : List ChosenEvent =
    events_of_each (read_one 0) (read_events 0) 0 (replicate 8 no_octets) u in
    heard-nowhere h t (parts-free h t (accepts ++ [] ++ reads)
    (All-append IsFree (accepts ++ []) reads
    (All-append IsFree accepts [] (accept-none 0 (lowest_free_association h) (turn_begin h))
    (All-nil IsFree))
    (silent-free 0 0 8 u))) o.heard

-- ---- a turn in which octets come

brings-none : (a : ℕ) (event : Event) → IsWithout event → event_octets a event ≡ []
brings-none a (Open b) free = refl
brings-none a (Recv b octets) free = absurd free
brings-none a (Close b) free = refl
brings-none a (Contact k position) free = refl
brings-none a (Input k value) free = refl
brings-none a (Measure k field value) free = refl
brings-none a (BadMeasure k field) free = refl
brings-none a Lost free = refl
brings-none a Scan free = refl

bring-none : (a : ℕ) (es : List ChosenEvent) → AreWithout es → received_of a es ≡ []
bring-none a [] free = refl
bring-none a (e ∷ es) free =
    ap (λ l. l ++ received_of a es) (brings-none a e.1 (All-head IsFree e es free))
    ∙ bring-none a es (All-tail IsFree e es free)

head-same : {X : Type 0} {x y : X} {xs ys : List X} → x ∷ xs ≡ y ∷ ys → x ≡ y
head-same is = cc

recv-same : {a b : ℕ} {xs ys : Bor (List ℕ)} → (let e : Event = Recv a xs in e) ≡ Recv b ys
    → (a ≡ b) × (xs ≡ ys)
recv-same is = (cc, cc)

some-same : {X : Type 0} {x y : X} → Some x ≡ Some y → y ≡ x
some-same is = cc

module _ (s : State) (choice : Option ℕ) (octets : List ℕ) (reported : Turn) where
  -- a turn in which octets come of an open association
  abbrev turn : DoneTurn
  turn = turn_with (record { heard = Octets octets; choice = choice }) reported

  abbrev events : List ChosenEvent
  events = turn_events turn.now turn.given turn.script (server_with_client s)

  behind-free : AreWithout (drop 1 events)
  behind-free =
      let t : TurnState =
      after_octets 0 0 choice octets
      (after_loss turn.now turn.given turn.script (server_with_client s)) in
      let u : TurnState = after_closing_full 0 t in
      let later : List ChosenEvent =
      events_of_each (read_one 0) (read_events 0) 1 (replicate 7 no_octets) u in
      parts-free (server_with_client s) turn (events_closing_full 0 t ++ later)
      (All-append IsFree (events_closing_full 0 t) later (all-settled-free 0 t)
      (silent-free 0 1 7 u))

  abbrev came : ChosenEvent
  came = (choice, Recv 1 (borrow_of octets))

  -- they come first, and none do later
  only-heard : (i : ReceivesOctets (server_with_client s) turn)
      → (i.front ≡ []) × (heard-event (server_with_client s) turn i ≡ came)
  only-heard i = by-front i.front i.is
    where
      it : ChosenEvent
      it = heard-event (server_with_client s) turn i

      by-front : (front : List ChosenEvent) → events ≡ front ++ it ∷ i.back
          → (front ≡ []) × (it ≡ came)
      by-front [] is =
          let both : came ∷ drop 1 events ≡ it ∷ i.back = is in (refl, sym (head-same both))
      by-front (x ∷ front) is =
          let rest : drop 1 events ≡ front ++ it ∷ i.back =
          ap (λ (es : List ChosenEvent). drop 1 es) is in
          absurd (free-in (drop 1 events) front it i.back behind-free rest)

pub is-heard : (s : State) (octet : ℕ) (octets : List ℕ) (reported : Turn)
    → ReceivesOctets (server_with_client s) (turn_with (octets_arrived (octet ∷ octets)) reported)
is-heard s octet octets reported =
    let h : ServerData = server_with_client s in
    let t : DoneTurn = turn_with (octets_arrived (octet ∷ octets)) reported in
    let back : List ChosenEvent = drop 1 (turn_events t.now t.given t.script h) in
    record {
      front = [];
      choice = None;
      association = 1;
      octets = borrow_of (octet ∷ octets);
      back = back;
      is = refl;
      first = λ k d lt. absurd (omega arith);
      given = turn-brings 1 t.now t.given t.script h
          ∙ ap (λ l. (octet ∷ octets) ++ l)
          (bring-none 1 back (behind-free s None (octet ∷ octets) reported))
          ∙ append-nil (octet ∷ octets);
      step = _;
      answered = refl;
    }

-- ---- turns that order no command

pub unscanned-orders-none : (first : State) (h : ServerData) (t : DoneTurn) (command : Command)
    → IsRequested first h t [] command → ⊥
unscanned-orders-none first h t command o =
    none-releases _ t.now first.scan_max_age_ms command o.released

pub old-orders-none : (first s : State) (h : ServerData) (t : DoneTurn) (step : Step)
    (command : Command)
    → IsRequested first h (record t { now = first.scan_max_age_ms + 1 }) (scan_past s step ∷ [])
    command
    → ⊥
old-orders-none first s h t step command o =
    old-releases-none s _ step first.scan_max_age_ms command o.released

pub lost-orders-none : (first : State) (h : ServerData) (t : DoneTurn) (past : List PastEvent)
    (command : Command) → h.device.is_lost ≡ true → IsRequested first h t past command → ⊥
lost-orders-none first h t past command lost o =
    let heard : (outcomes_at t.now o.heard.front h.device).after.is_lost ≡ false =
    o.allowed.heard in
    let same : (outcomes_at t.now o.heard.front h.device).after.is_lost ≡ h.device.is_lost =
    ap (λ (p : Parts). p.lost) (same-events t.now o.heard.front h.device o.heard.first) in
    let no : true ≡ false = sym lost ∙ sym same ∙ heard in absurd cc

pub told-lost-orders-none : (first : State) (h : ServerData) (t : DoneTurn) (past : List PastEvent)
    (command : Command) → IsTurn h t → t.given.is_lost ≡ true
    → IsRequested first h t past command → ⊥
told-lost-orders-none first h t past command is reported o =
    let i : ReceivesOctets h t = o.heard in
    let no : true ≡ false =
    sym reported ∙ not-told t.now t.given t.script h i.front i.choice i.association i.octets i.back
    (few-read t.given _ is.all_read) is.all_offered i.is i.first in
    absurd cc

-- ---- octets that come to no command

nothing-there : {X : Type 0} (xs : List X) (x : X) → xs ≡ [] → Contains xs x → ⊥
nothing-there xs x none has =
    let there : Contains [] x =
    subst (λ ys. Contains ys x) none has in absurd (omega (arith, there.1))

low-none : (k n : ℕ) → k < n → n ≡ 0 → ⊥
low-none k n low none = omega (arith, low, none)

pub part-orders-none : (first s : State) (reported : Turn) (past : List PastEvent)
    (command : Command)
    → IsRequested first (server_with_client s) (turn_with (octets_arrived (3 ∷ [])) reported) past
    command
    → ⊥
part-orders-none first s reported past command o =
    let d : State = (server_with_client s).device in
    let i = o.heard in
    let only = only-heard s None (3 ∷ []) reported i in
    let own = recv-same (ap (λ (e : ChosenEvent). e.1) only.1) in
    let here : connection_state_at (slot_of 1) (server_with_client s).device.connections
    ≡ Some o.talk =
    subst (λ es. connection_state_at (slot_of 1) (outcomes_at 0 es d).after.connections
    ≡ Some o.talk)
    only.0
    (subst (λ a. connection_state_at (slot_of a) (outcomes_at 0 i.front d).after.connections
    ≡ Some o.talk) own.0
    o.is_open) in
    let talk : o.talk ≡ initial_connection 1 = some-same here in
    low-none o.asked.0 _ o.asked.1 (rw talk (rw own.1 refl))

ok-same : (x y : Step) → (let r : Result Step StepFault = Ok x in r) ≡ Ok y → x ≡ y
ok-same x y is = cc

pub refused-orders-none : (first s : State) (octet : ℕ) (octets : List ℕ)
    (reported : Turn) (past : List PastEvent) (command : Command)
    → IsRequested first (server_with_client s)
    (turn_with (octets_refused (octet ∷ octets)) reported) past
    command
    → ⊥
refused-orders-none first s octet octets reported past command o =
    let d : State = (server_with_client s).device in
    let i = o.heard in
    let only = only-heard s (Some 0) (octet ∷ octets) reported i in
    let here : (outcome i.choice 0 (Recv i.association i.octets) d).answer ≡ Ok i.step =
    subst (λ es. (outcome i.choice 0 (Recv i.association i.octets)
    (outcomes_at 0 es d).after).answer
    ≡ Ok i.step) only.0 i.answered in
    let none : [] ≡ i.step.sent =
    ap (λ (step : Step). step.sent) (ok-same _ i.step
    (subst (λ (e : ChosenEvent). (outcome e.0 0 e.1 d).answer ≡ Ok i.step) only.1 here)) in
    nothing-there i.step.sent o.sent (sym none) o.answers

-- ---- lists of turns

pub quiet-are-ordered : (first : State) (h : ServerData) (t u : DoneTurn) (past : List PastEvent)
    → t.reported.commands ≡ [] → u.reported.commands ≡ [] → AreRequested first h past (t ∷ u ∷ [])
quiet-are-ordered first h t u past none more = (
  λ command has. absurd (nothing-there t.reported.commands command none has),
  (λ command has. absurd (nothing-there u.reported.commands command more has), tt),
)

-- of turns of which the last tells a command and has no octets
pub unordered : (first : State) (h : ServerData) (t : DoneTurn) (reported : Turn)
    (past : List PastEvent)
    (command : Command) → Contains reported.commands command
    → AreRequested first h past (t ∷ turn_with no_octets reported ∷ []) → ⊥
unordered first h t reported past command has all =
    silent-orders-none first _ reported _ command (all.1.0 command has)
