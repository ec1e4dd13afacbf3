-- Before octets are heard in a turn only events of associations come, and that the process is lost.
use Rattle.std.proofs.Common.{◌≡◌, ◌+◌, ◌||◌, ◌≤◌, ◌⊎◌, ℕ, nat_lt, Bool, true, false, cond, if◌then◌else◌, inl, inr, All, List, [], ◌∷◌, ◌++◌, length, position, is_none, is_some, Option, Some, None, refl, ap, sym, subst, ◌∙◌, append_assoc, arith}
use Rattle.std.specs.Borrow.{Bor}
use Rattle.std.specs.declared.net.socket_addr.SocketAddrV4.{SocketAddrV4}
use Rattle.std.specs.List.{Contains}
use Rattle.std.proofs.lemmas.List.Elements.{All-append, All-cons, All-contains, All-head, All-nil, All-tail, Contains-append_right}
use Rattle.bay_device.specs.Device.{State}
use Rattle.bay_device.specs.Outcomes.{Outcome, connection_at, last_moment, lost_outcome, outcome, refusal_outcome}
use Rattle.bay_device.specs.declared.fault.StepFault.TheVariants.{MomentTooLarge, TimeWentBack}
use Rattle.std.proofs.lemmas.Bool.Decides.{nat_tests}
use Rattle.bay_device.specs.Steps.{OfAssociation}
use Rattle.bay_device.specs.declared.event.Event.{Event}
use Rattle.bay_device.specs.declared.event.Event.TheVariants.{Open, Recv, Close, Contact, Input, Measure, BadMeasure, Lost, Scan}
use Rattle.bay_device.proofs.SameLemmas.{Parts, Same, same-outcome}
use Rattle.bay_server_turn.specs.Calls.{ReadOutcome, Octets, Silence, StreamEnd, Failure}
use Rattle.bay_server_turn.specs.Turns.{ServerData, Reading, Script, turn_calls, after_turn, event_of, loss_event}
use Rattle.bay_server_turn.specs.declared.process_input.ProcessEvent.{ProcessEvent}
use Rattle.bay_server_turn.specs.declared.process_input.ProcessEvent.TheVariants as process
use Rattle.bay_server_turn.specs.declared.process_input.ProcessReport.{ProcessReport}
use Rattle.bay_server_turn.specs.declared.turn_report.CloseReason.{CloseReason}
use Rattle.bay_server_turn_laws.specs.Causes.{fails_for, has_some, is_queue_full, reports_close}
use Rattle.bay_server_turn_laws.specs.Events.{ChosenEvent, outcomes_at, with_memory, turn_events}
use Rattle.bay_server_turn_laws.specs.Flows.{IsInTime}
use Rattle.bay_server_turn_laws.specs.Order.{AreClosings, IsClosing, FirstThen, ReadsThen, received_events, open_events, open_events_at, events_of_read, process_events}
use Rattle.bay_server_turn_laws.proofs.OrderLemmas.{in-order}
use Rattle.bay_server_turn_laws.proofs.QuietLemmas.{at_any_moment}
use Rattle.bay_server_turn_laws.proofs.UpLemmas.{outcome-moment}

-- an event is one of an association
abbrev IsOf : ChosenEvent → Type 0
IsOf e = OfAssociation e.1

-- each is one
abbrev pub OfAssociations : List ChosenEvent → Type 0
OfAssociations es = All IsOf es

-- or the loss of the process
abbrev IsEarly : ChosenEvent → Type 0
IsEarly e = OfAssociation e.1 ⊎ (e.1 ≡ Lost)

abbrev AreEarly : List ChosenEvent → Type 0
AreEarly es = All IsEarly es

-- no octets come
abbrev pub IsWithout : Event → Type 0
IsWithout (Open a) = Unit {0}
IsWithout (Recv a octets) = ⊥
IsWithout (Close a) = Unit {0}
IsWithout (Contact k position) = Unit {0}
IsWithout (Input k value) = Unit {0}
IsWithout (Measure k field value) = Unit {0}
IsWithout (BadMeasure k field) = Unit {0}
IsWithout Lost = Unit {0}
IsWithout Scan = Unit {0}

-- an event without octets
abbrev pub IsFree : ChosenEvent → Type 0
IsFree e = IsWithout e.1

-- none of the events brings octets
abbrev pub AreWithout : List ChosenEvent → Type 0
AreWithout es = All (λ (e : ChosenEvent). IsWithout e.1) es

-- ---- the parts of a turn

closing-of : (why : ℕ → Bool) (es : List ChosenEvent) → AreClosings why es → AreEarly es
closing-of why es closings k d low =
    let c : IsClosing why _ = closings k d low in subst IsEarly (sym c.1) (inl tt)

pub closing-without : (why : ℕ → Bool) (es : List ChosenEvent) → AreClosings why es → AreWithout es
closing-without why es closings k d low =
    let c : IsClosing why _ = closings k d low in
    subst (λ (e : ChosenEvent). IsWithout e.1) (sym c.1) tt

one-of : (e : ChosenEvent) → IsEarly e → AreEarly (e ∷ [])
one-of e of = All-cons IsEarly e [] of (All-nil IsEarly)

brought-of : (a : ℕ) (choice : Option ℕ) (heard : ReadOutcome)
    → AreEarly (received_events a choice heard)
brought-of a choice (Octets octets) = one-of _ (inl tt)
brought-of a choice Silence = All-nil IsEarly
brought-of a choice StreamEnd = one-of _ (inl tt)
brought-of a choice Failure = one-of _ (inl tt)

read-of : (place : ℕ) (r : Reading) (d : State) → AreEarly (events_of_read place r d)
read-of place r d = by-open (is_some (connection_at (Some place) d))
  where
    by-open : (b : Bool) → AreEarly (cond b (received_events (place + 1) r.choice r.heard) [])
    by-open true = brought-of (place + 1) r.choice r.heard
    by-open false = All-nil IsEarly

opened-of : (place : Option ℕ) (accepted : Option (Option SocketAddrV4))
    → AreEarly (open_events_at place accepted)
opened-of (Some place) (Some (Some from)) = one-of _ (inl tt)
opened-of (Some place) (Some None) = All-nil IsEarly
opened-of (Some place) None = All-nil IsEarly
opened-of None accepted = All-nil IsEarly

lost-early : (is_lost : Bool)
    → AreEarly (process_events (if is_lost then Some process.Lost else None))
lost-early true = one-of _ (inr refl)
lost-early false = All-nil IsEarly

-- no octets come as a connection is taken
pub opened-free : (place : Option ℕ) (accepted : Option (Option SocketAddrV4))
    → AreWithout (open_events_at place accepted)
opened-free (Some place) (Some (Some from)) = All-cons IsFree _ [] tt (All-nil IsFree)
opened-free (Some place) (Some None) = All-nil IsFree
opened-free (Some place) None = All-nil IsFree
opened-free None accepted = All-nil IsFree

event-without : (event : ProcessEvent) → IsWithout (event_of event)
event-without (process.Contact k position) = tt
event-without (process.Input k value) = tt
event-without (process.Measure k field value) = tt
event-without (process.BadMeasure k field) = tt
event-without process.Lost = tt

pub told-without : (line : Option ProcessEvent) → AreWithout (process_events line)
told-without None = All-nil IsFree
told-without (Some event) = All-cons IsFree _ [] (event-without event) (All-nil IsFree)

-- ---- two halves

-- First come events of associations and the loss, and then no octets more.
record Halves (events : List ChosenEvent) : Type 0 where
  reads : List ChosenEvent
  rest : List ChosenEvent
  is : events ≡ reads ++ rest
  of : AreEarly reads
  without : AreWithout rest

without-halves : (es : List ChosenEvent) → AreWithout es → Halves es
without-halves es without =
    record { reads = []; rest = es; is = refl; of = All-nil IsEarly; without = without }

module _ (now : ℕ) (reported : List (ℕ × CloseReason)) where
  then-front : (first : List ChosenEvent) (Rest : State → List ChosenEvent → Type 0) (d : State)
      (events : List ChosenEvent) → AreEarly first
      → ((s : State) (rest : List ChosenEvent) → Rest s rest → Halves rest)
      → FirstThen now reported first Rest d events → Halves events
  then-front first Rest d events of more t =
      let h : Halves t.rest = more (outcomes_at now (first ++ t.cut) d).after t.rest t.rest_holds in
      let cut : AreEarly t.cut =
      closing-of (λ a. reports_close is_queue_full a reported) t.cut t.closings
      in
      record {
        reads = first ++ (t.cut ++ h.reads);
        rest = h.rest;
        is = t.is ∙ ap (λ l. first ++ t.cut ++ l) h.is ∙ grouped first t.cut h.reads h.rest;
        of = All-append IsEarly first (t.cut ++ h.reads) of
            (All-append IsEarly t.cut h.reads cut h.of);
        without = h.without;
      }
    where
      grouped : (w x y z : List ChosenEvent) → w ++ x ++ (y ++ z) ≡ (w ++ (x ++ y)) ++ z
      grouped w x y z = simp append_assoc

  reads-front : (Rest : State → List ChosenEvent → Type 0)
      → ((s : State) (rest : List ChosenEvent) → Rest s rest → Halves rest)
      → (place : ℕ) (rs : List Reading) (d : State) (events : List ChosenEvent)
      → ReadsThen now reported place rs Rest d events → Halves events
  reads-front Rest more place [] d events t = more d events t
  reads-front Rest more place (r ∷ rs) d events t =
      then-front (events_of_read place r d) (ReadsThen now reported (place + 1) rs Rest) d events
      (read-of place r d) (reads-front Rest more (place + 1) rs) t

  -- what holds of closings, and of each part of a turn, holds of each of its events
  module _ (P : ChosenEvent → Type 0) (closed : (a : ℕ) → P (with_memory (Close a))) where
    pub closings-all : (why : ℕ → Bool) (es : List ChosenEvent) → AreClosings why es → All P es
    closings-all why es closings k d low =
        let c : IsClosing why _ = closings k d low in subst P (sym c.1) (closed c.0)

    pub then-all : (first : List ChosenEvent) (Rest : State → List ChosenEvent → Type 0) (d : State)
        (events : List ChosenEvent) → All P first
        → ((s : State) (rest : List ChosenEvent) → Rest s rest → All P rest)
        → FirstThen now reported first Rest d events → All P events
    then-all first Rest d events all more t =
        let rest : All P t.rest =
        more (outcomes_at now (first ++ t.cut) d).after t.rest t.rest_holds in
        subst (All P) (sym (t.is ∙ grouped first t.cut t.rest))
        (All-append P first (t.cut ++ t.rest) all (All-append P t.cut t.rest
        (closings-all (λ a. reports_close is_queue_full a reported) t.cut t.closings) rest))
      where
        grouped : (w x y : List ChosenEvent) → w ++ x ++ y ≡ w ++ (x ++ y)
        grouped w x y = simp append_assoc

    pub reads-all : (Rest : State → List ChosenEvent → Type 0)
        → ((s : State) (rest : List ChosenEvent) → Rest s rest → All P rest)
        → ((place : ℕ) (r : Reading) (d : State) → All P (events_of_read place r d))
        → (place : ℕ) (rs : List Reading) (d : State) (events : List ChosenEvent)
        → ReadsThen now reported place rs Rest d events → All P events
    reads-all Rest more each place [] d events t = more d events t
    reads-all Rest more each place (r ∷ rs) d events t =
        then-all (events_of_read place r d) (ReadsThen now reported (place + 1) rs Rest) d events
        (each place r d) (reads-all Rest more each (place + 1) rs) t

-- what comes behind the reads of a turn
abbrev pub Behind : ℕ → List (ℕ × CloseReason) → (ℕ → Bool) → Option ProcessEvent → State
    → List ChosenEvent → Type 0
Behind now reported why line d =
    FirstThen now reported (process_events line)
    (FirstThen now reported (with_memory Scan ∷ []) (λ e rest. AreClosings why rest)) d

pub behind-without : (now : ℕ) (reported : List (ℕ × CloseReason)) (why : ℕ → Bool)
    (line : Option ProcessEvent) (d : State) (rest : List ChosenEvent)
    → Behind now reported why line d rest → AreWithout rest
behind-without now reported why line d rest t =
    let Last : State → List ChosenEvent → Type 0 = λ e rest. AreClosings why rest in
    then-all now reported IsFree (λ a. tt) (process_events line)
    (FirstThen now reported (with_memory Scan ∷ []) Last)
    d
    rest
    (told-without line)
    (λ e later u. then-all now reported IsFree (λ a. tt) (with_memory Scan ∷ []) Last e later
    (All-cons IsFree (with_memory Scan) [] tt (All-nil IsFree))
    (λ f last closings. closing-without why last closings) u) t

-- why an association may be closed at the end of a turn
abbrev pub why_closed : ℕ → ProcessReport → Script → ServerData → ℕ → Bool
why_closed now given script h a =
    reports_close is_queue_full a (after_turn now given script h).noted.closed
    || has_some (fails_for a) (turn_calls now given script h)

-- the reads of a turn, and what comes behind them
abbrev pub Reads : ℕ → ProcessReport → Script → ServerData → State → List ChosenEvent → Type 0
Reads now given script h d events =
    let reported = (after_turn now given script h).noted.closed in
    ReadsThen now reported 0 script.readings
    (Behind now reported (why_closed now given script h) given.event) d events

-- what comes behind the connection that is taken: whether the process is lost, and the reads
abbrev pub Begins : ℕ → ProcessReport → Script → ServerData → State → List ChosenEvent → Type 0
Begins now given script h d events =
    FirstThen now (after_turn now given script h).noted.closed (process_events (loss_event given))
    (Reads now given script h) d events

halves : (now : ℕ) (given : ProcessReport) (script : Script) (h : ServerData)
    → length script.readings ≤ 8 → length script.offers ≡ 8
    → Halves (turn_events now given script h)
halves now given script h readings offers =
    let reported = (after_turn now given script h).noted.closed in
    let why : ℕ → Bool = why_closed now given script h in
    then-front now reported (open_events script.accepted h.device) (Begins now given script h)
    h.device
    (turn_events now given script h)
    (opened-of (position is_none h.device.connections) script.accepted)
    (λ c rest begins. then-front now reported (process_events (loss_event given))
    (Reads now given script h) c
    rest (lost-early given.is_lost)
    (reads-front now reported (Behind now reported why given.event)
    (λ d rest t. without-halves rest (behind-without now reported why given.event d rest t)) 0
    script.readings) begins)
    (in-order now given script h readings offers)

-- ---- what comes before octets

without-in : (front : List ChosenEvent) (e : ChosenEvent) (back : List ChosenEvent)
    → AreWithout (front ++ e ∷ back) → IsWithout e.1
without-in [] e back all = All-head IsFree e back all
without-in (x ∷ front) e back all =
    without-in front e back (All-tail IsFree x (front ++ e ∷ back) all)

front-of : (reads rest front : List ChosenEvent) (e : ChosenEvent) (back : List ChosenEvent)
    → reads ++ rest ≡ front ++ e ∷ back → AreEarly reads → AreWithout rest
    → (IsWithout e.1 → ⊥) → AreEarly front
front-of reads rest [] e back is of without octets = All-nil IsEarly
front-of [] rest (f ∷ front) e back is of without octets =
    absurd (octets (without-in (f ∷ front) e back (subst AreWithout is without)))
front-of (x ∷ reads) rest (f ∷ front) e back is of without octets =
    let first : x ≡ f = cc in
    let later : reads ++ rest ≡ front ++ e ∷ back = cc in
    All-cons IsEarly f front (subst IsEarly first (All-head IsEarly x reads of))
    (front-of reads rest front e back later (All-tail IsEarly x reads of) without octets)

early-before : (now : ℕ) (given : ProcessReport) (script : Script) (h : ServerData)
    (front : List ChosenEvent) (choice : Option ℕ) (a : ℕ) (octets : Bor (List ℕ))
    (back : List ChosenEvent)
    → length script.readings ≤ 8 → length script.offers ≡ 8
    → turn_events now given script h ≡ front ++ (choice, Recv a octets) ∷ back → AreEarly front
early-before now given script h front choice a octets back readings offers split =
    let both : Halves (turn_events now given script h) =
    halves now given script h readings offers in
    front-of both.reads both.rest front (choice, Recv a octets) back (sym both.is ∙ split) both.of
    both.without (λ none. none)

-- ---- what they leave

pub same-events : (now : ℕ) (es : List ChosenEvent) (s : State) → OfAssociations es
    → Same s (outcomes_at now es s).after
same-events now [] s of = refl
same-events now (e ∷ es) s of =
    let t : State = (outcome e.0 now e.1 s).after in
    let one : Same s t = same-outcome now s e.0 e.1 (All-head IsOf e es of) in
    let more : Same t (outcomes_at now es t).after = same-events now es t (All-tail IsOf e es of) in
    more ∙ one

module _ (now : ℕ) (soon : now ≤ last_moment) where
  lost-if : (late early : Bool) (s : State) → s.moment ≤ now → nat_lt last_moment now ≡ late
      → nat_lt now s.moment ≡ early
      → (let o : Outcome = cond late (refusal_outcome MomentTooLarge s)
      (cond early (refusal_outcome TimeWentBack s) (lost_outcome now s)) in o.after.is_lost) ≡ true
  lost-if true early s time is and = absurd (grind (arith, nat_tests))
  lost-if false true s time is and = absurd (grind (arith, nat_tests))
  lost-if false false s time is and = refl

  -- behind its loss the process is lost
  lost-by : (e : ChosenEvent) (s : State) → s.moment ≤ now → e.1 ≡ Lost
      → (outcome e.0 now e.1 s).after.is_lost ≡ true
  lost-by e s time lost =
      ap (λ event. (outcome e.0 now event s).after.is_lost) lost
      ∙ lost-if (nat_lt last_moment now) (nat_lt now s.moment) s time refl refl

  -- and it stays so until octets are heard
  stays-lost : (es : List ChosenEvent) (s : State) → s.moment ≤ now → AreEarly es
      → s.is_lost ≡ true → (outcomes_at now es s).after.is_lost ≡ true
  stays-lost [] s time early lost = lost
  stays-lost (e ∷ es) s time early lost =
      stays-lost es (outcome e.0 now e.1 s).after (outcome-moment e.0 now e.1 s time)
      (All-tail IsEarly e es early) (one (All-head IsEarly e es early))
    where
      one : IsEarly e → (outcome e.0 now e.1 s).after.is_lost ≡ true
      one (inl of) = ap (λ (p : Parts). p.lost) (same-outcome now s e.0 e.1 of) ∙ lost
      one (inr is) = lost-by e s time is

  -- so where it is not lost then, it was not told to be
  none-lost : (es : List ChosenEvent) (s : State) → s.moment ≤ now → AreEarly es
      → (outcomes_at now es s).after.is_lost ≡ false → OfAssociations es
  none-lost [] s time early heard = All-nil IsOf
  none-lost (e ∷ es) s time early heard =
      let t : State = (outcome e.0 now e.1 s).after in
      let later : t.moment ≤ now = outcome-moment e.0 now e.1 s time in
      let more : AreEarly es = All-tail IsEarly e es early in
      All-cons IsOf e es (one later more (All-head IsEarly e es early))
      (none-lost es t later more heard)
    where
      one : (outcome e.0 now e.1 s).after.moment ≤ now → AreEarly es → IsEarly e
          → OfAssociation e.1
      one later more (inl of) = of
      one later more (inr is) =
          absurd (let no : true ≡ false =
          sym (stays-lost es (outcome e.0 now e.1 s).after later more (lost-by e s time is))
          ∙ heard in cc)

-- Where the process is not lost as octets are heard, only events of associations came before.
pub before-octets : (now : ℕ) (given : ProcessReport) (script : Script) (h : ServerData)
    (front : List ChosenEvent) (choice : Option ℕ) (a : ℕ) (octets : Bor (List ℕ))
    (back : List ChosenEvent)
    → length script.readings ≤ 8 → length script.offers ≡ 8 → IsInTime now h
    → turn_events now given script h ≡ front ++ (choice, Recv a octets) ∷ back
    → (outcomes_at now front h.device).after.is_lost ≡ false → OfAssociations front
before-octets now given script h front choice a octets back readings offers time split heard =
    none-lost now time.not_past front h.device time.not_before
    (early-before now given script h front choice a octets back readings offers split) heard

-- ---- a turn that tells of the loss

-- what comes before octets that are not in a front begins with the front
record Later (xs ys front : List ChosenEvent) (e : ChosenEvent) (back : List ChosenEvent)
    : Type 0 where
  more : List ChosenEvent
  is : front ≡ xs ++ more
  rest : ys ≡ more ++ e ∷ back

behind-front : (xs ys front : List ChosenEvent) (e : ChosenEvent) (back : List ChosenEvent)
    → xs ++ ys ≡ front ++ e ∷ back → AreWithout xs → (IsWithout e.1 → ⊥)
    → Later xs ys front e back
behind-front [] ys front e back is without octets =
    record { more = front; is = refl; rest = is }
behind-front (x ∷ xs) ys [] e back is without octets =
    let first : x ≡ e = cc in
    absurd (octets (subst (λ (f : ChosenEvent). IsWithout f.1) first
    (All-head IsFree x xs without)))
behind-front (x ∷ xs) ys (f ∷ front) e back is without octets =
    let first : x ≡ f = cc in
    let same : xs ++ ys ≡ front ++ e ∷ back = cc in
    let l = behind-front xs ys front e back same (All-tail IsFree x xs without) octets in
    record {
      more = l.more;
      is = ap (λ x. x ∷ front) (sym first) ∙ ap (λ l. x ∷ l) l.is;
      rest = l.rest;
    }

starts-with : (y : ChosenEvent) (ys more : List ChosenEvent) (e : ChosenEvent)
    (back : List ChosenEvent) → y ∷ ys ≡ more ++ e ∷ back → IsWithout y.1 → (IsWithout e.1 → ⊥)
    → Contains more y
starts-with y ys [] e back is free octets =
    let same : y ≡ e = cc in
    absurd (octets (subst (λ (f : ChosenEvent). IsWithout f.1) same free))
starts-with y ys (m ∷ more) e back is free octets =
    let same : y ≡ m = cc in (0, omega arith, sym same)

-- where only events of associations came before octets, the turn was not told of the loss
pub not-told : (now : ℕ) (given : ProcessReport) (script : Script) (h : ServerData)
    (front : List ChosenEvent) (choice : Option ℕ) (a : ℕ) (octets : Bor (List ℕ))
    (back : List ChosenEvent)
    → length script.readings ≤ 8 → length script.offers ≡ 8
    → turn_events now given script h ≡ front ++ (choice, Recv a octets) ∷ back
    → OfAssociations front → given.is_lost ≡ false
not-told now given script h front choice a octets back readings offers split of =
    by-lost given.is_lost refl
  where
    reported : List (ℕ × CloseReason)
    reported = (after_turn now given script h).noted.closed

    first : List ChosenEvent
    first = open_events script.accepted h.device

    t : FirstThen now reported first (Begins now given script h) h.device
        (turn_events now given script h)
    t = in-order now given script h readings offers

    u : Begins now given script h (outcomes_at now (first ++ t.cut) h.device).after t.rest
    u = t.rest_holds

    by-lost : (v : Bool) → given.is_lost ≡ v → given.is_lost ≡ false
    by-lost false e = e
    by-lost true e =
        let free : AreWithout (first ++ t.cut) = All-append IsFree first t.cut
        (opened-free (position is_none h.device.connections) script.accepted)
        (closing-without (λ b. reports_close is_queue_full b reported) t.cut t.closings) in
        let l = behind-front (first ++ t.cut) t.rest front (choice, Recv a octets) back
        (sym t.is ∙ split) free (λ none. none) in
        let told_is : process_events (loss_event given) ≡ with_memory Lost ∷ [] =
        ap (λ b. process_events (if b then Some process.Lost else None)) e in
        let begins : t.rest ≡ with_memory Lost ∷ (u.cut ++ u.rest) =
        u.is ∙ ap (λ l. l ++ u.cut ++ u.rest) told_is in
        let has : Contains l.more (with_memory Lost) =
        starts-with (with_memory Lost) (u.cut ++ u.rest) l.more (choice, Recv a octets) back
        (sym begins ∙ l.rest) tt (λ none. none) in
        absurd (All-contains IsOf front (with_memory Lost) of
        (subst (λ es. Contains es (with_memory Lost)) (sym l.is)
        (Contains-append_right (first ++ t.cut) l.more (with_memory Lost) has)))

-- ---- a turn in which nothing happens to the process

abbrev IsMute : ChosenEvent → Type 0
IsMute e = IsEarly e ⊎ (e.1 ≡ Scan)

abbrev AreMute : List ChosenEvent → Type 0
AreMute es = All IsMute es

early-mute : (es : List ChosenEvent) → AreEarly es → AreMute es
early-mute es early = λ k d low. inl (early k d low)

mute-turn : (now : ℕ) (given : ProcessReport) (script : Script) (h : ServerData)
    → length script.readings ≤ 8 → length script.offers ≡ 8 → given.event ≡ None
    → AreMute (turn_events now given script h)
mute-turn now given script h readings offers none =
    then-all now reported IsMute closed (open_events script.accepted h.device)
    (Begins now given script h)
    h.device (turn_events now given script h)
    (early-mute _ (opened-of (position is_none h.device.connections) script.accepted))
    (λ c rest begins. then-all now reported IsMute closed (process_events (loss_event given))
    (Reads now given script h) c rest (early-mute _ (lost-early given.is_lost))
    (reads-all now reported IsMute closed (Behind now reported why given.event) behind
    (λ place r d. early-mute _ (read-of place r d)) 0 script.readings) begins)
    (in-order now given script h readings offers)
  where
    reported : List (ℕ × CloseReason)
    reported = (after_turn now given script h).noted.closed

    why : ℕ → Bool
    why = why_closed now given script h

    closed : (a : ℕ) → IsMute (with_memory (Close a))
    closed a = inl (inl tt)

    Last : State → List ChosenEvent → Type 0
    Last e rest = AreClosings why rest

    quiet : AreMute (process_events given.event)
    quiet = subst (λ event. AreMute (process_events event)) (sym none) (All-nil IsMute)

    behind : (d : State) (rest : List ChosenEvent) → Behind now reported why given.event d rest
        → AreMute rest
    behind d rest t =
        then-all now reported IsMute closed (process_events given.event)
        (FirstThen now reported (with_memory Scan ∷ []) Last)
        d rest quiet
        (λ e later u. then-all now reported IsMute closed (with_memory Scan ∷ []) Last e later
        (All-cons IsMute (with_memory Scan) [] (inr refl) (All-nil IsMute))
        (λ f last closings. closings-all now reported IsMute closed why last closings) u) t

-- one of these events tells of the loss
abbrev TellsLoss : List ChosenEvent → Type 0
TellsLoss [] = ⊥
TellsLoss (e ∷ es) = (e.1 ≡ Lost) ⊎ TellsLoss es

loss-behind : (xs ys : List ChosenEvent) → TellsLoss ys → TellsLoss (xs ++ ys)
loss-behind [] ys reports_close = reports_close
loss-behind (x ∷ xs) ys reports_close = inr (loss-behind xs ys reports_close)

turn-loss : (now : ℕ) (given : ProcessReport) (script : Script) (h : ServerData)
    → length script.readings ≤ 8 → length script.offers ≡ 8 → given.is_lost ≡ true
    → TellsLoss (turn_events now given script h)
turn-loss now given script h readings offers lost =
    let reported = (after_turn now given script h).noted.closed in
    let first : List ChosenEvent = open_events script.accepted h.device in
    let t : FirstThen now reported first (Begins now given script h) h.device
    (turn_events now given script h) = in-order now given script h readings offers in
    let u : Begins now given script h (outcomes_at now (first ++ t.cut) h.device).after t.rest =
    t.rest_holds in
    let told_is : process_events (loss_event given) ≡ with_memory Lost ∷ [] =
    ap (λ b. process_events (if b then Some process.Lost else None)) lost in
    subst TellsLoss (sym t.is) (loss-behind (first ++ t.cut) t.rest
    (subst TellsLoss (sym (u.is ∙ ap (λ l. l ++ u.cut ++ u.rest) told_is)) (inl refl)))

module _ (now : ℕ) (soon : now ≤ last_moment) where
  scan-keeps : (choice : Option ℕ) (s : State)
      → s.is_lost ≡ true → (outcome choice now Scan s).after.is_lost ≡ true
  scan-keeps choice s lost =
      at_any_moment (λ o. o.after.is_lost ≡ true) choice now Scan s (λ f. lost) lost

  mute-keeps : (e : ChosenEvent) (s : State) → s.moment ≤ now → IsMute e → s.is_lost ≡ true
      → (outcome e.0 now e.1 s).after.is_lost ≡ true
  mute-keeps e s time (inl (inl of)) lost =
      ap (λ (p : Parts). p.lost) (same-outcome now s e.0 e.1 of) ∙ lost
  mute-keeps e s time (inl (inr is)) lost = lost-by now soon e s time is
  mute-keeps e s time (inr is) lost =
      ap (λ event. (outcome e.0 now event s).after.is_lost) is ∙ scan-keeps e.0 s lost

  ends-lost : (es : List ChosenEvent) (s : State) → s.moment ≤ now → AreMute es
      → (s.is_lost ≡ true) ⊎ TellsLoss es → (outcomes_at now es s).after.is_lost ≡ true
  ends-lost [] s time mute (inl lost) = lost
  ends-lost [] s time mute (inr reports_close) = absurd reports_close
  ends-lost (e ∷ es) s time mute reported =
      ends-lost es (outcome e.0 now e.1 s).after (outcome-moment e.0 now e.1 s time)
      (All-tail IsMute e es mute) (one reported)
    where
      one : (s.is_lost ≡ true) ⊎ TellsLoss (e ∷ es)
          → ((outcome e.0 now e.1 s).after.is_lost ≡ true) ⊎ TellsLoss es
      one (inl lost) = inl (mute-keeps e s time (All-head IsMute e es mute) lost)
      one (inr (inl is)) = inl (lost-by now soon e s time is)
      one (inr (inr later)) = inr later

-- the process is lost behind such a turn, where it was before it, or the turn was told of the loss
pub turn-ends-lost : (now : ℕ) (given : ProcessReport) (script : Script) (h : ServerData)
    → length script.readings ≤ 8 → length script.offers ≡ 8 → IsInTime now h
    → given.event ≡ None → (h.device.is_lost ≡ true) ⊎ (given.is_lost ≡ true)
    → (outcomes_at now (turn_events now given script h) h.device).after.is_lost ≡ true
turn-ends-lost now given script h readings offers time none lost =
    ends-lost now time.not_past (turn_events now given script h) h.device time.not_before
    (mute-turn now given script h readings offers none) (by-kind lost)
  where
    by-kind : (h.device.is_lost ≡ true) ⊎ (given.is_lost ≡ true)
        → (h.device.is_lost ≡ true) ⊎ TellsLoss (turn_events now given script h)
    by-kind (inl was) = inl was
    by-kind (inr reported) = inr (turn-loss now given script h readings offers reported)

-- the device is not behind the turn's moment
pub events-on-time : (now : ℕ) (es : List ChosenEvent) (s : State) → s.moment ≤ now
    → (outcomes_at now es s).after.moment ≤ now
events-on-time now [] s time = time
events-on-time now (e ∷ es) s time =
    events-on-time now es (outcome e.0 now e.1 s).after (outcome-moment e.0 now e.1 s time)
