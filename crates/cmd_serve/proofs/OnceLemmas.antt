-- In a turn octets of an association come once: all that the link gave of it.
use Rattle.std.proofs.Common.{◌≡◌, ◌≢◌, ◌+◌, ◌<◌, ◌≤◌, ◌⊎◌, ℕ, Bool, true, false, cond, List, [], ◌∷◌, ◌++◌, length, position, is_none, is_some, Option, Some, inl, inr, refl, ap, sym, subst, ◌∙◌, append_assoc, append-nil, arith}
use Rattle.std.specs.Borrow.{Bor}
use Rattle.std.specs.List.{Contains}
use Rattle.std.proofs.lemmas.Bool.{eq-eqb, ne_eqb}
use Rattle.std.proofs.lemmas.List.Elements.{All-cons, All-contains, All-head, All-nil, All-tail, Contains-append_cases}
use Rattle.bay_device.specs.Device.{State}
use Rattle.bay_device.specs.Outcomes.{connection_at}
use Rattle.bay_device.specs.declared.event.Event.{Event}
use Rattle.bay_device.specs.declared.event.Event.TheVariants.{Open, Recv, Close, Contact, Input, Measure, BadMeasure, Lost, Scan}
use Rattle.bay_trace.specs.Resolving.{borrow_of}
use Rattle.bay_server_turn.specs.Calls.{ReadOutcome, Octets, Silence, StreamEnd, Failure}
use Rattle.bay_server_turn.specs.Turns.{ServerData, Reading, Script, after_turn, loss_event}
use Rattle.bay_server_turn.specs.declared.process_input.ProcessReport.{ProcessReport}
use Rattle.bay_server_turn.specs.declared.turn_report.CloseReason.{CloseReason}
use Rattle.bay_server_turn_laws.specs.Causes.{is_queue_full, reports_close}
use Rattle.bay_server_turn_laws.specs.Events.{ChosenEvent, outcomes_at, with_memory, turn_events}
use Rattle.bay_server_turn_laws.specs.Flows.{event_octets, received_of}
use Rattle.bay_server_turn_laws.specs.Order.{FirstThen, ReadsThen, received_events, open_events, events_of_read, process_events}
use Rattle.bay_server_turn_laws.proofs.OrderLemmas.{in-order}
use Rattle.cmd_serve.proofs.FrontLemmas.{AreWithout, Begins, Behind, IsFree, IsWithout, Reads, behind-without, closing-without, opened-free, told-without, why_closed}

-- ---- no octets

without-one : (a : ℕ) (event : Event) → IsWithout event → event_octets a event ≡ []
without-one a (Open b) free = refl
without-one a (Recv b octets) free = absurd free
without-one a (Close b) free = refl
without-one a (Contact k position) free = refl
without-one a (Input k value) free = refl
without-one a (Measure k field value) free = refl
without-one a (BadMeasure k field) free = refl
without-one a Lost free = refl
without-one a Scan free = refl

without-none : (a : ℕ) (es : List ChosenEvent) → AreWithout es → received_of a es ≡ []
without-none a [] free = refl
without-none a (e ∷ es) free =
    ap (λ l. l ++ received_of a es) (without-one a e.1 (All-head IsFree e es free))
    ∙ without-none a es (All-tail IsFree e es free)

received-append : (a : ℕ) (xs ys : List ChosenEvent)
    → received_of a (xs ++ ys) ≡ received_of a xs ++ received_of a ys
received-append a [] ys = refl
received-append a (x ∷ xs) ys =
    ap (λ l. event_octets a x.1 ++ l) (received-append a xs ys)
    ∙ sym (append_assoc (event_octets a x.1) (received_of a xs) (received_of a ys))

-- the one item
only : (x y : ChosenEvent) → Contains (y ∷ []) x → x ≡ y
only x y has =
    All-contains (λ z. z ≡ y) (y ∷ []) x
    (All-cons (λ z. z ≡ y) y [] refl (All-nil (λ z. z ≡ y))) has

-- ---- one read

abbrev IsRead : ℕ → ℕ → Bor (List ℕ) → List ChosenEvent → Type 0
IsRead a place octets es = (received_of a es ≡ octets.now) × (a ≡ place + 1)

module _ (a place : ℕ) where
  other-brought : (choice : Option ℕ) (heard : ReadOutcome) → place + 1 ≢ a
      → received_of a (received_events (place + 1) choice heard) ≡ []
  other-brought choice (Octets octets) other =
      ap (λ b. cond b octets [] ++ []) (ne_eqb (place + 1) a other)
  other-brought choice Silence other = refl
  other-brought choice StreamEnd other = refl
  other-brought choice Failure other = refl

  other-read : (r : Reading) (d : State) → place + 1 ≢ a
      → received_of a (events_of_read place r d) ≡ []
  other-read r d other = by-open (is_some (connection_at (Some place) d))
    where
      by-open : (b : Bool)
          → received_of a (cond b (received_events (place + 1) r.choice r.heard) []) ≡ []
      by-open true = other-brought r.choice r.heard other
      by-open false = refl

  own-brought : (choice : Option ℕ) (heard : ReadOutcome) (c : Option ℕ) (octets : Bor (List ℕ))
      → Contains (received_events (place + 1) choice heard) (c, Recv a octets)
      → IsRead a place octets (received_events (place + 1) choice heard)
  own-brought choice (Octets come) c octets has =
      let event : Recv a octets ≡ Recv (place + 1) (borrow_of come) =
      ap (λ (e : ChosenEvent). e.1)
      (only (c, Recv a octets) (choice, Recv (place + 1) (borrow_of come)) has) in
      let number : a ≡ place + 1 = cc in
      let same : octets ≡ borrow_of come = cc in (
        ap (λ b. cond b come [] ++ []) (eq-eqb (place + 1) a (sym number)) ∙ append-nil come
            ∙ sym (ap (λ (b : Bor (List ℕ)). b.now) same),
        number,
      )
  own-brought choice Silence c octets has = absurd (omega (arith, has.1))
  own-brought choice StreamEnd c octets has =
      let event : Recv a octets ≡ Close (place + 1) =
      ap (λ (e : ChosenEvent). e.1) (only (c, Recv a octets) (with_memory (Close (place + 1))) has)
      in
      absurd cc
  own-brought choice Failure c octets has =
      let event : Recv a octets ≡ Close (place + 1) =
      ap (λ (e : ChosenEvent). e.1) (only (c, Recv a octets) (with_memory (Close (place + 1))) has)
      in
      absurd cc

  own-read : (r : Reading) (d : State) (c : Option ℕ) (octets : Bor (List ℕ))
      → Contains (events_of_read place r d) (c, Recv a octets)
      → IsRead a place octets (events_of_read place r d)
  own-read r d c octets = by-open (is_some (connection_at (Some place) d))
    where
      by-open : (b : Bool)
          → Contains (cond b (received_events (place + 1) r.choice r.heard) []) (c, Recv a octets)
          → IsRead a place octets (cond b (received_events (place + 1) r.choice r.heard) [])
      by-open true has = own-brought r.choice r.heard c octets has
      by-open false has = absurd (omega (arith, has.1))

-- ---- all reads

module _ (now : ℕ) (reported : List (ℕ × CloseReason)) (a : ℕ) where
  then-received : (first : List ChosenEvent) (Rest : State → List ChosenEvent → Type 0) (d : State)
      (events : List ChosenEvent) (t : FirstThen now reported first Rest d events)
      → received_of a events ≡ received_of a first ++ received_of a t.rest
  then-received first Rest d events t =
      ap (received_of a) t.is ∙ received-append a (first ++ t.cut) t.rest
      ∙ ap (λ l. l ++ received_of a t.rest)
      (received-append a first t.cut
      ∙ ap (λ l. received_of a first ++ l)
      (without-none a t.cut (closing-without (λ b. reports_close is_queue_full b reported) t.cut
      t.closings))
      ∙ append-nil (received_of a first))

  then-has : (first : List ChosenEvent) (Rest : State → List ChosenEvent → Type 0) (d : State)
      (events : List ChosenEvent) (t : FirstThen now reported first Rest d events) (c : Option ℕ)
      (octets : Bor (List ℕ)) → Contains events (c, Recv a octets)
      → Contains first (c, Recv a octets) ⊎ Contains t.rest (c, Recv a octets)
  then-has first Rest d events t c octets has =
      elim (Contains-append_cases (first ++ t.cut) t.rest (c, Recv a octets)
      (subst (λ es. Contains es (c, Recv a octets)) t.is has)) [
        | inl front ↦ before (Contains-append_cases first t.cut (c, Recv a octets) front)
        | inr later ↦ inr later
      ]
    where
      before : Contains first (c, Recv a octets) ⊎ Contains t.cut (c, Recv a octets)
          → Contains first (c, Recv a octets) ⊎ Contains t.rest (c, Recv a octets)
      before (inl own) = inl own
      before (inr cut) =
          absurd (All-contains IsFree t.cut (c, Recv a octets)
          (closing-without (λ b. reports_close is_queue_full b reported) t.cut t.closings) cut)

  module _ (Rest : State → List ChosenEvent → Type 0)
      (without : (d : State) (rest : List ChosenEvent) → Rest d rest → AreWithout rest) where
    reads-none : (place : ℕ) (rs : List Reading) (d : State) (events : List ChosenEvent)
        → a ≤ place → ReadsThen now reported place rs Rest d events → received_of a events ≡ []
    reads-none place [] d events less t = without-none a events (without d events t)
    reads-none place (r ∷ rs) d events less t =
        let other : place + 1 ≢ a = λ same. absurd (omega arith) in
        then-received (events_of_read place r d) (ReadsThen now reported (place + 1) rs Rest) d
        events t
        ∙ ap (λ l. l ++ received_of a t.rest) (other-read a place r d other)
        ∙ reads-none (place + 1) rs _ t.rest (omega arith) t.rest_holds

    reads-once : (place : ℕ) (rs : List Reading) (d : State) (events : List ChosenEvent)
        (c : Option ℕ) (octets : Bor (List ℕ)) → ReadsThen now reported place rs Rest d events
        → Contains events (c, Recv a octets)
        → (received_of a events ≡ octets.now) × (place < a)
    reads-once place [] d events c octets t has =
        absurd (All-contains IsFree events (c, Recv a octets) (without d events t) has)
    reads-once place (r ∷ rs) d events c octets t has =
        elim (then-has (events_of_read place r d) (ReadsThen now reported (place + 1) rs Rest) d
        events t c
        octets has) [
          | inl own ↦
              (let is : IsRead a place octets (events_of_read place r d) =
              own-read a place r d c octets own
              in
              let number : a ≡ place + 1 = is.1 in
              let none : received_of a t.rest ≡ [] =
              reads-none (place + 1) rs _ t.rest (omega arith) t.rest_holds in (
                both ∙ ap (λ l. received_of a (events_of_read place r d) ++ l) none
                    ∙ append-nil (received_of a (events_of_read place r d)) ∙ is.0,
                omega arith,
              ))
          | inr later ↦ more (reads-once (place + 1) rs _ t.rest c octets t.rest_holds later)
        ]
      where
        both : received_of a events
            ≡ received_of a (events_of_read place r d) ++ received_of a t.rest
        both =
            then-received (events_of_read place r d) (ReadsThen now reported (place + 1) rs Rest) d
            events t

        more : (received_of a t.rest ≡ octets.now) × (place + 1 < a)
            → (received_of a events ≡ octets.now) × (place < a)
        more is =
            let low : place + 1 < a = is.1 in
            let other : place + 1 ≢ a = λ same. absurd (omega arith) in (
              both ∙ ap (λ l. l ++ received_of a t.rest) (other-read a place r d other) ∙ is.0,
              omega arith,
            )

pub received-once : (now : ℕ) (given : ProcessReport) (script : Script) (h : ServerData)
    (c : Option ℕ)
    (a : ℕ) (octets : Bor (List ℕ)) → length script.readings ≤ 8 → length script.offers ≡ 8
    → Contains (turn_events now given script h) (c, Recv a octets)
    → received_of a (turn_events now given script h) ≡ octets.now
received-once now given script h c a octets readings offers has =
    let reported = (after_turn now given script h).noted.closed in
    let events : List ChosenEvent = turn_events now given script h in
    let first : List ChosenEvent = open_events script.accepted h.device in
    let t : FirstThen now reported first (Begins now given script h) h.device events =
    in-order now given script h readings offers in
    elim (then-has now reported a first (Begins now given script h) h.device events t c octets has) [
      | inl own ↦ absurd (All-contains IsFree first (c, Recv a octets) (free given script h) own)
      | inr later ↦
          then-received now reported a first (Begins now given script h) h.device events t
          ∙ ap (λ l. l ++ received_of a t.rest) (without-none a first (free given script h))
          ∙ begun (outcomes_at now (first ++ t.cut) h.device).after t.rest t.rest_holds later
    ]
  where
    free : (given : ProcessReport) (script : Script) (h : ServerData)
        → AreWithout (open_events script.accepted h.device)
    free given script h =
        opened-free (position is_none h.device.connections) script.accepted

    begun : (d : State) (events : List ChosenEvent) → Begins now given script h d events
        → Contains events (c, Recv a octets) → received_of a events ≡ octets.now
    begun d events t has =
        let reported = (after_turn now given script h).noted.closed in
        let lost : List ChosenEvent = process_events (loss_event given) in
        elim (then-has now reported a lost (Reads now given script h) d events t c octets has) [
          | inl own ↦
              absurd (All-contains IsFree lost (c, Recv a octets) (told-without (loss_event given))
              own)
          | inr later ↦
              then-received now reported a lost (Reads now given script h) d events t
              ∙ ap (λ l. l ++ received_of a t.rest)
              (without-none a lost (told-without (loss_event given)))
              ∙ (reads-once now reported a
              (Behind now reported (why_closed now given script h) given.event)
              (behind-without now reported (why_closed now given script h) given.event) 0
              script.readings _ t.rest c octets t.rest_holds later).0
        ]
