-- The events of a turn are in their order.
use Rattle.std.proofs.Common.{Bool, List, None, Option, Some, [], ap, append_assoc, arith, cond, false, length, refl, subst, sym, true, ℕ, ◌++◌, ◌+◌, ◌||◌, ◌∙◌, ◌∷◌, ◌≡◌, ◌≤◌}
use Rattle.std.proofs.lemmas.Bool.{or_left, or_right}
use Rattle.std.proofs.lemmas.List.Elements.{All-append, All-cons, All-nil, All-weaker}
use Rattle.std.specs.declared.net.socket_addr.SocketAddrV4.{SocketAddrV4}
use Rattle.bay_device.specs.Device.{State}
use Rattle.bay_device.specs.Outcomes.{outcome}
use Rattle.bay_device.specs.declared.event.Event.TheVariants.{Open}
use Rattle.bay_server_turn.specs.Calls.{Call, Closes}
use Rattle.bay_server_turn.specs.Offers.{Offer, OfferOutcome}
use Rattle.bay_server_turn.specs.AssociationStates.{is_draining}
use Rattle.bay_server_turn.specs.Turns.{ServerData, TurnData, Reading, Script, TurnState, after_accept, after_each, after_loss, after_line, after_opening, after_reads, after_scan, after_closing_full, after_turn, calls_of_each, loss_event, lowest_free_association, is_open_at, offer_calls, offer_end, queue_offer, offer_one, on_accept, turn_queue, read_one, state_at, turn_begin, turn_calls, with_device}
use Rattle.bay_server_turn.specs.declared.process_input.ProcessReport.{ProcessReport}
use Rattle.bay_server_turn_laws.specs.Causes.{fails_for, has_some, is_queue_full, reports_close}
use Rattle.bay_server_turn_laws.specs.Events.{ChosenEvent, accept_events, accept_events_at, closing_of, outcomes_at, events_of_each, line_events, offer_events, read_events, scan_events, events_closing_full, with_memory}
use Rattle.bay_server_turn_laws.specs.Order.{AreClosings, AreInOrder, IsClosing, IsInOrder, FirstThen, ReadsThen, open_events_at}
use Rattle.bay_server_turn_laws.proofs.Acts.{Scans}
use Rattle.bay_server_turn_laws.proofs.CallLemmas.{Offering, offering, some-append}
use Rattle.bay_server_turn_laws.proofs.ClosingLemmas.{Grown, Grown-refl}
use Rattle.bay_server_turn_laws.proofs.SameLemmas.{put_quiet-same}
use Rattle.bay_server_turn_laws.proofs.StandingLemmas.{AreCalm}
use Rattle.bay_server_turn_laws.proofs.KeptLemmas.{leads-device}
use Rattle.bay_server_turn_laws.proofs.WalkLemmas.{Cut, Through, accept-turned, before, line-through, offer-through, offered_first, offers-pass, opening-sized, read-through, reads-pass, settled-through, then-through}

-- the notes at the end of the turn
module _ (now : ℕ) (final : TurnData) where
  abbrev Whole : TurnState → Type 0
  Whole t = Grown t.noted final

  -- one part and then the rest
  then-part : (Rest : State → List ChosenEvent → Type 0) (s t : TurnState)
      (first : List ChosenEvent) (c : List Call) (e rest : List ChosenEvent)
      → Through now 8 s first c e t → Whole t → Rest t.server.device rest
      → FirstThen now final.closed first Rest s.server.device (e ++ rest)
  then-part Rest s t first c e rest m whole h = record {
    cut = m.cut;
    rest = rest;
    is = ap (λ l. l ++ rest) m.is;
    closings = m.closes final whole;
    rest_holds = subst (λ d. Rest d rest)
        (leads-device now 8 s t c e m.passes.leads
        ∙ ap (λ l. (outcomes_at now l s.server.device).after) m.is) h;
  }

  then-nothing : (Rest : State → List ChosenEvent → Type 0) (s : TurnState)
      (rest : List ChosenEvent)
      → Rest s.server.device rest → FirstThen now final.closed [] Rest s.server.device rest
  then-nothing Rest s rest h =
      record {
        cut = [];
        rest = rest;
        is = refl;
        closings = All-nil (IsClosing _);
        rest_holds = h;
      }

  then-accept : (Rest : State → List ChosenEvent → Type 0) (h : ServerData) (slot : Option ℕ)
      (taken : Option (Option SocketAddrV4)) (rest : List ChosenEvent)
      → Whole (on_accept now slot taken (turn_begin h))
      → Rest (on_accept now slot taken (turn_begin h)).server.device rest
      → FirstThen now final.closed (open_events_at slot taken) Rest h.device
      (accept_events_at now slot taken (turn_begin h) ++ rest)
  then-accept Rest h None taken rest whole r = then-nothing Rest (turn_begin h) rest r
  then-accept Rest h (Some slot) None rest whole r = then-nothing Rest (turn_begin h) rest r
  then-accept Rest h (Some slot) (Some None) rest whole r =
      then-nothing Rest (turn_begin h) rest r
  then-accept Rest h (Some slot) (Some (Some from)) rest whole r =
      let t : TurnState = after_opening now slot (turn_begin h) in
      let o = outcome None now (Open (slot + 1)) h.device in
      let m = settled-through now 8 t (opening-sized now 8 slot h) in
      record {
        cut = m.cut;
        rest = rest;
        is = ap (λ l. (with_memory (Open (slot + 1)) ∷ l) ++ rest) m.is;
        closings = m.closes final whole;
        rest_holds = subst (λ d. Rest d rest)
            (leads-device now 8 t (after_closing_full now t) _ _ m.passes.leads
            ∙ ap (λ d. (outcomes_at now (events_closing_full now t) d).after)
            (put_quiet-same o.answer (with_device o.after (turn_begin h))).device
            ∙ ap (λ l. (outcomes_at now l o.after).after) m.is) r;
      }

  then-reads : (Rest : State → List ChosenEvent → Type 0) (slot : ℕ) (rs : List Reading)
      (s : TurnState) (rest : List ChosenEvent) → slot + length rs ≤ 8
      → length s.noted.states ≡ 8 → AreCalm s.noted.states
      → Whole (after_each (read_one now) slot rs s)
      → Rest (after_each (read_one now) slot rs s).server.device rest
      → ReadsThen now final.closed slot rs Rest s.server.device
      (events_of_each (read_one now) (read_events now) slot rs s ++ rest)
  then-reads Rest slot [] s rest few sized calm whole h = h
  then-reads Rest slot (r ∷ rs) s rest few sized calm whole h =
      let t : TurnState = read_one now slot r s in
      let m = read-through now 8 slot r s (omega arith) sized calm in
      let behind = events_of_each (read_one now) (read_events now) (slot + 1) rs t in
      subst (ReadsThen now final.closed slot (r ∷ rs) Rest s.server.device)
      (sym (append_assoc (read_events now slot r s) behind rest))
      (then-part (ReadsThen now final.closed (slot + 1) rs Rest) s t _ _ _ (behind ++ rest) m
      (before now 8 final t (after_each (read_one now) (slot + 1) rs t) _ _
      (reads-pass now 8 (slot + 1) rs t (omega arith) m.passes.sized m.passes.calm).leads whole)
      (then-reads Rest (slot + 1) rs t rest (omega arith) m.passes.sized m.passes.calm whole h))

  -- ---- what is offered

  module _ (has_reason : ℕ → Bool)
      (full : (a : ℕ) → reports_close is_queue_full a final.closed ≡ true → has_reason a ≡ true)
    where
      cut-reason : (events : List ChosenEvent) → Cut now 8 final events
          → AreClosings has_reason events
      cut-reason events h =
          All-weaker (IsClosing _) (IsClosing has_reason)
          (λ e c. let is_one : IsClosing has_reason e = (c.0, c.1, full c.0 c.2) in is_one) events h

      -- an association of which a write fails is closed
      first-closes : (slot : ℕ) (o : Offer) (s : TurnState)
          → ((a : ℕ) → has_some (fails_for a) (offer_calls now slot o s) ≡ true
          → has_reason a ≡ true)
          → AreClosings has_reason (offered_first now 8 slot o s)
      first-closes slot o s =
          by-standing (is_draining (state_at slot s)) (is_open_at slot s) made.failed
          (offering slot (turn_queue slot s) o.takes o.fails)
        where
          made : OfferOutcome
          made = queue_offer slot o s

          by-standing : (leaving up failed : Bool)
              → Offering slot (turn_queue slot s) made.left failed made.calls
              → ((a : ℕ) → has_some (fails_for a)
              (cond leaving (made.calls ++ Closes (slot + 1) ∷ [])
              (cond up (made.calls ++ offer_end now slot failed s) [])) ≡ true
              → has_reason a ≡ true)
              → AreClosings has_reason (cond leaving []
              (cond up (cond failed (closing_of slot ∷ []) []) []))
          by-standing true up failed m reason = All-nil (IsClosing has_reason)
          by-standing false true true m reason =
              let is_one : IsClosing has_reason (closing_of slot) = (
                slot + 1,
                refl,
                reason (slot + 1) (some-append _ made.calls (offer_end now slot true s)
                    ∙ or_left _ _ m.own.fails),
              ) in
              All-cons (IsClosing has_reason) (closing_of slot) [] is_one
              (All-nil (IsClosing has_reason))
          by-standing false true false m reason = All-nil (IsClosing has_reason)
          by-standing false false failed m reason = All-nil (IsClosing has_reason)

      offers-close : (slot : ℕ) (cs : List Offer) (s : TurnState) → slot + length cs ≤ 8
          → length s.noted.states ≡ 8 → AreCalm s.noted.states
          → Whole (after_each (offer_one now) slot cs s)
          → ((a : ℕ) → has_some (fails_for a)
          (calls_of_each (offer_one now) (offer_calls now) slot cs s) ≡ true → has_reason a ≡ true)
          → AreClosings has_reason (events_of_each (offer_one now) (offer_events now) slot cs s)
      offers-close slot [] s few sized calm whole reason = All-nil (IsClosing has_reason)
      offers-close slot (c ∷ cs) s few sized calm whole reason =
          let t : TurnState = offer_one now slot c s in
          let calls = offer_calls now slot c s in
          let behind = calls_of_each (offer_one now) (offer_calls now) (slot + 1) cs t in
          let m = offer-through now 8 slot c s (omega arith) sized calm in
          let later =
          offers-pass now 8 (slot + 1) cs t (omega arith) m.passes.sized m.passes.calm in
          All-append (IsClosing has_reason) (offer_events now slot c s)
          (events_of_each (offer_one now) (offer_events now) (slot + 1) cs t)
          (subst (AreClosings has_reason) (sym m.is)
          (All-append (IsClosing has_reason) (offered_first now 8 slot c s) m.cut
          (first-closes slot c s
          (λ a e. reason a (some-append (fails_for a) calls behind ∙ or_left _ _ e)))
          (cut-reason m.cut (m.closes final (before now 8 final t
          (after_each (offer_one now) (slot + 1) cs t) _ _ later.leads whole)))))
          (offers-close (slot + 1) cs t (omega arith) m.passes.sized m.passes.calm whole
          (λ a e. reason a (some-append (fails_for a) calls behind ∙ or_right _ _ e)))

-- ---- a whole turn

right-nested : (a b c d e f : List ChosenEvent)
    → a ++ b ++ c ++ d ++ e ++ f ≡ a ++ (b ++ (c ++ (d ++ (e ++ f))))
right-nested a b c d e f =
    append_assoc (a ++ b ++ c ++ d) e f ∙ append_assoc (a ++ b ++ c) d (e ++ f)
    ∙ append_assoc (a ++ b) c (d ++ (e ++ f)) ∙ append_assoc a b (c ++ (d ++ (e ++ f)))

-- a call failed for the association
record Fails (a : ℕ) (calls : List Call) : Type 0 where
  is : has_some (fails_for a) calls ≡ true

fails-later : (a : ℕ) (xs ys : List Call) → Fails a ys → Fails a (xs ++ ys)
fails-later a xs ys f =
    record { is = some-append (fails_for a) xs ys ∙ or_right _ _ f.is }

pub in-order : (now : ℕ) (given : ProcessReport) (script : Script) (h : ServerData)
    → length script.readings ≤ 8 → length script.offers ≡ 8 → IsInOrder now given script h
in-order now given script h readings offers =
    let s1 : TurnState = after_accept now script h in
    let z : TurnState = after_loss now given script h in
    let s2 : TurnState = after_reads now given script h in
    let s3 : TurnState = after_line now given script h in
    let s4 : TurnState = after_scan now given script h in
    let s5 : TurnState = after_turn now given script h in
    let final = s5.noted in
    let reported = final.closed in
    let why = λ (a : ℕ).
    reports_close is_queue_full a reported
    || has_some (fails_for a) (turn_calls now given script h) in
    let lost = loss_event given in
    let line = given.event in
    let m1 = (accept-turned now 8 h (lowest_free_association h) script.accepted refl).passes in
    let m0 = line-through now 8 script.source lost s1 m1.sized m1.calm in
    let p0 = m0.passes in
    let p2 =
    reads-pass now 8 0 script.readings z (omega (arith, readings)) p0.sized p0.calm in
    let m3 = line-through now 8 script.source line s2 p2.sized p2.calm in
    let p3 = m3.passes in
    let m4 = then-through now 8 Scans s3 p3.sized tt in
    let p4 = m4.passes in
    let p5 = offers-pass now 8 0 script.offers s4 (omega (arith, offers)) p4.sized p4.calm in
    let w4 = before now 8 final s4 s5 _ _ p5.leads (Grown-refl final) in
    let w3 = before now 8 final s3 s4 _ _ p4.leads w4 in
    let w2 = before now 8 final s2 s3 _ _ p3.leads w3 in
    let w0 = before now 8 final z s2 _ _ p2.leads w2 in
    let w1 = before now 8 final s1 z _ _ p0.leads w0 in
    let last = events_of_each (offer_one now) (offer_events now) 0 script.offers s4 in
    let failing = calls_of_each (offer_one now) (offer_calls now) 0 script.offers s4 in
    let closings : AreClosings why last =
    offers-close now final why (λ a e. or_left _ _ e) 0 script.offers s4 (omega (arith, offers))
    p4.sized p4.calm (Grown-refl final)
    (λ a e.
    let whole : Fails a (turn_calls now given script h) =
    fails-later a _ failing (record { is = e }) in
    or_right (reports_close is_queue_full a reported) _ whole.is) in
    let opens = accept_events now script.accepted (turn_begin h) in
    let losses = line_events now script.source lost s1 in
    let reads = events_of_each (read_one now) (read_events now) 0 script.readings z in
    let lines = line_events now script.source line s2 in
    let scans = scan_events now s3 in
    subst (AreInOrder now reported why given script h.device)
    (sym (right-nested opens losses reads lines scans last))
    (then-accept now final _ h (lowest_free_association h) script.accepted
    (losses ++ (reads ++ (lines ++ (scans ++ last)))) w1
    (then-part now final _ s1 z _ _ _ (reads ++ (lines ++ (scans ++ last))) m0 w0
    (then-reads now final _ 0 script.readings z (lines ++ (scans ++ last))
    (omega (arith, readings)) p0.sized p0.calm w2
    (then-part now final _ s2 s3 _ _ _ (scans ++ last) m3 w3
    (then-part now final (λ f rest. AreClosings why rest) s3 s4 _ _ _ last m4 w4 closings)))))
