-- A turn is acts, one after the other.
use Rattle.std.proofs.Common.{Bool, List, None, Option, Some, [], ap, append-nil, append_assoc, arith, cond, false, length, refl, subst, suc, sym, true, zero, ℕ, ◌++◌, ◌+◌, ◌<◌, ◌∙◌, ◌∷◌, ◌≡◌, ◌≤◌}
use Rattle.std.proofs.lemmas.Bool.{or_left}
use Rattle.std.proofs.lemmas.List.{length-set}
use Rattle.std.proofs.lemmas.List.Elements.{All-cons, All-nil}
use Rattle.std.proofs.lemmas.List.Quantifiers.{position-Some}
use Rattle.std.specs.declared.net.socket_addr.SocketAddrV4.{SocketAddrV4}
use Rattle.bay_device.specs.Outcomes.{outcome}
use Rattle.bay_device.specs.declared.event.Event.TheVariants.{Close, Open, Recv, Scan}
use Rattle.bay_device.specs.declared.event.Why.TheVariants.{Ended}
use Rattle.bay_trace.specs.Resolving.{borrow_of}
use Rattle.bay_server_turn.specs.Calls.{Accepts, Failure, Call, Closes, Octets, StreamEnd, ReadOutcome, Reads, Silence}
use Rattle.bay_server_turn.specs.Offers.{Offer, OfferOutcome}
use Rattle.bay_server_turn.specs.AssociationStates.{after_full, is_full, is_draining, is_close_reported}
use Rattle.bay_server_turn.specs.Turns.{ServerData, TurnData, Reading, Script, TurnState, accept_calls_at, after_accept, after_each, after_event, after_loss, after_line, after_opening, after_closing, after_reads, after_scan, after_closing_full, after_turn, calls_of_each, close_at_once, event_of, first_full, loss_event, lowest_free_association, calls_on_read, is_open_at, start_closing, event_calls, offer_calls, offer_end, queue_offer, offer_one, on_accept, on_read, turn_queue, read_calls, read_one, after_closing_some_full, after_closing_next_full, calls_closing_full, calls_closing_some_full, calls_closing_next_full, noted_state, state_at, turn_begin, turn_calls, with_device, with_event, with_noted, with_queue}
use Rattle.bay_server_turn.specs.declared.process_input.ProcessEvent.{ProcessEvent}
use Rattle.bay_server_turn.specs.declared.process_input.ProcessReport.{ProcessReport}
use Rattle.bay_server_turn.specs.declared.association_state.AssociationState.TheVariants.{Full, Closed, Steady}
use Rattle.bay_server_turn.specs.declared.turn_report.CloseReason.{CloseReason}
use Rattle.bay_server_turn.specs.declared.turn_report.CloseReason.TheVariants as closing
use Rattle.bay_server_turn_laws.specs.Causes.{is_queue_full, reports_close}
use Rattle.bay_server_turn_laws.specs.Events.{ChosenEvent, accept_events_at, closing_of, outcomes_at, events_of_each, failed_events, events_on_read, line_events, offer_events, read_events, events_closing_full, events_closing_some_full, events_closing_next_full, with_memory, turn_events}
use Rattle.bay_server_turn_laws.specs.Order.{AreClosings, IsClosing, received_events, events_of_read, process_events}
use Rattle.bay_server_turn_laws.proofs.Acts.{Act, Asks, Breaks, Can, Fills, HangsUp, Hears, IsIdle, IsOpenAt, Offers, Parts, Scans, Tells, accepts, after, broken, calls_by, events_by, silent}
use Rattle.bay_server_turn_laws.proofs.CallLemmas.{Offering, offering, some-append}
use Rattle.bay_server_turn_laws.proofs.CalmLemmas.{closing-puts, cut-device, settled-calm}
use Rattle.bay_server_turn_laws.proofs.ClosingLemmas.{Grown, Grown-refl, Grown-trans, grown-kept}
use Rattle.bay_server_turn_laws.proofs.KeepLemmas.{Each, IsNoted, all-concern, keep-act, keep-stepped}
use Rattle.bay_server_turn_laws.proofs.PutLemmas.{Puts}
use Rattle.bay_server_turn_laws.proofs.SameLemmas.{put_answer-commands, put_quiet-same, put_told-same}
use Rattle.bay_server_turn_laws.proofs.StandingLemmas.{AreCalm, all-steady, full-is, goes-calm}
use Rattle.bay_server_turn_laws.proofs.TellsLemmas.{tells-now}

-- ---- what is told in the end

-- what was told at some place is told in the end
reports_close-later : (is : CloseReason → Bool) (a : ℕ) (n m : TurnData) → Grown n m
    → reports_close is a n.closed ≡ true
    → reports_close is a m.closed ≡ true
reports_close-later is a n m g e =
    ap (reports_close is a) g.closed ∙ some-append _ n.closed g.closings
    ∙ or_left (reports_close is a n.closed) (reports_close is a g.closings) e

-- of an association that is closed since its queue is full it is told
cut-told : (now slot : ℕ) (s : TurnState) → state_at slot s ≡ Full
    → reports_close is_queue_full (slot + 1)
    (close_at_once now closing.QueueFull slot s).noted.closed
    ≡ true
unfolding close_at_once
cut-told now slot s full =
    let t : TurnState = after_event now (Close (slot + 1)) s in
    let puts : Puts s t = closing-puts now slot s in
    entry (is_close_reported (noted_state slot t.noted)) t.noted
    (ap is_close_reported (puts.fills.full slot full))
  where
    entry : (b : Bool) (n : TurnData) → b ≡ false
        → reports_close is_queue_full (slot + 1)
        (cond b n (record n { closed = n.closed ++ (slot + 1, closing.QueueFull) ∷ [] })).closed
        ≡ true
    entry true n e = absurd (cc)
    entry false n e = tells-now is_queue_full slot closing.QueueFull n.closed refl

-- ---- one act after the other

module _ (now most : ℕ) where
  -- acts, with their calls and events
  pub data Leads : TurnState → List Call → List ChosenEvent → TurnState → Type 0 where
    Stays : (s : TurnState) → Leads s [] [] s
    Goes : (a : Act) (s : TurnState) (c : List Call) (e : List ChosenEvent) (t : TurnState)
        → length s.noted.states ≡ 8 → Can most a s → Leads (after now a s) c e t
        → Leads s (calls_by a ++ c) (events_by a ++ e) t

  pub both-lead : (s t u : TurnState) (c d : List Call) (e x : List ChosenEvent) → Leads s c e t
      → Leads t d x u → Leads s (c ++ d) (e ++ x) u
  both-lead s t u c d e x (Stays v) m = m
  both-lead s t u c d e x (Goes a v c1 e1 w sized can l) m =
      subst (λ k. Leads v k ((events_by a ++ e1) ++ x) u) (sym (append_assoc (calls_by a) c1 d))
      (subst (λ k. Leads v (calls_by a ++ (c1 ++ d)) k u)
      (sym (append_assoc (events_by a) e1 x))
      (Goes a v (c1 ++ d) (e1 ++ x) u sized can
      (both-lead (after now a v) w u c1 d e1 x l m)))

  -- ---- what holds of acts

  -- each association has its standing still
  any-kept : IsNoted most Each (λ n. Unit {0})
  any-kept = record {
    fills = λ slot n sized p. tt;
    leaving = λ slot why n sized low may p. tt;
    going = λ slot why n sized low may p. tt;
    overflows = λ slot n sized low p. tt;
    parts = λ slot n sized is p. tt;
    orders = λ commands decisions n p. tt;
    refuses = λ code n p. tt;
  }

  pub sized-act : (a : Act) (s : TurnState) → Can most a s → length s.noted.states ≡ 8
      → length (after now a s).noted.states ≡ 8
  sized-act a s can sized =
      (keep-act most Each (λ n. Unit {0}) any-kept now a s can
      (all-concern Each (λ slot. tt) a) (record { sized = sized; holds = tt })).sized

  pub device-act : (a : Act) (s : TurnState)
      → (after now a s).server.device ≡ (outcomes_at now (events_by a) s.server.device).after
  device-act (Asks call) s = refl
  device-act (Hears slot choice octets) s =
      let o = outcome choice now (Recv (slot + 1) (borrow_of octets)) s.server.device in
      (put_answer-commands slot o.answer (with_device o.after s)).device
  device-act (HangsUp slot) s =
      let o = outcome None now (Close (slot + 1)) s.server.device in
      (put_quiet-same o.answer
      (with_device o.after (with_noted (start_closing slot Ended s.noted) s))).device
  device-act (Tells source event) s =
      let o = outcome None now (event_of event) s.server.device in
      (put_told-same o.answer (with_device o.after s)).device
  device-act Scans s =
      let o = outcome None now Scan s.server.device in
      (put_quiet-same o.answer (with_device o.after s)).device
  device-act (Fills slot) s = cut-device now slot closing.QueueFull s
  device-act (Breaks slot calls) s = cut-device now slot closing.LinkFailed s
  device-act (Offers slot calls left) s = refl
  device-act (Parts slot calls) s = refl

  -- what acts come to is told in the end
  pub before : (final : TurnData) (s t : TurnState) (c : List Call) (e : List ChosenEvent)
      → Leads s c e t → Grown t.noted final → Grown s.noted final
  before final s t c e (Stays v) whole = whole
  before final s t c e (Goes a v c1 e1 w sized can l) whole =
      let u : TurnState = after now a v in
      Grown-trans v.noted u.noted final
      (keep-act most Each (Grown v.noted) (grown-kept most v.noted) now a v can
      (all-concern Each (λ slot. tt) a)
      (record { sized = sized; holds = Grown-refl v.noted })).holds
      (before final u w c1 e1 l whole)

  -- ---- the parts of a turn

  -- each of the events closes an association of which it is told in the end that its queue was full
  abbrev pub Cut : TurnData → List ChosenEvent → Type 0
  Cut final = AreClosings (λ a. reports_close is_queue_full a final.closed)

  record Settles (s : TurnState) (c : List Call) (e : List ChosenEvent) (t : TurnState)
      : Type 0 where
    leads : Leads s c e t
    closes : (final : TurnData) → Grown t.noted final → Cut final e

  next-settles : (o : Option ℕ) (s : TurnState) (f : TurnState → TurnState)
      (calls : TurnState → List Call) (events : TurnState → List ChosenEvent)
      → first_full s.noted ≡ o
      → length s.noted.states ≡ 8
      → ((t : TurnState) → length t.noted.states ≡ 8 → Settles t (calls t) (events t) (f t))
      → Settles s (calls_closing_next_full now o s calls) (events_closing_next_full now o s events)
      (after_closing_next_full now o s f)
  next-settles None s f calls events is sized more =
      record { leads = Stays s; closes = λ final whole. All-nil (IsClosing _) }
  next-settles (Some slot) s f calls events is sized more =
      let found = position-Some is_full s.noted.states slot Steady is in
      let full = full-is (state_at slot s) found.1 in
      let t : TurnState = close_at_once now closing.QueueFull slot s in
      let can : Can most (Fills slot) s =
      (subst (λ (k : ℕ). slot < k) sized found.0, full) in
      let later = more t (sized-act (Fills slot) s can sized) in
      record {
        leads = Goes (Fills slot) s (calls t) (events t) (f t) sized can later.leads;
        closes = λ final whole.
            let is_one : IsClosing (λ a. reports_close is_queue_full a final.closed)
            (closing_of slot) = (
              slot + 1,
              refl,
              reports_close-later is_queue_full (slot + 1) t.noted final
                  (before final t (f t) (calls t) (events t) later.leads whole)
                  (cut-told now slot s full),
            ) in
            All-cons (IsClosing (λ a. reports_close is_queue_full a final.closed))
            (closing_of slot)
            (events t) is_one (later.closes final whole);
      }

  settles-in : (count : ℕ) (s : TurnState) → length s.noted.states ≡ 8
      → Settles s (calls_closing_some_full now count s) (events_closing_some_full now count s)
      (after_closing_some_full now count s)
  settles-in zero s sized =
      record { leads = Stays s; closes = λ final whole. All-nil (IsClosing _) }
  settles-in (suc count) s sized =
      next-settles (first_full s.noted) s (after_closing_some_full now count)
      (calls_closing_some_full now count)
      (events_closing_some_full now count) refl sized (settles-in count)

  settles : (s : TurnState) → length s.noted.states ≡ 8
      → Settles s (calls_closing_full now s) (events_closing_full now s) (after_closing_full now s)
  unfolding after_closing_full calls_closing_full events_closing_full
  settles s sized = settles-in 8 s sized

  leads-sized : (s t : TurnState) (c : List Call) (e : List ChosenEvent) → Leads s c e t
      → length s.noted.states ≡ 8 → length t.noted.states ≡ 8
  leads-sized s t c e (Stays v) sized = sized
  leads-sized s t c e (Goes a v c1 e1 w is can l) sized =
      leads-sized (after now a v) w c1 e1 l (sized-act a v can is)

  -- acts, behind which each reply fitted that is still to be sent
  pub record Passes (s : TurnState) (c : List Call) (e : List ChosenEvent) (t : TurnState)
      : Type 0 where
    pub leads : Leads s c e t
    pub sized : length t.noted.states ≡ 8
    pub calm : AreCalm t.noted.states

  passes-both : (s t u : TurnState) (c d : List Call) (e x : List ChosenEvent) → Passes s c e t
      → Passes t d x u → Passes s (c ++ d) (e ++ x) u
  passes-both s t u c d e x m n = record {
    leads = both-lead s t u c d e x m.leads n.leads;
    sized = n.sized;
    calm = n.calm;
  }

  -- such acts, of which these events come first; behind them associations are closed
  pub record Through (s : TurnState) (first : List ChosenEvent) (c : List Call)
      (e : List ChosenEvent) (t : TurnState) : Type 0 where
    pub passes : Passes s c e t
    pub cut : List ChosenEvent
    pub is : e ≡ first ++ cut
    pub closes : (final : TurnData) → Grown t.noted final → Cut final cut

  pub settled-through : (s : TurnState) → length s.noted.states ≡ 8
      → Through s [] (calls_closing_full now s) (events_closing_full now s)
      (after_closing_full now s)
  settled-through s sized =
      let m = settles s sized in
      record {
        passes = record {
          leads = m.leads;
          sized = leads-sized s (after_closing_full now s) (calls_closing_full now s)
              (events_closing_full now s)
              m.leads sized;
          calm = settled-calm now s sized;
        };
        cut = events_closing_full now s;
        is = refl;
        closes = m.closes;
      }

  -- an act, and what did not fit then
  pub then-through : (a : Act) (s : TurnState) → length s.noted.states ≡ 8 → Can most a s
      → (let t : TurnState = after now a s in
      Through s (events_by a) (calls_by a ++ calls_closing_full now t)
      (events_by a ++ events_closing_full now t) (after_closing_full now t))
  then-through a s sized can =
      let t : TurnState = after now a s in
      let m = settled-through t (sized-act a s can sized) in
      record {
        passes = record {
          leads = Goes a s (calls_closing_full now t) (events_closing_full now t)
              (after_closing_full now t) sized can
              m.passes.leads;
          sized = m.passes.sized;
          calm = m.passes.calm;
        };
        cut = m.cut;
        is = ap (λ l. events_by a ++ l) m.is;
        closes = m.closes;
      }

  -- one with no event, behind which no association is closed
  quietly : (s t : TurnState) (c : List Call) → Leads s c [] t → length t.noted.states ≡ 8
      → AreCalm t.noted.states → Through s [] c [] t
  quietly s t c leads sized calm = record {
    passes = record { leads = leads; sized = sized; calm = calm };
    cut = [];
    is = refl;
    closes = λ final whole. All-nil (IsClosing _);
  }

  stays-through : (s : TurnState) → length s.noted.states ≡ 8 → AreCalm s.noted.states
      → Through s [] [] [] s
  stays-through s sized calm = quietly s s [] (Stays s) sized calm

  asks-through : (call : Call) (s : TurnState) → IsIdle call → length s.noted.states ≡ 8
      → AreCalm s.noted.states → Through s [] (call ∷ []) [] s
  asks-through call s idle sized calm =
      quietly s s (call ∷ []) (Goes (Asks call) s [] [] s sized idle (Stays s)) sized calm

  heard-through : (slot : ℕ) (choice : Option ℕ) (heard : ReadOutcome) (s : TurnState)
      → IsOpenAt most slot s → length s.noted.states ≡ 8 → AreCalm s.noted.states
      → Through s (received_events (slot + 1) choice heard)
      (Reads (slot + 1) 4096 heard ∷ calls_on_read now slot choice heard s)
      (events_on_read now slot choice heard s) (on_read now slot choice heard s)
  heard-through slot choice (Octets octets) s up sized calm =
      then-through (Hears slot choice octets) s sized up
  heard-through slot choice Silence s up sized calm =
      asks-through (Reads (slot + 1) 4096 Silence) s (silent slot) sized calm
  heard-through slot choice StreamEnd s up sized calm = then-through (HangsUp slot) s sized up
  heard-through slot choice Failure s up sized calm =
      then-through (Breaks slot (Reads (slot + 1) 4096 Failure ∷ [])) s sized
      (turn_queue slot s, record { is_open = up; offered = broken slot (turn_queue slot s) })

  pub read-through : (slot : ℕ) (r : Reading) (s : TurnState) → slot < most
      → length s.noted.states ≡ 8 → AreCalm s.noted.states
      → Through s (events_of_read slot r s.server.device) (read_calls now slot r s)
      (read_events now slot r s) (read_one now slot r s)
  read-through slot r s low sized calm = by-up (is_open_at slot s) refl
    where
      by-up : (up : Bool) → is_open_at slot s ≡ up
          → Through s (cond up (received_events (slot + 1) r.choice r.heard) [])
          (cond up (Reads (slot + 1) 4096 r.heard
          ∷ calls_on_read now slot r.choice r.heard s) [])
          (cond up (events_on_read now slot r.choice r.heard s) [])
          (cond up (on_read now slot r.choice r.heard s) s)
      by-up true is =
          heard-through slot r.choice r.heard s
          (record { low = low; up = is; calm = calm slot }) sized calm
      by-up false is = stays-through s sized calm

  pub line-through : (source : List ℕ) (line : Option ProcessEvent) (s : TurnState)
      → length s.noted.states ≡ 8 → AreCalm s.noted.states
      → Through s (process_events line) (event_calls now source line s)
      (line_events now source line s) (with_event now source line s)
  line-through source None s sized calm = stays-through s sized calm
  line-through source (Some event) s sized calm = then-through (Tells source event) s sized tt

  -- an association of which a write fails is closed
  abbrev pub offered_first : ℕ → Offer → TurnState → List ChosenEvent
  offered_first slot o s =
      cond (is_draining (state_at slot s)) []
      (cond (is_open_at slot s) (cond (queue_offer slot o s).failed (closing_of slot ∷ []) []) [])

  pub offer-through : (slot : ℕ) (o : Offer) (s : TurnState) → slot < most
      → length s.noted.states ≡ 8 → AreCalm s.noted.states
      → Through s (offered_first slot o s) (offer_calls now slot o s) (offer_events now slot o s)
      (offer_one now slot o s)
  offer-through slot o s low sized calm =
      by-standing (is_draining (state_at slot s)) (is_open_at slot s) made.failed refl refl offered
    where
      made : OfferOutcome
      made = queue_offer slot o s

      offered : Offering slot (turn_queue slot s) made.left made.failed made.calls
      offered = offering slot (turn_queue slot s) o.takes o.fails

      by-standing : (leaving up failed : Bool) → is_draining (state_at slot s) ≡ leaving
          → is_open_at slot s ≡ up → Offering slot (turn_queue slot s) made.left failed made.calls
          → Through s (cond leaving [] (cond up (cond failed (closing_of slot ∷ []) []) []))
          (cond leaving (made.calls ++ Closes (slot + 1) ∷ [])
          (cond up (made.calls ++ offer_end now slot failed s) []))
          (cond leaving [] (cond up (failed_events now slot failed s) []))
          (cond leaving (after_closing slot s) (cond up (cond failed
          (after_closing_full now (close_at_once now closing.LinkFailed slot s))
          (with_queue slot made.left s)) s))
      by-standing true up failed is open_is m =
          quietly s (after_closing slot s) (made.calls ++ Closes (slot + 1) ∷ [])
          (subst (λ l. Leads s l [] (after_closing slot s))
          (append-nil (made.calls ++ Closes (slot + 1) ∷ []))
          (Goes (Parts slot made.calls) s [] [] (after_closing slot s) sized
          (record { leaves = is; left = made.left; failed = failed; offered = m })
          (Stays (after_closing slot s)))) (length-set s.noted.states slot Closed ∙ sized)
          (goes-calm s.noted.states slot calm)
      by-standing false true true is open_is m =
          let t : TurnState = close_at_once now closing.LinkFailed slot s in
          subst (λ l. Through s (closing_of slot ∷ []) l
          (closing_of slot ∷ events_closing_full now t)
          (after_closing_full now t))
          (append_assoc made.calls (Closes (slot + 1) ∷ []) (calls_closing_full now t))
          (then-through (Breaks slot made.calls) s sized (
            made.left,
            record {
              is_open = record { low = low; up = open_is; calm = calm slot };
              offered = m;
            },
          ))
      by-standing false true false is open_is m =
          quietly s (with_queue slot made.left s) (made.calls ++ [])
          (Goes (Offers slot made.calls made.left) s [] [] (with_queue slot made.left s) sized
          (record {
            is_open = record { low = low; up = open_is; calm = calm slot };
            offered = m;
          }) (Stays (with_queue slot made.left s))) sized calm
      by-standing false false failed is open_is m = stays-through s sized calm

  pub each-passes : {C : Type 0} (f : ℕ → C → TurnState → TurnState)
      (calls : ℕ → C → TurnState → List Call) (events : ℕ → C → TurnState → List ChosenEvent)
      → ((slot : ℕ) (c : C) (s : TurnState) → slot < most → length s.noted.states ≡ 8
      → AreCalm s.noted.states → Passes s (calls slot c s) (events slot c s) (f slot c s))
      → (slot : ℕ) (cs : List C) (s : TurnState) → slot + length cs ≤ most
      → length s.noted.states ≡ 8 → AreCalm s.noted.states
      → Passes s (calls_of_each f calls slot cs s) (events_of_each f events slot cs s)
      (after_each f slot cs s)
  each-passes f calls events step slot [] s few sized calm =
      record { leads = Stays s; sized = sized; calm = calm }
  each-passes f calls events step slot (c ∷ cs) s few sized calm =
      let t : TurnState = f slot c s in
      let m = step slot c s (omega arith) sized calm in
      passes-both s t (after_each f (slot + 1) cs t) (calls slot c s)
      (calls_of_each f calls (slot + 1) cs t) (events slot c s)
      (events_of_each f events (slot + 1) cs t) m
      (each-passes f calls events step (slot + 1) cs t (omega arith) m.sized m.calm)

  pub reads-pass : (slot : ℕ) (rs : List Reading) (s : TurnState) → slot + length rs ≤ most
      → length s.noted.states ≡ 8 → AreCalm s.noted.states
      → Passes s (calls_of_each (read_one now) (read_calls now) slot rs s)
      (events_of_each (read_one now) (read_events now) slot rs s)
      (after_each (read_one now) slot rs s)
  reads-pass =
      each-passes (read_one now) (read_calls now) (read_events now)
      (λ slot r s low sized calm. (read-through slot r s low sized calm).passes)

  pub offers-pass : (slot : ℕ) (os : List Offer) (s : TurnState) → slot + length os ≤ most
      → length s.noted.states ≡ 8 → AreCalm s.noted.states
      → Passes s (calls_of_each (offer_one now) (offer_calls now) slot os s)
      (events_of_each (offer_one now) (offer_events now) slot os s)
      (after_each (offer_one now) slot os s)
  offers-pass =
      each-passes (offer_one now) (offer_calls now) (offer_events now)
      (λ slot o s low sized calm. (offer-through slot o s low sized calm).passes)

  -- ---- a whole turn

  -- before the first act: the connection that waited was taken and opened, or none
  pub data Begins (h : ServerData) : TurnState → List Call → List ChosenEvent → Type 0 where
    Quietly : Begins h (turn_begin h) [] []
    Opening : (slot : ℕ) (from : SocketAddrV4) → lowest_free_association h ≡ Some slot
        → Begins h (after_opening now slot (turn_begin h))
        (Accepts (slot + 1) (Some (Some from)) ∷ []) (with_memory (Open (slot + 1)) ∷ [])

  -- a beginning, and acts behind it
  pub record Turned (h : ServerData) (taken : Option (Option SocketAddrV4)) (c : List Call)
      (e : List ChosenEvent) (t : TurnState) : Type 0 where
    pub start : TurnState
    pub calls : List Call
    pub events : List ChosenEvent
    pub begins : Begins h start calls events
    pub more : List Call
    pub further : List ChosenEvent
    pub passes : Passes start more further t
    pub opens : (slot : ℕ) (from : SocketAddrV4) → lowest_free_association h ≡ Some slot
        → taken ≡ Some (Some from) → start ≡ after_opening now slot (turn_begin h)
    pub calls_are : calls ++ more ≡ c
    pub events_are : events ++ further ≡ e

  pub opening-sized : (slot : ℕ) (h : ServerData)
      → length (after_opening now slot (turn_begin h)).noted.states ≡ 8
  opening-sized slot h =
      keep-stepped (λ n. length n.states ≡ 8)
      (λ q n sized. length-set n.states q (after_full (noted_state q n)) ∙ sized) now
      (Open (slot + 1)) (turn_begin h) refl

  -- nothing is opened
  quiet-turned : (h : ServerData) (taken : Option (Option SocketAddrV4)) (calls : List Call)
      → Passes (turn_begin h) calls [] (turn_begin h)
      → ((slot : ℕ) (from : SocketAddrV4) → lowest_free_association h ≡ Some slot
      → taken ≡ Some (Some from) → ⊥)
      → Turned h taken calls [] (turn_begin h)
  quiet-turned h taken calls passes none = record {
    start = turn_begin h;
    calls = [];
    events = [];
    begins = Quietly;
    more = calls;
    further = [];
    passes = passes;
    opens = λ slot from free took. absurd (none slot from free took);
    calls_are = refl;
    events_are = refl;
  }

  begun-calm : (h : ServerData) → AreCalm (turn_begin h).noted.states
  begun-calm h i = ap is_full (all-steady i)

  pub accept-turned : (h : ServerData) (slot : Option ℕ) (taken : Option (Option SocketAddrV4))
      → lowest_free_association h ≡ slot
      → Turned h taken (accept_calls_at now slot taken (turn_begin h))
      (accept_events_at now slot taken (turn_begin h)) (on_accept now slot taken (turn_begin h))
  accept-turned h None taken is =
      quiet-turned h taken [] (stays-through (turn_begin h) refl (begun-calm h)).passes
      (λ q from free took. cc)
  accept-turned h (Some slot) None is =
      quiet-turned h None (Accepts (slot + 1) None ∷ [])
      (asks-through (Accepts (slot + 1) None) (turn_begin h) (accepts (slot + 1) None) refl
      (begun-calm h)).passes (λ q from free took. cc)
  accept-turned h (Some slot) (Some None) is =
      quiet-turned h (Some None) (Accepts (slot + 1) (Some None) ∷ [])
      (asks-through (Accepts (slot + 1) (Some None)) (turn_begin h)
      (accepts (slot + 1) (Some None)) refl (begun-calm h)).passes (λ q from free took. cc)
  accept-turned h (Some slot) (Some (Some from)) is =
      let t : TurnState = after_opening now slot (turn_begin h) in
      record {
        start = t;
        calls = Accepts (slot + 1) (Some (Some from)) ∷ [];
        events = with_memory (Open (slot + 1)) ∷ [];
        begins = Opening slot from is;
        more = calls_closing_full now t;
        further = events_closing_full now t;
        passes = (settled-through t (opening-sized slot h)).passes;
        opens = λ q from free took.
            let same : slot ≡ q = let f : Some slot ≡ Some q = sym is ∙ free in cc in
            ap (λ k. after_opening now k (turn_begin h)) same;
        calls_are = refl;
        events_are = refl;
      }

  then-turned : (h : ServerData) (taken : Option (Option SocketAddrV4)) (t u : TurnState)
      (c d : List Call) (e x : List ChosenEvent)
      → Turned h taken c e t
      → (length t.noted.states ≡ 8 → AreCalm t.noted.states → Passes t d x u)
      → Turned h taken (c ++ d) (e ++ x) u
  then-turned h taken t u c d e x m n = record {
    start = m.start;
    calls = m.calls;
    events = m.events;
    begins = m.begins;
    more = m.more ++ d;
    further = m.further ++ x;
    passes = passes-both m.start t u m.more d m.further x m.passes
        (n m.passes.sized m.passes.calm);
    opens = m.opens;
    calls_are = sym (append_assoc m.calls m.more d) ∙ ap (λ l. l ++ d) m.calls_are;
    events_are = sym (append_assoc m.events m.further x) ∙ ap (λ l. l ++ x) m.events_are;
  }

  pub turn-is-acts : (given : ProcessReport) (script : Script) (h : ServerData)
      → length script.readings ≤ most → length script.offers ≤ most
      → Turned h script.accepted (turn_calls now given script h) (turn_events now given script h)
      (after_turn now given script h)
  turn-is-acts given script h reads offers =
      let s1 : TurnState = after_accept now script h in
      let z : TurnState = after_loss now given script h in
      let s2 : TurnState = after_reads now given script h in
      let s3 : TurnState = after_line now given script h in
      let s4 : TurnState = after_scan now given script h in
      then-turned h script.accepted s4 (after_turn now given script h) _ _ _ _
      (then-turned h script.accepted s3 s4 _ _ _ _
      (then-turned h script.accepted s2 s3 _ _ _ _
      (then-turned h script.accepted z s2 _ _ _ _
      (then-turned h script.accepted s1 z _ _ _ _
      (accept-turned h (lowest_free_association h) script.accepted refl)
      (λ sized calm. (line-through script.source (loss_event given) s1 sized calm).passes))
      (reads-pass 0 script.readings z (omega (arith, reads))))
      (λ sized calm. (line-through script.source given.event s2 sized calm).passes))
      (λ sized calm. (then-through Scans s3 sized tt).passes))
      (offers-pass 0 script.offers s4 (omega (arith, offers)))
