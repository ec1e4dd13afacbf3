-- The parts of a turn.
use Rattle.std.proofs.Common.{◌≡◌, ℕ, ◌+◌, Bool, true, false, Option, Some, None, Result, Ok, Err, List, [], ◌∷◌, ◌++◌, drop, refl, ap, sym, ◌∙◌, subst}
use Rattle.std.specs.declared.net.socket_addr.SocketAddrV4.{SocketAddrV4}
use Rattle.bay_server_turn.specs.Calls.{Call, Accepts, Reads, Closes, MakesCalls, ReadOutcome, Silence, Octets, StreamEnd, Failure, read_outcome_of}
use Rattle.bay_server_turn.specs.Offers.{Offer}
use Rattle.bay_server_turn.specs.Served.{Performs, PerformsEach, Offers, Opens, Serves, HandlesOctets, reading_count}
use Rattle.bay_server_turn.specs.AssociationStates.{is_draining}
use Rattle.bay_server_turn.specs.Turns.{ServerData, TurnData, Script, TurnState, accept_calls_at, after_accept, after_each, after_loss, after_line, loss_event, after_reads, after_scan, turn_begin, calls_of_each, close_at_once, lowest_free_association, calls_on_read, after_end, is_open_at, event_calls, with_event, offer_calls, offer_end, queue_offer, offer_one, on_accept, on_read, opening_at, after_opening, after_closing, turn_queue, read_calls, read_one, scan_calls, after_turn_scan, after_closing_full, calls_closing_full, state_at, after_turn, turn_state, with_queue}
use Rattle.bay_server_turn.specs.declared.link.ReadResult.{ReadResult}
use Rattle.bay_device.specs.Device.{expired_at}
use Rattle.bay_server_turn.specs.declared.process_input.ProcessEvent.{ProcessEvent}
use Rattle.bay_server_turn.specs.declared.process_input.ProcessReport.{ProcessReport}
use Rattle.bay_server_turn.specs.declared.turn_report.CloseReason.TheVariants.{LinkFailed}
use Rattle.bay_server_turn.specs.declared.turn_report.Turn.{Turn}
use Rattle.bay_server_turn.proofs.TalkLemmas.{Talks-one, Talks-append}

pub heard-as : {E : Type 0} (r : Result ReadResult E) (got same : ReadResult) (room : List ℕ)
    → r ≡ Ok got
    → got ≡ same → read_outcome_of r room ≡ read_outcome_of {E = E} (Ok same) room
heard-as {E} r got same room p q =
    ap (λ x. read_outcome_of x room) p ∙ ap (λ x. read_outcome_of {E = E} (Ok x) room) q

pub heard-broken : {E : Type 0} (r : Result ReadResult E) (e : E) (room : List ℕ) → r ≡ Err e
    → read_outcome_of r room ≡ Failure
heard-broken r e room p = ap (λ x. read_outcome_of x room) p

pub turning-as : (s t : ServerData) (n m : TurnData) → s ≡ t → n ≡ m
    → turn_state s n ≡ turn_state t m
turning-as s t n m p q = ap (λ x. turn_state x n) p ∙ ap (λ x. turn_state t x) q

module _ {L : Type 0} (step : L → Call → L → Type 0) where
  -- ---- a connection that waits

  accepts : (old new : L) (now slot : ℕ) (taken : Option (Option SocketAddrV4))
      (before after : TurnState) → lowest_free_association before.server ≡ Some slot
      → MakesCalls step old (accept_calls_at now (Some slot) taken before) new
      → after ≡ on_accept now (Some slot) taken before
      → Opens step now old new before after (opening_at (Some slot) taken)
  accepts old new now slot taken before after e makes is =
      record {
        performs = record {
          choice = taken;
          makes =
              subst (λ o. MakesCalls step old (accept_calls_at now o taken before) new) (sym e)
              makes;
          is = is ∙ ap (λ o. on_accept now o taken before) (sym e);
        };
        opened_is = ap (λ o. opening_at o taken) (sym e);
      }

  pub accepts-some : (old mid new : L) (now slot : ℕ) (from : SocketAddrV4)
      (before between after : TurnState) → lowest_free_association before.server ≡ Some slot
      → step old (Accepts (slot + 1) (Some (Some from))) mid
      → between ≡ after_opening now slot before
      → MakesCalls step mid (calls_closing_full now between) new
      → after ≡ after_closing_full now between
      → Opens step now old new before after (Some (slot + 1, from))
  accepts-some old mid new now slot from before between after e s is makes settles =
      accepts old new now slot (Some (Some from)) before after e
      (mid, s, subst (λ x. MakesCalls step mid (calls_closing_full now x) new) is makes)
      (settles ∙ ap (after_closing_full now) is)

  -- no connection was taken
  pub accepts-none : (old new : L) (now slot : ℕ) (before : TurnState)
      → lowest_free_association before.server ≡ Some slot
      → step old (Accepts (slot + 1) (Some None)) new
      → Opens step now old new before before None
  accepts-none old new now slot before e s =
      accepts old new now slot (Some None) before before e (new, s, refl) refl

  pub accepts-failed : (old new : L) (now slot : ℕ) (before : TurnState)
      → lowest_free_association before.server ≡ Some slot
      → step old (Accepts (slot + 1) None) new
      → Opens step now old new before before None
  accepts-failed old new now slot before e s =
      accepts old new now slot None before before e (new, s, refl) refl

  -- ---- what is read

  pub reads-not : (l : L) (now slot : ℕ) (before : TurnState) → is_open_at slot before ≡ false
      → Performs step (read_one now slot) (read_calls now slot) l l before before
  reads-not l now slot before e =
      record {
        choice = record { heard = Silence; choice = None };
        makes = rw e refl;
        is = rw e refl;
      }

  reads : (old mid new : L) (now slot : ℕ) (choice : Option ℕ) (what read_outcome_of : ReadOutcome)
      (before after : TurnState) → is_open_at slot before ≡ true
      → what ≡ read_outcome_of → step old (Reads (slot + 1) 4096 what) mid
      → MakesCalls step mid (calls_on_read now slot choice read_outcome_of before) new
      → after ≡ on_read now slot choice read_outcome_of before
      → Performs step (read_one now slot) (read_calls now slot) old new before after
  reads old mid new now slot choice what read_outcome_of before after e h s t is =
      record {
        choice = record { heard = read_outcome_of; choice = choice };
        makes = rw e (mid, subst (λ w. step old (Reads (slot + 1) 4096 w) mid) h s, t);
        is = rw e is;
      }

  pub reads-octets : (old mid new : L) (now slot : ℕ) (octets : List ℕ) (what : ReadOutcome)
      (before between after : TurnState) → is_open_at slot before ≡ true
      → what ≡ Octets octets → step old (Reads (slot + 1) 4096 what) mid
      → HandlesOctets now slot octets before between
      → MakesCalls step mid (calls_closing_full now between) new
      → after ≡ after_closing_full now between
      → Performs step (read_one now slot) (read_calls now slot) old new before after
  reads-octets old mid new now slot octets what before between after e h s taken makes is =
      reads old mid new now slot taken.choice what (Octets octets) before after e h s
      (subst (λ x. MakesCalls step mid (calls_closing_full now x) new) taken.is makes)
      (is ∙ ap (after_closing_full now) taken.is)

  pub reads-silence : (old new : L) (now slot : ℕ) (what : ReadOutcome) (before : TurnState)
      → is_open_at slot before ≡ true → what ≡ Silence
      → step old (Reads (slot + 1) 4096 what) new
      → Performs step (read_one now slot) (read_calls now slot) old new before before
  reads-silence old new now slot what before e h s =
      reads old new new now slot None what Silence before before e h s refl refl

  pub reads-over : (old mid new : L) (now slot : ℕ) (what : ReadOutcome)
      (before between after : TurnState)
      → is_open_at slot before ≡ true → what ≡ StreamEnd
      → step old (Reads (slot + 1) 4096 what) mid → between ≡ after_end now slot before
      → MakesCalls step mid (calls_closing_full now between) new
      → after ≡ after_closing_full now between
      → Performs step (read_one now slot) (read_calls now slot) old new before after
  reads-over old mid new now slot what before between after e h s hung makes is =
      reads old mid new now slot None what StreamEnd before after e h s
      (subst (λ x. MakesCalls step mid (calls_closing_full now x) new) hung makes)
      (is ∙ ap (after_closing_full now) hung)

  pub reads-broken : (old mid cut new : L) (now slot : ℕ) (what : ReadOutcome)
      (before between after : TurnState) → is_open_at slot before ≡ true → what ≡ Failure
      → step old (Reads (slot + 1) 4096 what) mid → step mid (Closes (slot + 1)) cut
      → between ≡ close_at_once now LinkFailed slot before
      → MakesCalls step cut (calls_closing_full now between) new
      → after ≡ after_closing_full now between
      → Performs step (read_one now slot) (read_calls now slot) old new before after
  reads-broken old mid cut new now slot what before between after e h s close off makes is =
      reads old mid new now slot None what Failure before after e h s
      (cut, close, subst (λ x. MakesCalls step cut (calls_closing_full now x) new) off makes)
      (is ∙ ap (after_closing_full now) off)

  -- ---- what is offered

  pub Offers-as : (old new : L) (a : ℕ) (xs ys : List ℕ) (done : ℕ) (failed same : Bool)
      → Offers step old new a xs done failed
      → xs ≡ ys → failed ≡ same → Offers step old new a ys done same
  Offers-as old new a xs ys done failed same o p q =
      subst (λ b. Offers step old new a ys done b) q
      (subst (λ l. Offers step old new a l done failed) p o)

  pub offers-not : (l : L) (now slot : ℕ) (before : TurnState)
      → is_draining (state_at slot before) ≡ false → is_open_at slot before ≡ false
      → Performs step (offer_one now slot) (offer_calls now slot) l l before before
  offers-not l now slot before e f =
      record {
        choice = record { takes = []; fails = false };
        makes = rw (e, f) refl;
        is = rw (e, f) refl;
      }

  pub offers-leaving : (old mid new : L) (now slot done : ℕ) (failed : Bool)
      (before after : TurnState) → is_draining (state_at slot before) ≡ true
      → Offers step old mid (slot + 1) (turn_queue slot before) done failed
      → step mid (Closes (slot + 1)) new → after ≡ after_closing slot before
      → Performs step (offer_one now slot) (offer_calls now slot) old new before after
  offers-leaving old mid new now slot done failed before after e o s is =
      let offer : Offer = record { takes = o.takes; fails = o.fails } in
      record {
        choice = offer;
        makes = rw e (Talks-append step old mid new (queue_offer slot offer before).calls
            (Closes (slot + 1) ∷ []) o.makes (Talks-one step mid (Closes (slot + 1)) new s));
        is = rw e is;
      }

  pub offers-cut : (old mid cut new : L) (now slot done : ℕ) (before between after : TurnState)
      → is_draining (state_at slot before) ≡ false → is_open_at slot before ≡ true
      → Offers step old mid (slot + 1) (turn_queue slot before) done true
      → step mid (Closes (slot + 1)) cut → between ≡ close_at_once now LinkFailed slot before
      → MakesCalls step cut (calls_closing_full now between) new
      → after ≡ after_closing_full now between
      → Performs step (offer_one now slot) (offer_calls now slot) old new before after
  offers-cut old mid cut new now slot done before between after e f o s off makes is =
      let offer : Offer = record { takes = o.takes; fails = o.fails } in
      let ends : offer_end now slot (queue_offer slot offer before).failed before
      ≡ Closes (slot + 1) ∷ calls_closing_full now (close_at_once now LinkFailed slot before) =
      ap (λ b. offer_end now slot b before) o.failed_is in
      let behind : MakesCalls step mid
      (Closes (slot + 1) ∷ calls_closing_full now (close_at_once now LinkFailed slot before))
      new =
      (cut, s, subst (λ x. MakesCalls step cut (calls_closing_full now x) new) off makes) in
      record {
        choice = offer;
        makes = rw (e, f) (subst
            (λ l. MakesCalls step old ((queue_offer slot offer before).calls ++ l) new) (sym ends)
            (Talks-append step old mid new (queue_offer slot offer before).calls _ o.makes behind));
        is = rw (e, f, o.failed_is) (is ∙ ap (after_closing_full now) off);
      }

  pub offers-kept : (old new : L) (now slot done : ℕ) (before after : TurnState)
      → is_draining (state_at slot before) ≡ false → is_open_at slot before ≡ true
      → Offers step old new (slot + 1) (turn_queue slot before) done false
      → after ≡ with_queue slot (drop done (turn_queue slot before)) before
      → Performs step (offer_one now slot) (offer_calls now slot) old new before after
  offers-kept old new now slot done before after e f o is =
      let offer : Offer = record { takes = o.takes; fails = o.fails } in
      let kept : offer_end now slot (queue_offer slot offer before).failed before ≡ [] =
      ap (λ b. offer_end now slot b before) o.failed_is in
      record {
        choice = offer;
        makes = rw (e, f) (subst
            (λ l. MakesCalls step old ((queue_offer slot offer before).calls ++ l) new) (sym kept)
            (Talks-append step old new new (queue_offer slot offer before).calls [] o.makes refl));
        is = rw (e, f, o.failed_is, o.left) is;
      }

  -- ---- a turn

  serves : (old k l m p q new : L) (now : ℕ) (given : ProcessReport) (source : List ℕ)
      (before after : ServerData) (noted : TurnData)
      (s z t u v : TurnState) (opened : Option (ℕ × SocketAddrV4)) (over : Option ℕ) (turn : Turn)
      → Opens step now old k (turn_begin before) s opened
      → MakesCalls step k (event_calls now source (loss_event given) s) l
      → z ≡ with_event now source (loss_event given) s
      → PerformsEach step (read_one now) (read_calls now) l m (reading_count given) z t
      → MakesCalls step m (event_calls now source given.event t) p → u ≡ with_event now source given.event t
      → MakesCalls step p (scan_calls now u) q → v ≡ after_turn_scan now u
      → PerformsEach step (offer_one now) (offer_calls now) q new 8 v (turn_state after noted)
      → over ≡ expired_at now before.device
      → turn ≡ record {
        opened = opened;
        over = over;
        refused = noted.refused;
        commands = noted.commands;
        decisions = noted.decisions;
        closed = noted.closed;
        memory = noted.memory;
      }
      → Serves step old new now given source before after turn
  serves old k l m p q new now given source before after noted s z t u v opened over turn a first_talks
      first_is r line_talks line_is scan_talks scan_is o over_is told =
      let script : Script =
      record { source = source; accepted = a.performs.choice; readings = r.choices; offers = o.choices } in
      let zero : s ≡ after_accept now script before = a.performs.is in
      let first : z ≡ after_loss now given script before =
      first_is ∙ ap (with_event now source (loss_event given)) zero in
      let second : t ≡ after_reads now given script before =
      r.is ∙ ap (after_each (read_one now) 0 r.choices) first in
      let third : u ≡ after_line now given script before =
      line_is ∙ ap (with_event now source given.event) second in
      let fourth : v ≡ after_scan now given script before =
      scan_is ∙ ap (after_turn_scan now) third in
      let whole : turn_state after noted ≡ after_turn now given script before =
      o.is ∙ ap (after_each (offer_one now) 0 o.choices) fourth in
      let lost_talks : MakesCalls step k
      (event_calls now source (loss_event given) (after_accept now script before)) l =
      subst (λ x. MakesCalls step k (event_calls now source (loss_event given) x) l) zero first_talks in
      let read_talks : MakesCalls step l
      (calls_of_each (read_one now) (read_calls now) 0 r.choices
      (after_loss now given script before)) m =
      subst (λ x. MakesCalls step l (calls_of_each (read_one now) (read_calls now) 0 r.choices x) m)
      first r.makes in
      let lines : MakesCalls step m
      (event_calls now source given.event (after_reads now given script before)) p =
      subst (λ x. MakesCalls step m (event_calls now source given.event x) p) second line_talks in
      let scans : MakesCalls step p (scan_calls now (after_line now given script before)) q =
      subst (λ x. MakesCalls step p (scan_calls now x) q) third scan_talks in
      let offers : MakesCalls step q
      (calls_of_each (offer_one now) (offer_calls now) 0 o.choices
      (after_scan now given script before)) new =
      subst (λ x. MakesCalls step q (calls_of_each (offer_one now) (offer_calls now) 0 o.choices x)
      new)
      fourth o.makes in
      record {
        script = script;
        source_is = refl;
        all_read = r.many;
        all_offered = o.many;
        makes = Talks-append step old q new _ _
            (Talks-append step old p q _ _
            (Talks-append step old m p _ _
            (Talks-append step old l m _ _
            (Talks-append step old k l _ _ a.performs.makes lost_talks)
            read_talks)
            lines)
            scans) offers;
        server = ap (λ (x : TurnState). x.server) whole;
        opened = ap (λ (x : Turn). x.opened) told ∙ a.opened_is;
        over = ap (λ (x : Turn). x.over) told ∙ over_is;
        refused = ap (λ (x : Turn). x.refused) told ∙ ap (λ (x : TurnState). x.noted.refused) whole;
        commands =
            ap (λ (x : Turn). x.commands) told ∙ ap (λ (x : TurnState). x.noted.commands) whole;
        decisions =
            ap (λ (x : Turn). x.decisions) told ∙ ap (λ (x : TurnState). x.noted.decisions) whole;
        closed = ap (λ (x : Turn). x.closed) told ∙ ap (λ (x : TurnState). x.noted.closed) whole;
        memory = ap (λ (x : Turn). x.memory) told ∙ ap (λ (x : TurnState). x.noted.memory) whole;
      }

  -- with what the code has in hand
  pub serves-with : (old k l m p q new : L) (now : ℕ) (given : ProcessReport) (source : List ℕ)
      (first_event : Option ProcessEvent) (before after : ServerData) (first noted : TurnData)
      (s z t u v : TurnState) (opened : Option (ℕ × SocketAddrV4)) (over : Option ℕ) (turn : Turn)
      → turn_state before first ≡ turn_begin before → first_event ≡ loss_event given
      → Opens step now old k (turn_state before first) s opened
      → MakesCalls step k (event_calls now source first_event s) l → z ≡ with_event now source first_event s
      → PerformsEach step (read_one now) (read_calls now) l m (reading_count given) z t
      → MakesCalls step m (event_calls now source given.event t) p → u ≡ with_event now source given.event t
      → MakesCalls step p (scan_calls now u) q → v ≡ after_turn_scan now u
      → PerformsEach step (offer_one now) (offer_calls now) q new 8 v (turn_state after noted)
      → over ≡ expired_at now before.device
      → turn ≡ record {
        opened = opened;
        over = over;
        refused = noted.refused;
        commands = noted.commands;
        decisions = noted.decisions;
        closed = noted.closed;
        memory = noted.memory;
      }
      → Serves step old new now given source before after turn
  serves-with old k l m p q new now given source first_event before after first noted s z t u v opened over
      turn e f a ft fi r lt li st si o ov told =
      serves old k l m p q new now given source before after noted s z t u v opened over turn
      (subst (λ x. Opens step now old k x s opened) e a)
      (subst (λ x. MakesCalls step k (event_calls now source x s) l) f ft)
      (fi ∙ ap (λ x. with_event now source x s) f)
      r lt li st si o ov told

  pub serves-as : (old new : L) (now same : ℕ) (given told : ProcessReport)
      (source : List ℕ) (before after : ServerData) (turn : Turn) → Serves step old new now given source before after turn
      → now ≡ same → given ≡ told → Serves step old new same told source before after turn
  serves-as old new now same given told source before after turn serves p q =
      subst (λ n. Serves step old new n told source before after turn) p
      (subst (λ l. Serves step old new now l source before after turn) q serves)
