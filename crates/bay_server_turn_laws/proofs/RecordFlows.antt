-- A turn records its events.
use Rattle.std.proofs.Common.{Bool, Err, List, None, Ok, Option, Result, Some, [], ap, cond, false, refl, suc, sym, true, zero, ℕ, ◌++◌, ◌+◌, ◌∙◌, ◌∷◌, ◌≡◌}
use Rattle.std.specs.declared.net.socket_addr.SocketAddrV4.{SocketAddrV4}
use Rattle.bay_device.specs.Outcomes.{outcome}
use Rattle.bay_device.specs.declared.event.Event.{Event}
use Rattle.bay_device.specs.declared.event.Event.TheVariants.{Close, Open, Recv, Scan}
use Rattle.bay_device.specs.declared.event.Step.{Step}
use Rattle.bay_device.specs.declared.event.Why.TheVariants.{Ended}
use Rattle.bay_device.specs.declared.fault.StepFault.{StepFault}
use Rattle.bay_trace.specs.Resolving.{borrow_of}
use Rattle.bay_server_turn.specs.AssociationStates.{is_draining}
use Rattle.bay_server_turn.specs.Calls.{ReadOutcome, Octets, Silence, StreamEnd, Failure}
use Rattle.bay_server_turn.specs.Offers.{Offer}
use Rattle.bay_server_turn.specs.Recorded.{Recording, recorded}
use Rattle.bay_server_turn.specs.Turns.{ServerData, Reading, Script, TurnState, after_accept, after_closing, after_closing_full, after_closing_next_full, after_closing_some_full, after_device_close, after_each, after_end, after_event, after_line, after_loss, after_octets, after_opening, after_process_event, after_reads, after_scan, after_turn, close_at_once, event_of, first_full, is_open_at, loss_event, lowest_free_association, offer_one, on_accept, on_read, put_answer, put_ended, put_quiet, queue_offer, read_one, record_refusal, start_closing, state_at, turn_begin, with_device, with_event, with_noted, with_queue}
use Rattle.bay_server_turn.specs.declared.process_input.ProcessEvent.{ProcessEvent}
use Rattle.bay_server_turn.specs.declared.process_input.ProcessReport.{ProcessReport}
use Rattle.bay_server_turn.specs.declared.turn_report.CloseReason.{CloseReason}
use Rattle.bay_server_turn.specs.declared.turn_report.CloseReason.TheVariants as closing
use Rattle.bay_server_turn_laws.specs.Events.{ChosenEvent, accept_events_at, closing_of, events_closing_full, events_closing_next_full, events_closing_some_full, events_of_each, events_on_read, failed_events, line_events, offer_events, read_events, turn_events, with_memory}
use Rattle.bay_server_turn_laws.specs.Records.{recorded_all}
use Rattle.bay_server_turn_laws.proofs.PutLemmas.{IsPut, puts-all, puts-ended, puts-quiet}
use Rattle.bay_server_turn_laws.proofs.RecordLemmas.{recorded-append}

-- ---- what is queued changes no record

kept-put : (recording : Option Recording) → IsPut (λ s. s.server.recording ≡ recording)
kept-put recording =
    record { fits = λ slot octets s room p. p; fills = λ slot s p. p }

quiet-kept : (answer : Result Step StepFault) (s : TurnState)
    → (put_quiet answer s).server.recording ≡ s.server.recording
quiet-kept answer s =
    puts-quiet (λ t. t.server.recording ≡ s.server.recording) (kept-put s.server.recording) answer
    s refl

told-kept : (answer : Result Step StepFault) (s : TurnState)
    → (record_refusal answer s).server.recording ≡ s.server.recording
told-kept (Err fault) s = refl
told-kept (Ok step) s =
    puts-ended (λ t. t.server.recording ≡ s.server.recording) (kept-put s.server.recording)
    step.ended s refl

answer-kept : (slot : ℕ) (answer : Result Step StepFault) (s : TurnState)
    → (put_answer slot answer s).server.recording ≡ s.server.recording
answer-kept slot (Err fault) s = refl
answer-kept slot (Ok step) s =
    let left : TurnState = after_device_close slot step.closed s in
    puts-all (λ t. t.server.recording ≡ s.server.recording) (kept-put s.server.recording) step.sent
    (put_ended step.ended left)
    (puts-ended (λ t. t.server.recording ≡ s.server.recording) (kept-put s.server.recording)
    step.ended left refl)

module _ (now : ℕ) (source : List ℕ) where
  -- the record after a part of a turn is the record before it after the part's events
  record Records (s : TurnState) (events : List ChosenEvent) (t : TurnState) : Type 0 where
    is : t.server.recording ≡ recorded_all now source events s.server.recording

  no-event : (s t : TurnState) → t.server.recording ≡ s.server.recording → Records s [] t
  no-event s t same = record { is = same }

  both-record : (s t u : TurnState) (e x : List ChosenEvent) → Records s e t → Records t x u
      → Records s (e ++ x) u
  both-record s t u e x p q = record {
    is = q.is ∙ ap (λ r. recorded_all now source x r) p.is
        ∙ sym (recorded-append now source e x s.server.recording);
  }

  -- ---- an event

  -- one that is recorded alike, whichever line was read
  stepped-records : (event : Event) (s : TurnState)
      → ((r : Option Recording) → recorded now [] event r ≡ recorded now source event r)
      → Records s (with_memory event ∷ []) (after_event now event s)
  stepped-records event s alike =
      let o = outcome None now event s.server.device in
      record {
        is = ap (λ r. recorded now [] event r) (quiet-kept o.answer (with_device o.after s))
            ∙ alike s.server.recording;
      }

  close-alike : (a : ℕ) (r : Option Recording)
      → recorded now [] (Close a) r ≡ recorded now source (Close a) r
  close-alike a None = refl
  close-alike a (Some r) = refl

  open-alike : (a : ℕ) (r : Option Recording)
      → recorded now [] (Open a) r ≡ recorded now source (Open a) r
  open-alike a None = refl
  open-alike a (Some r) = refl

  scan-alike : (r : Option Recording) → recorded now [] Scan r ≡ recorded now source Scan r
  scan-alike None = refl
  scan-alike (Some r) = refl

  recv-alike : (a : ℕ) (octets : List ℕ) (r : Option Recording)
      → recorded now [] (Recv a (borrow_of octets)) r
      ≡ recorded now source (Recv a (borrow_of octets)) r
  recv-alike a octets None = refl
  recv-alike a octets (Some r) = refl

  cut-records : (why : CloseReason) (slot : ℕ) (s : TurnState)
      → Records s (closing_of slot ∷ []) (close_at_once now why slot s)
  unfolding close_at_once
  cut-records why slot s =
      record { is = (stepped-records (Close (slot + 1)) s (close-alike (slot + 1))).is }

  -- ---- the closings that follow

  next-records : (o : Option ℕ) (s : TurnState) (f : TurnState → TurnState)
      (events : TurnState → List ChosenEvent)
      → ((t : TurnState) → Records t (events t) (f t))
      → Records s (events_closing_next_full now o s events) (after_closing_next_full now o s f)
  next-records None s f events more = no-event s s refl
  next-records (Some slot) s f events more =
      let t : TurnState = close_at_once now closing.QueueFull slot s in
      both-record s t (f t) (closing_of slot ∷ []) (events t)
      (cut-records closing.QueueFull slot s) (more t)

  some-record : (count : ℕ) (s : TurnState)
      → Records s (events_closing_some_full now count s) (after_closing_some_full now count s)
  some-record zero s = no-event s s refl
  some-record (suc count) s =
      next-records (first_full s.noted) s (after_closing_some_full now count)
      (events_closing_some_full now count) (some-record count)

  full-records : (s : TurnState) → Records s (events_closing_full now s) (after_closing_full now s)
  unfolding after_closing_full events_closing_full
  full-records s = some-record 8 s

  -- an event, and the closings that follow
  then-records : (s t : TurnState) (e : ChosenEvent) → Records s (e ∷ []) t
      → Records s (e ∷ events_closing_full now t) (after_closing_full now t)
  then-records s t e p =
      both-record s t (after_closing_full now t) (e ∷ []) (events_closing_full now t) p
      (full-records t)

  -- ---- the parts of a turn

  accept-records : (slot : Option ℕ) (taken : Option (Option SocketAddrV4)) (s : TurnState)
      → Records s (accept_events_at now slot taken s) (on_accept now slot taken s)
  accept-records None taken s = no-event s s refl
  accept-records (Some slot) None s = no-event s s refl
  accept-records (Some slot) (Some None) s = no-event s s refl
  accept-records (Some slot) (Some (Some from)) s =
      then-records s (after_opening now slot s) (with_memory (Open (slot + 1)))
      (stepped-records (Open (slot + 1)) s (open-alike (slot + 1)))

  heard-records : (slot : ℕ) (choice : Option ℕ) (heard : ReadOutcome) (s : TurnState)
      → Records s (events_on_read now slot choice heard s) (on_read now slot choice heard s)
  heard-records slot choice (Octets octets) s =
      let event = Recv (slot + 1) (borrow_of octets) in
      let o = outcome choice now event s.server.device in
      then-records s (after_octets now slot choice octets s) (choice, event) (record {
        is = ap (λ r. recorded now [] event r)
            (answer-kept slot o.answer (with_device o.after s))
            ∙ recv-alike (slot + 1) octets s.server.recording;
      })
  heard-records slot choice Silence s = no-event s s refl
  heard-records slot choice StreamEnd s =
      let left : TurnState = with_noted (start_closing slot Ended s.noted) s in
      then-records s (after_end now slot s) (closing_of slot)
      (record { is = (stepped-records (Close (slot + 1)) left (close-alike (slot + 1))).is })
  heard-records slot choice Failure s =
      then-records s (close_at_once now closing.LinkFailed slot s) (closing_of slot)
      (cut-records closing.LinkFailed slot s)

  read-records : (slot : ℕ) (r : Reading) (s : TurnState)
      → Records s (read_events now slot r s) (read_one now slot r s)
  read-records slot r s = by-up (is_open_at slot s)
    where
      by-up : (up : Bool) → Records s (cond up (events_on_read now slot r.choice r.heard s) [])
          (cond up (on_read now slot r.choice r.heard s) s)
      by-up true = heard-records slot r.choice r.heard s
      by-up false = no-event s s refl

  line-records : (line : Option ProcessEvent) (s : TurnState)
      → Records s (line_events now source line s) (with_event now source line s)
  line-records None s = no-event s s refl
  line-records (Some event) s =
      let o = outcome None now (event_of event) s.server.device in
      then-records s (after_process_event now source event s) (with_memory (event_of event))
      (record {
        is = ap (λ r. recorded now source (event_of event) r)
            (told-kept o.answer (with_device o.after s));
      })

  scan-records : (s : TurnState)
      → Records s (with_memory Scan ∷ events_closing_full now (after_event now Scan s))
      (after_closing_full now (after_event now Scan s))
  scan-records s =
      then-records s (after_event now Scan s) (with_memory Scan) (stepped-records Scan s scan-alike)

  offer-records : (slot : ℕ) (o : Offer) (s : TurnState)
      → Records s (offer_events now slot o s) (offer_one now slot o s)
  offer-records slot o s =
      by-standing (is_draining (state_at slot s)) (is_open_at slot s) (queue_offer slot o s).failed
    where
      left : List ℕ
      left = (queue_offer slot o s).left

      by-standing : (leaving up failed : Bool)
          → Records s (cond leaving [] (cond up (failed_events now slot failed s) []))
          (cond leaving (after_closing slot s) (cond up (cond failed
          (after_closing_full now (close_at_once now closing.LinkFailed slot s))
          (with_queue slot left s)) s))
      by-standing true up failed = no-event s (after_closing slot s) refl
      by-standing false true true =
          then-records s (close_at_once now closing.LinkFailed slot s) (closing_of slot)
          (cut-records closing.LinkFailed slot s)
      by-standing false true false = no-event s (with_queue slot left s) refl
      by-standing false false failed = no-event s s refl

  each-records : {C : Type 0} (f : ℕ → C → TurnState → TurnState)
      (events : ℕ → C → TurnState → List ChosenEvent)
      → ((slot : ℕ) (c : C) (s : TurnState) → Records s (events slot c s) (f slot c s))
      → (slot : ℕ) (cs : List C) (s : TurnState)
      → Records s (events_of_each f events slot cs s) (after_each f slot cs s)
  each-records f events step slot [] s = no-event s s refl
  each-records f events step slot (c ∷ cs) s =
      let t : TurnState = f slot c s in
      both-record s t (after_each f (slot + 1) cs t) (events slot c s)
      (events_of_each f events (slot + 1) cs t) (step slot c s)
      (each-records f events step (slot + 1) cs t)

-- a turn records its events
pub turn-records : (now : ℕ) (given : ProcessReport) (script : Script) (h : ServerData)
    → (after_turn now given script h).server.recording
    ≡ recorded_all now script.source (turn_events now given script h) h.recording
turn-records now given script h =
    let source = script.source in
    let s0 : TurnState = turn_begin h in
    let s1 : TurnState = after_accept now script h in
    let z : TurnState = after_loss now given script h in
    let s2 : TurnState = after_reads now given script h in
    let s3 : TurnState = after_line now given script h in
    let s4 : TurnState = after_scan now given script h in
    (both-record now source s0 s4 (after_turn now given script h) _ _
    (both-record now source s0 s3 s4 _ _
    (both-record now source s0 s2 s3 _ _
    (both-record now source s0 z s2 _ _
    (both-record now source s0 s1 z _ _
    (accept-records now source (lowest_free_association h) script.accepted s0)
    (line-records now source (loss_event given) s1))
    (each-records now source (read_one now) (read_events now) (read-records now source) 0
    script.readings z))
    (line-records now source given.event s2))
    (scan-records now source s3))
    (each-records now source (offer_one now) (offer_events now) (offer-records now source) 0
    script.offers s4)).is
