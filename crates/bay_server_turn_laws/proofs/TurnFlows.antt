-- The octets of one association through a whole turn.
use Rattle.std.proofs.Common.{Bool, List, None, Option, Result, Some, [], ap, append-nil, arith, false, inl, inr, length, refl, subst, sym, true, ℕ, ◌++◌, ◌+◌, ◌<◌, ◌∙◌, ◌∷◌, ◌≡◌, ◌≢◌, ◌≤◌, ◌⊎◌}
use Rattle.std.proofs.lemmas.Bool.{cases_eq}
use Rattle.bay_device.specs.Outcomes.{Outcome, last_moment, outcome}
use Rattle.bay_device.specs.declared.event.Event.{Event}
use Rattle.bay_device.specs.declared.event.Event.TheVariants.{Close, Open, Recv, Scan}
use Rattle.bay_device.specs.declared.event.Step.{Step}
use Rattle.bay_device.specs.declared.event.Why.TheVariants.{Ended}
use Rattle.bay_device.specs.declared.fault.StepFault.{StepFault}
use Rattle.bay_trace.specs.Resolving.{borrow_of}
use Rattle.bay_server_turn.specs.Calls.{Call, Closes}
use Rattle.bay_server_turn.specs.AssociationStates.{is_full, is_draining}
use Rattle.bay_server_turn.specs.Turns.{ServerData, Script, TurnState, after_event, after_opening, after_closing, after_scan, after_turn, close_at_once, event_of, after_end, is_open_at, start_closing, put_answer, put_quiet, record_refusal, server_queue, turn_queue, state_at, after_process_event, turn_begin, turn_calls, with_device, with_noted, with_queue, with_recorded}
use Rattle.bay_server_turn.specs.declared.process_input.ProcessReport.{ProcessReport}
use Rattle.bay_server_turn.specs.declared.association_state.AssociationState.{AssociationState}
use Rattle.bay_server_turn.specs.declared.association_state.AssociationState.TheVariants.{Full, Closed, Draining, DrainingFull, Steady}
use Rattle.bay_server_turn.specs.declared.turn_report.CloseReason.TheVariants as closing
use Rattle.bay_server_turn_laws.specs.Events.{ChosenEvent, closing_of, outcomes_at, turn_events}
use Rattle.bay_server_turn_laws.specs.Flows.{IsInTime, IsTidy, LosesNothing, answer_to, replies_to, written_by_calls}
use Rattle.bay_server_turn_laws.proofs.Acts.{Act, Asks, Breaks, Can, Fills, HangsUp, Hears, Offers, Parts, Scans, Tells, after, calls_by, events_by}
use Rattle.bay_server_turn_laws.proofs.CallLemmas.{closing-says, taken-append}
use Rattle.bay_server_turn_laws.proofs.CarryLemmas.{Carried, MayLose, device-carried, longer-behind, other-queue, other-standing, put_quiet-carried, put_told-carried, recorded-carried}
use Rattle.bay_server_turn_laws.proofs.CutLemmas.{cut-carried, cut-far}
use Rattle.bay_server_turn_laws.proofs.MoveLemmas.{sent-append}
use Rattle.bay_server_turn_laws.proofs.OfferFlows.{cut-here, each-left, kept-here, parted-here}
use Rattle.bay_server_turn_laws.proofs.QuietLemmas.{outcome-quiet, process-quiet}
use Rattle.bay_server_turn_laws.proofs.ReadFlows.{Marked, answer-carried, begun-carried, left-carried, left_by-far, ready-far, ready-here}
use Rattle.bay_server_turn_laws.proofs.UpLemmas.{close-outcome-far, close-outcome-here, open-outcome-up, outcome-moment, process-outcome-up, recv-outcome-far, recv-outcome-here, scan-outcome-up, up_at}
use Rattle.bay_server_turn_laws.proofs.KeptLemmas.{Invariant, IsKept, answers_to, turned-keeps}
use Rattle.bay_server_turn_laws.proofs.WalkLemmas.{Begins, Opening, Quietly, before, turn-is-acts}

-- what is carried, by the calls and the answers up to here
abbrev pub Flowing : ℕ → ℕ → List ℕ → Invariant
Flowing now p held c e r s =
    Carried now p held (written_by_calls (p + 1) c) (replies_to (p + 1) r) s

module _ (most now p : ℕ) (held : List ℕ) (low : p < 8) (past : now ≤ last_moment) (t u : List ℕ)
  where
    -- by what the link takes in an act, and what the device sends
    abbrev Carrying : TurnState → Act → Type 0
    Carrying s a = Can most a s
        → Carried now p held (t ++ written_by_calls (p + 1) (calls_by a))
        (u ++ replies_to (p + 1) (answers_to now (events_by a) s)) (after now a s)

    carried-as : (taken sent : List ℕ) (s : TurnState) → Carried now p held taken sent s
        → (more further : List ℕ) → taken ≡ more → sent ≡ further
        → Carried now p held more further s
    carried-as taken sent s c more further e f =
        subst (λ l. Carried now p held more l s) f (subst (λ l. Carried now p held l sent s) e c)

    -- one event, and no call that takes anything
    event-carried : (calls : List Call) (answer : Result Step StepFault) (s : TurnState)
        → written_by_calls (p + 1) calls ≡ []
        → Carried now p held t (u ++ answer_to (p + 1) answer) s
        → Carried now p held (t ++ written_by_calls (p + 1) calls)
        (u ++ replies_to (p + 1) (answer ∷ [])) s
    event-carried calls answer s none c =
        carried-as t (u ++ answer_to (p + 1) answer) s c _ _
        (sym (append-nil t) ∙ ap (λ l. t ++ l) (sym none))
        (ap (λ l. u ++ l) (sym (append-nil (answer_to (p + 1) answer))))

    -- no event
    call-carried : (calls : List Call) (taken : List ℕ) (s : TurnState)
        → written_by_calls (p + 1) calls ≡ taken → Carried now p held (t ++ taken) u s
        → Carried now p held (t ++ written_by_calls (p + 1) calls) (u ++ []) s
    call-carried calls taken s is c =
        carried-as (t ++ taken) u s c _ _ (ap (λ l. t ++ l) (sym is)) (sym (append-nil u))

    module _ (s : TurnState) (c : Carried now p held t u s) where
      moment : (choice : Option ℕ) (event : Event)
          → (outcome choice now event s.server.device).after.moment ≤ now
      moment choice event = outcome-moment choice now event s.server.device c.sound.moment

      same-place : (F : ℕ → Act) (i : ℕ) → Carrying s (F p) → (i ≢ p → Carrying s (F i))
          → Carrying s (F i)
      same-place F i here far = elim (cases_eq i p) [
        | inl e ↦ subst (λ q. Carrying s (F q)) (sym e) here
        | inr ne ↦ far ne
      ]

      -- events that leave the association as open as it is
      stepped : (event : Event)
          → up_at p (outcome None now event s.server.device).after ≡ is_open_at p s
          → Carried now p held t u (with_device (outcome None now event s.server.device).after s)
      stepped event up = device-carried now p held t u _ s (moment None event) up c

      act-carried : (a : Act) → Carrying s a
      act-carried (Asks call) = λ can.
          call-carried (call ∷ []) [] s (can.says (p + 1)).takes
          (carried-as t u s c _ _ (sym (append-nil t)) refl)
      act-carried (Hears i choice octets) = same-place (λ q. Hears q choice octets) i
          (λ can.
          let o = outcome choice now (Recv (p + 1) (borrow_of octets)) s.server.device in
          answered p o (ready-here most now p held t u o.answer o.after s low c
          (moment choice (Recv (p + 1) (borrow_of octets))) can
          (recv-outcome-here choice now p octets s.server.device low can.up)))
          (λ ne can.
          let o = outcome choice now (Recv (i + 1) (borrow_of octets)) s.server.device in
          answered i o (ready-far now p i held t u o.answer (with_device o.after s) ne
          (device-carried now p held t u o.after s (moment choice (Recv (i + 1) (borrow_of octets)))
          (recv-outcome-far choice now i p octets s.server.device ne) c)))
        where
          answered : (q : ℕ) (o : Outcome)
              → Marked now p q held t u o.answer (with_device o.after s)
              → Carried now p held (t ++ []) (u ++ (answer_to (p + 1) o.answer ++ []))
              (with_recorded now [] (Recv (q + 1) (borrow_of octets))
              (put_answer q o.answer (with_device o.after s)))
          answered q o r =
              let d : TurnState = put_answer q o.answer (with_device o.after s) in
              let event = Recv (q + 1) (borrow_of octets) in
              event-carried [] o.answer (with_recorded now [] event d) refl
              (recorded-carried now p held t (u ++ answer_to (p + 1) o.answer) [] event d
              (answer-carried now p q held t u o.answer (with_device o.after s) low r))
      act-carried (HangsUp i) = same-place HangsUp i
          (λ can. closed p (left-carried most now p held t u Ended
          (outcome None now (Close (p + 1)) s.server.device).after s low c
          (moment None (Close (p + 1))) can
          (close-outcome-here None now p s.server.device low past c.sound.moment)))
          (λ ne can. closed i (device-carried now p held t u
          (outcome None now (Close (i + 1)) s.server.device).after
          (with_noted (start_closing i Ended s.noted) s)
          (moment None (Close (i + 1))) (close-outcome-far None now i p s.server.device ne)
          (left_by-far now p i held t u (Some (i, Ended)) s ne c)))
        where
          closed : (q : ℕ)
              → (let o = outcome None now (Close (q + 1)) s.server.device in
              Carried now p held t u
              (with_device o.after (with_noted (start_closing q Ended s.noted) s)))
              → Carried now p held (t ++ written_by_calls (p + 1) (calls_by (HangsUp q)))
              (u ++ replies_to (p + 1) (answers_to now (closing_of q ∷ []) s)) (after_end now q s)
          closed q d =
              let o = outcome None now (Close (q + 1)) s.server.device in
              let left : TurnState =
              with_device o.after (with_noted (start_closing q Ended s.noted) s) in
              event-carried (calls_by (HangsUp q)) o.answer (after_end now q s) refl
              (recorded-carried now p held t (u ++ answer_to (p + 1) o.answer) [] (Close (q + 1))
              (put_quiet o.answer left) (put_quiet-carried now p held t u o.answer left low
              (outcome-quiet None now (Close (q + 1)) s.server.device tt) d))
      act-carried (Tells source event) = λ can.
          let o = outcome None now (event_of event) s.server.device in
          event-carried [] o.answer (after_process_event now source event s) refl
          (recorded-carried now p held t (u ++ answer_to (p + 1) o.answer) source (event_of event)
          (record_refusal o.answer (with_device o.after s))
          (put_told-carried now p held t u o.answer (with_device o.after s) low
          (outcome-quiet None now (event_of event) s.server.device (process-quiet event))
          (stepped (event_of event) (process-outcome-up None now p event s.server.device))))
      act-carried Scans = λ can.
          let o = outcome None now Scan s.server.device in
          event-carried [] o.answer (after_event now Scan s) refl
          (recorded-carried now p held t (u ++ answer_to (p + 1) o.answer) [] Scan
          (put_quiet o.answer (with_device o.after s))
          (put_quiet-carried now p held t u o.answer (with_device o.after s) low
          (outcome-quiet None now Scan s.server.device tt)
          (stepped Scan (scan-outcome-up None now p s.server.device))))
      act-carried (Fills i) = λ can.
          event-carried (Closes (i + 1) ∷ [])
          (outcome None now (Close (i + 1)) s.server.device).answer
          (close_at_once now closing.QueueFull i s) refl
          (cut-carried now p i held t u closing.QueueFull s low past (λ e. can.1) c)
      act-carried (Breaks i calls) = same-place (λ q. Breaks q calls) i
          (λ can.
          let o = can.1.offered in
          let a = (outcome None now (Close (p + 1)) s.server.device).answer in
          carried-as (t ++ o.taken) (u ++ answer_to (p + 1) a)
          (close_at_once now closing.LinkFailed p s)
          (cut-here now p held t u s can.0 true calls low c o past) _ _
          (ap (λ l. t ++ l) (sym (closing-says (p + 1) p _ _ o.taken calls o.own).takes))
          (ap (λ l. u ++ l) (sym (append-nil (answer_to (p + 1) a)))))
          (λ ne can. event-carried (calls ++ Closes (i + 1) ∷ [])
          (outcome None now (Close (i + 1)) s.server.device).answer
          (close_at_once now closing.LinkFailed i s)
          (closing-says (p + 1) i _ _ [] calls (can.1.offered.far p ne)).takes
          (cut-far now p i held t u closing.LinkFailed s low ne c))
      act-carried (Offers i calls left) = same-place (λ q. Offers q calls left) i
          (λ can. let o = can.offered in
          call-carried calls o.taken (with_queue p left s) o.own.takes
          (kept-here now p held t u s left false calls low c o most can.is_open))
          (λ ne can. call-carried calls [] (with_queue i left s) (can.offered.far p ne).takes
          (carried-as t u _ (other-queue now p i held t u left s ne c) _ _ (sym (append-nil t))
          refl))
      act-carried (Parts i calls) = same-place (λ q. Parts q calls) i
          (λ can. let o = can.offered in
          call-carried (calls ++ Closes (p + 1) ∷ []) o.taken (after_closing p s)
          (closing-says (p + 1) p _ _ o.taken calls o.own).takes
          (parted-here now p held t u s can.left can.failed calls low c o can.leaves))
          (λ ne can. call-carried (calls ++ Closes (i + 1) ∷ []) [] (after_closing i s)
          (closing-says (p + 1) i _ _ [] calls (can.offered.far p ne)).takes
          (carried-as t u _ (other-standing now p i held t u Closed (with_queue i [] s) ne
          (other-queue now p i held t u [] s ne c)) _ _ (sym (append-nil t)) refl))

-- ---- a whole turn

module _ (most now p : ℕ) (low : p < 8) (past : now ≤ last_moment) where
  pub act-flows : (held : List ℕ) → IsKept now most (Flowing now p held)
  act-flows held a c e r s sized can i =
      carried-as most now p held low past [] [] _ _ (after now a s)
      (act-carried most now p held low past (written_by_calls (p + 1) c) (replies_to (p + 1) r) s i
      a
      can) _ _
      (sym (taken-append (p + 1) c (calls_by a)))
      (sym (sent-append (p + 1) r (answers_to now (events_by a) s)))

  pub begins-flowing : (h : ServerData) (s : TurnState) (c : List Call) (e : List ChosenEvent)
      → IsTidy h
      → h.device.moment ≤ now → Begins now most h s c e
      → Flowing now p (server_queue p h) c e (outcomes_at now e h.device).answers s
  begins-flowing h s c e tidy before Quietly =
      begun-carried now p h h.device low tidy before (λ f. f)
  begins-flowing h s c e tidy before (Opening slot from free) =
      let o = outcome None now (Open (slot + 1)) h.device in
      event-carried most now p (server_queue p h) low past [] [] c o.answer
      (after_opening now slot (turn_begin h)) refl
      (recorded-carried now p (server_queue p h) [] ([] ++ answer_to (p + 1) o.answer) []
      (Open (slot + 1)) (put_quiet o.answer (with_device o.after (turn_begin h)))
      (put_quiet-carried now p (server_queue p h) [] [] o.answer
      (with_device o.after (turn_begin h))
      low
      (outcome-quiet None now (Open (slot + 1)) h.device tt)
      (begun-carried now p h o.after low tidy
      (outcome-moment None now (Open (slot + 1)) h.device before)
      (open-outcome-up None now (slot + 1) p h.device))))

kept-at : (x : AssociationState) (u : Bool) (q lost : List ℕ) → MayLose x u q lost
    → is_full x ≡ false
    → is_draining x ≡ false → (q ≡ q ++ lost) ⊎ ((q ≡ []) × (u ≡ false))
kept-at Steady true q lost m e f = inl (sym (append-nil q) ∙ ap (λ l. q ++ l) (sym m))
kept-at Steady false q lost m e f = inr (m, refl)
kept-at Full u q lost m e f = absurd (cc)
kept-at Draining u q lost m e f = absurd (cc)
kept-at DrainingFull u q lost m e f = absurd (cc)
kept-at Closed u q lost m e f = inr m

empty-at : (x : AssociationState) (u : Bool) (q lost : List ℕ) → MayLose x u q lost
    → is_full x ≡ false
    → is_draining x ≡ false → u ≡ false → q ≡ []
empty-at Steady true q lost m e f g = absurd (cc)
empty-at Steady false q lost m e f g = m
empty-at Full u q lost m e f g = absurd (cc)
empty-at Draining u q lost m e f g = absurd (cc)
empty-at DrainingFull u q lost m e f g = absurd (cc)
empty-at Closed u q lost m e f g = m.0

pub loses-nothing : (now : ℕ) (given : ProcessReport) (script : Script) (h : ServerData) → IsTidy h
    → IsInTime now h → length script.offers ≡ 8 → LosesNothing now given script h
loses-nothing now given script h tidy time offers =
    let most = length script.readings + length script.offers in
    let t : TurnState = after_turn now given script h in
    let calls = turn_calls now given script h in
    let events = turn_events now given script h in
    let m = turn-is-acts now most given script h (omega arith) (omega arith) in
    let flowing : (p : ℕ) → p < 8
    → Flowing now p (server_queue p h) calls events (outcomes_at now events h.device).answers t =
    λ p low. turned-keeps now most (Flowing now p (server_queue p h))
    (act-flows most now p low time.not_past (server_queue p h)) h script.accepted t calls events m
    (begins-flowing most now p low time.not_past h m.start m.calls m.events tidy time.not_before
    m.begins) in
    let left : (p : ℕ) → p < 8 → is_draining (state_at p t) ≡ false =
    λ p low. each-left now 0 p p script.offers (after_scan now given script h) (omega arith)
    (omega (arith, offers, low)) in
    record {
      flows = λ p low.
          let f = (flowing p low).carries in
          record {
            rest = turn_queue p t ++ f.lost;
            is = f.is;
            kept = kept-at (state_at p t) (is_open_at p t) (turn_queue p t) f.lost f.may
                (m.passes.calm p) (left p low);
          };
      full = λ p low reported. longer-behind 262144 (turn_queue p t) (flowing p low).carries.lost
          ((flowing p low).full reported);
      tidy = record {
        sized = (flowing 0 (omega arith)).sound.queues;
        empty = λ p low down.
            let f = (flowing p low).carries in
            empty-at (state_at p t) (is_open_at p t) (turn_queue p t) f.lost f.may
            (m.passes.calm p) (left p low) down;
      };
    }
