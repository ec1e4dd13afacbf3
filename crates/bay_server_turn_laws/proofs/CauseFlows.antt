-- What a turn tells of one association has its cause, act by act.
use Rattle.std.proofs.Common.{Bool, Err, List, None, Ok, Result, [], ap, append-nil, arith, false, inl, inr, length, refl, subst, sym, true, ℕ, ◌&&◌, ◌++◌, ◌+◌, ◌<◌, ◌==◌, ◌||◌, ◌∷◌, ◌≡◌, ◌≢◌, ◌≤◌}
use Rattle.std.proofs.lemmas.Bool.{cases_eq}
use Rattle.bay_device.specs.Outcomes.{last_moment, outcome}
use Rattle.bay_device.specs.Steps.{IsWithoutOctets}
use Rattle.bay_device.specs.declared.event.Event.{Event}
use Rattle.bay_device.specs.declared.event.Event.TheVariants.{Close, Open, Recv, Scan}
use Rattle.bay_device.specs.declared.event.Step.{Step}
use Rattle.bay_device.specs.declared.event.Why.{Why}
use Rattle.bay_device.specs.declared.event.Why.TheVariants.{Ended}
use Rattle.bay_device.specs.declared.fault.StepFault.{StepFault}
use Rattle.bay_trace.specs.Resolving.{borrow_of}
use Rattle.bay_server_turn.specs.Calls.{Call, Closes}
use Rattle.bay_server_turn.specs.AssociationStates.{is_close_reported}
use Rattle.bay_server_turn.specs.Turns.{ServerData, TurnData, Script, TurnState, after_event, after_opening, after_closing, after_turn, close_at_once, event_of, after_end, is_open_at, start_closing, after_device_close, nothing_noted, put_answer, server_queue, turn_queue, state_at, after_octets, turn_begin, turn_calls, with_device, with_noted}
use Rattle.bay_server_turn.specs.declared.process_input.ProcessReport.{ProcessReport}
use Rattle.bay_server_turn.specs.declared.turn_report.CloseReason.TheVariants as closing
use Rattle.bay_server_turn_laws.specs.Causes.{HasItsCause, ends_for, fails_for, has_some, reason_in, reasons_of}
use Rattle.bay_server_turn_laws.specs.Events.{ChosenEvent, outcomes_at, with_memory, turn_events}
use Rattle.bay_server_turn_laws.specs.Flows.{IsInTime, IsTidy}
use Rattle.bay_server_turn_laws.specs.CloseReports.{closed_in}
use Rattle.bay_server_turn_laws.proofs.Acts.{Act, Asks, Breaks, Can, Fills, HangsUp, Hears, Offers, Parts, Scans, Tells, after, calls_by, events_by}
use Rattle.bay_server_turn_laws.proofs.CallLemmas.{and-no, closing-says, other-number, same-number, some-append}
use Rattle.bay_server_turn_laws.proofs.CauseLemmas.{Knows, Ready, Still, Still-refl, ended-knows, failed-knows, knows-as, left-knows, nothing-known, parted-knows, ready-filled, still-kept, still-knows}
use Rattle.bay_server_turn_laws.proofs.ClosingLemmas.{IsOwn, other-named, outcome-own, plus-none, quiet-closes, reasons-append, up-untold}
use Rattle.bay_server_turn_laws.proofs.KeepLemmas.{Concerns, IsFilled, keep-act, keep-rest, keep-stepped}
use Rattle.bay_server_turn_laws.proofs.QuietLemmas.{outcome-quiet, process-quiet}
use Rattle.bay_server_turn_laws.proofs.TellsLemmas.{or-none}
use Rattle.bay_server_turn_laws.proofs.TurnFlows.{Flowing, act-flows, begins-flowing}
use Rattle.bay_server_turn_laws.proofs.KeptLemmas.{IsKept, answers_to, turned-keeps}
use Rattle.bay_server_turn_laws.proofs.WalkLemmas.{Begins, Opening, Quietly, turn-is-acts}

-- ---- an act

module _ (now p : ℕ) (low : p < 8) where
  abbrev pub Others : ℕ → Type 0
  Others slot = slot ≢ p

  -- what is known behind it
  abbrev Learns : TurnState → Act → Type 0
  Learns s a = (x y : Bool) (z : List Why) → Knows p x y z s.noted
      → Knows p (x || has_some (fails_for (p + 1)) (calls_by a))
      (y || has_some (ends_for (p + 1)) (calls_by a))
      (z ++ reasons_of (p + 1) (answers_to now (events_by a) s)) (after now a s).noted

  -- an event without octets closes nothing
  no-reason : (event : Event) (s : TurnState) → IsWithoutOctets event
      → reasons_of (p + 1) (answers_to now (with_memory event ∷ []) s) ≡ []
  no-reason event s q =
      let o = outcome None now event s.server.device in
      ap (λ l. l ++ [])
      (quiet-closes (p + 1) o.answer (outcome-quiet None now event s.server.device q))

  -- an act that does not concern it
  still-learns : (a : Act) (s : TurnState) → length s.noted.states ≡ 8 → Can 8 a s
      → Concerns Others a → has_some (fails_for (p + 1)) (calls_by a) ≡ false
      → has_some (ends_for (p + 1)) (calls_by a) ≡ false
      → reasons_of (p + 1) (answers_to now (events_by a) s) ≡ [] → Learns s a
  still-learns a s sized can may fails ends closes x y z k =
      knows-as p x y z _ _ _ (after now a s).noted (or-none x _ fails) (or-none y _ ends)
      (plus-none z _ closes) (still-knows p x y z s.noted (after now a s).noted
      (keep-act 8 Others (Still p s.noted) (still-kept p low s.noted) now a s can may
      (record { sized = sized; holds = Still-refl p s.noted sized })).holds k)

  pub filled-still : (n : TurnData) → IsFilled (Still p n)
  filled-still n slot m s = (still-kept p low n).fills slot m s.sized s

  answer-knows : (x y : Bool) (z : List Why) (answer : Result Step StepFault) (s : TurnState)
      → IsOwn (p + 1) (closed_in answer) → Ready p low x y z s.noted
      → Knows p x y (z ++ reason_in (p + 1) (closed_in answer)) (put_answer p answer s).noted
  answer-knows x y z (Err fault) s own r =
      knows-as p x y z x y (z ++ []) s.noted refl refl (plus-none z [] refl) r.knows
  answer-knows x y z (Ok step) s own r =
      let left : TurnState = after_device_close p step.closed s in
      let k = left-knows p low x y z step.closed s.noted r.untold own r.knows in
      still-knows p x y (z ++ reason_in (p + 1) step.closed) left.noted
      (put_answer p (Ok step) s).noted
      (keep-rest (Still p left.noted) (filled-still left.noted) now p step s
      (still-kept p low left.noted).orders (Still-refl p left.noted k.sized)) k

  cut-knows : (x y : Bool) (z : List Why) (s : TurnState) → Ready p low x y z s.noted
      → Knows p (x || true) y z (close_at_once now closing.LinkFailed p s).noted
  unfolding close_at_once
  cut-knows x y z s r =
      let t : TurnState = after_event now (Close (p + 1)) s in
      let then = keep-stepped (Ready p low x y z) (ready-filled p low x y z) now (Close (p + 1)) s r
      in
      failed-knows p low x y z t.noted then.untold then.knows

  hung-knows : (x y : Bool) (z : List Why) (s : TurnState) → Ready p low x y z s.noted
      → Knows p x (y || true) z (after_end now p s).noted
  hung-knows x y z s r =
      let left : TurnState = with_noted (start_closing p Ended s.noted) s in
      let k = ended-knows p low x y z s.noted r.untold r.knows in
      still-knows p x (y || true) z left.noted (after_end now p s).noted
      (keep-stepped (Still p left.noted) (filled-still left.noted) now (Close (p + 1)) left
      (Still-refl p left.noted k.sized)) k

  module _ (s : TurnState) (sized : length s.noted.states ≡ 8)
      (untold : is_open_at p s ≡ true → is_close_reported (state_at p s) ≡ false) where
    same-place : (F : ℕ → Act) (i : ℕ) → (Can 8 (F p) s → Learns s (F p))
        → (i ≢ p → Can 8 (F i) s → Learns s (F i)) → Can 8 (F i) s → Learns s (F i)
    same-place F i here far = elim (cases_eq i p) [
      | inl e ↦ subst (λ q. Can 8 (F q) s → Learns s (F q)) (sym e) here
      | inr ne ↦ far ne
    ]

    act-learns : (a : Act) → Can 8 a s → Learns s a
    act-learns (Asks call) = λ can.
        let says = can.says (p + 1) in
        still-learns (Asks call) s sized can tt says.fails says.ends refl
    act-learns (Hears i choice octets) = same-place (λ q. Hears q choice octets) i
        (λ can x y z k.
        let o = outcome choice now (Recv (p + 1) (borrow_of octets)) s.server.device in
        let b = reason_in (p + 1) (closed_in o.answer) in
        let none = ap (λ v. v || false) (and-no (p + 1 == p + 1)) in
        knows-as p x y (z ++ b) _ _ _ (after_octets now p choice octets s).noted (or-none x _ none)
        (or-none y _ none) (ap (λ l. z ++ l) (sym (append-nil b)))
        (answer-knows x y z o.answer (with_device o.after s)
        (outcome-own choice now (p + 1) octets s.server.device)
        (record { untold = untold can.up; knows = k })))
        (λ ne can.
        let o = outcome choice now (Recv (i + 1) (borrow_of octets)) s.server.device in
        let none = λ (b : Bool). ap (λ v. (v && b) || false) (other-number i p ne) in
        still-learns (Hears i choice octets) s sized can ne (none false) (none false)
        (ap (λ l. l ++ []) (other-named p i (closed_in o.answer) ne
        (outcome-own choice now (i + 1) octets s.server.device))))
    act-learns (HangsUp i) = same-place HangsUp i
        (λ can x y z k.
        knows-as p x (y || true) z _ _ _ (after_end now p s).noted
        (or-none x _ (ap (λ v. v || false) (and-no (p + 1 == p + 1))))
        (ap (λ b. y || ((b && true) || false)) (sym (same-number p)))
        (plus-none z _ (no-reason (Close (p + 1)) s tt))
        (hung-knows x y z s (record { untold = untold can.up; knows = k })))
        (λ ne can.
        let none = λ (b : Bool). ap (λ v. (v && b) || false) (other-number i p ne) in
        still-learns (HangsUp i) s sized can ne (none false) (none true)
        (no-reason (Close (i + 1)) s tt))
    act-learns (Tells source event) = λ can.
        still-learns (Tells source event) s sized can tt refl refl
        (no-reason (event_of event) s (process-quiet event))
    act-learns Scans = λ can. still-learns Scans s sized can tt refl refl (no-reason Scan s tt)
    act-learns (Fills slot) = λ can.
        still-learns (Fills slot) s sized can tt refl refl (no-reason (Close (slot + 1)) s tt)
    act-learns (Breaks i calls) = same-place (λ q. Breaks q calls) i
        (λ can x y z k.
        let says = closing-says (p + 1) p _ _ _ calls can.1.offered.own in
        knows-as p (x || true) y z _ _ _ (close_at_once now closing.LinkFailed p s).noted
        (ap (λ b. x || b) (sym says.fails)) (or-none y _ says.ends)
        (plus-none z _ (no-reason (Close (p + 1)) s tt))
        (cut-knows x y z s (record { untold = untold can.1.is_open.up; knows = k })))
        (λ ne can.
        let says = closing-says (p + 1) i _ _ _ calls (can.1.offered.far p ne) in
        still-learns (Breaks i calls) s sized can ne says.fails says.ends
        (no-reason (Close (i + 1)) s tt))
    act-learns (Offers i calls left) = same-place (λ q. Offers q calls left) i
        (λ can. still-learns (Offers p calls left) s sized can tt can.offered.own.fails
        can.offered.own.ends refl)
        (λ ne can. let says = can.offered.far p ne in
        still-learns (Offers i calls left) s sized can tt says.fails says.ends refl)
    act-learns (Parts i calls) = same-place (λ q. Parts q calls) i
        (λ can x y z k.
        let says = closing-says (p + 1) p _ _ _ calls can.offered.own in
        knows-as p _ y z _ _ _ (after_closing p s).noted refl (or-none y _ says.ends)
        (plus-none z [] refl)
        (parted-knows p low x y z (has_some (fails_for (p + 1)) (calls ++ Closes (p + 1) ∷ []))
        s.noted can.leaves k))
        (λ ne can. let says = closing-says (p + 1) i _ _ _ calls (can.offered.far p ne) in
        still-learns (Parts i calls) s sized can tt says.fails says.ends refl)

-- ---- a whole turn

-- what is known, by the calls and the answers up to here
abbrev pub Known : ℕ → List Call → List (Result Step StepFault) → TurnData → Type 0
Known p c r n =
    Knows p (has_some (fails_for (p + 1)) c) (has_some (ends_for (p + 1)) c)
    (reasons_of (p + 1) r) n

-- an association that is open was not told of
record Learned (now p : ℕ) (held : List ℕ) (c : List Call) (e : List ChosenEvent)
    (r : List (Result Step StepFault)) (s : TurnState) : Type 0 where
  flowing : Flowing now p held c e r s
  known : Known p c r s.noted

module _ (now p : ℕ) (low : p < 8) (past : now ≤ last_moment) where
  act-learned : (held : List ℕ) → IsKept now 8 (Learned now p held)
  act-learned held a c e r s sized can i =
      let f = i.flowing.carries in
      record {
        flowing = act-flows 8 now p low past held a c e r s sized can i.flowing;
        known = knows-as p _ _ _ _ _ _ (after now a s).noted
            (sym (some-append (fails_for (p + 1)) c (calls_by a)))
            (sym (some-append (ends_for (p + 1)) c (calls_by a)))
            (sym (reasons-append (p + 1) r (answers_to now (events_by a) s)))
            (act-learns now p low s sized
            (up-untold (state_at p s) (is_open_at p s) (turn_queue p s) f.lost f.may) a can _ _ _
            i.known);
      }

  begins-learned : (h : ServerData) (s : TurnState) (c : List Call) (e : List ChosenEvent)
      → IsTidy h
      → h.device.moment ≤ now → (b : Begins now 8 h s c e)
      → Known p c (outcomes_at now e h.device).answers s.noted
  begins-learned h s c e tidy before Quietly = nothing-known p low
  begins-learned h s c e tidy before (Opening slot from free) =
      knows-as p false false [] _ _ _ (after_opening now slot (turn_begin h)).noted refl refl
      (sym (no-reason now p low (Open (slot + 1)) (turn_begin h) tt))
      (still-knows p false false [] nothing_noted (after_opening now slot (turn_begin h)).noted
      (keep-stepped (Still p nothing_noted) (filled-still now p low nothing_noted) now
      (Open (slot + 1)) (turn_begin h) (Still-refl p nothing_noted refl)) (nothing-known p low))

pub knows-turn : (now : ℕ) (given : ProcessReport) (script : Script) (h : ServerData) → IsTidy h
    → IsInTime now h → length script.readings ≤ 8 → length script.offers ≡ 8
    → (p : ℕ) → p < 8
    → Known p (turn_calls now given script h)
    (outcomes_at now (turn_events now given script h) h.device).answers
    (after_turn now given script h).noted
knows-turn now given script h tidy time readings offers p low =
    let past = time.not_past in
    let m = turn-is-acts now 8 given script h (omega (arith, readings)) (omega (arith, offers)) in
    (turned-keeps now 8 (Learned now p (server_queue p h))
    (act-learned now p low past (server_queue p h)) h
    script.accepted (after_turn now given script h) (turn_calls now given script h)
    (turn_events now given script h) m (record {
      flowing = begins-flowing 8 now p low past h m.start m.calls m.events tidy time.not_before
          m.begins;
      known = begins-learned now p low past h m.start m.calls m.events tidy time.not_before
          m.begins;
    })).known

pub has-its-cause : (now : ℕ) (given : ProcessReport) (script : Script) (h : ServerData) → IsTidy h
    → IsInTime now h → length script.readings ≤ 8 → length script.offers ≡ 8
    → (p : ℕ) → p < 8 → HasItsCause now given script h (p + 1)
has-its-cause now given script h tidy time readings offers p low =
    (knows-turn now given script h tidy time readings offers p low).caused
