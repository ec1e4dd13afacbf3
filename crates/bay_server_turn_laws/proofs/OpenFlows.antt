-- An association that was open, or was opened, is open after a part of a turn, or it was told of.
use Rattle.std.proofs.Common.{Err, List, None, Ok, Option, Result, Some, [], ap, arith, false, get_or, inl, inr, is_none, length, refl, slice_get, subst, suc, sym, true, unwrap_or, zero, ℕ, ◌+◌, ◌<◌, ◌∙◌, ◌∷◌, ◌≡◌, ◌≤◌}
use Rattle.std.proofs.lemmas.Bool.{cases_eq}
use Rattle.std.proofs.lemmas.List.{get_or-set_same, length-set}
use Rattle.std.proofs.lemmas.List.Quantifiers.{position-Some}
use Rattle.bay_connection.specs.ConnectionStates.{ConnectionState}
use Rattle.bay_device.specs.Outcomes.{last_moment, outcome}
use Rattle.bay_device.specs.declared.event.Event.TheVariants.{Close, Open, Recv}
use Rattle.bay_device.specs.declared.event.Step.{Step}
use Rattle.bay_device.specs.declared.event.Why.{Why}
use Rattle.bay_device.specs.declared.event.Why.TheVariants.{Ended}
use Rattle.bay_device.specs.declared.fault.StepFault.{StepFault}
use Rattle.bay_trace.specs.Resolving.{borrow_of}
use Rattle.bay_server_turn.specs.Calls.{Call}
use Rattle.bay_server_turn.specs.AssociationStates.{is_close_reported}
use Rattle.bay_server_turn.specs.Turns.{ServerData, Script, TurnState, after_event, after_opening, after_turn, close_at_once, lowest_free_association, after_end, is_open_at, has_open, start_closing, after_device_close, put_answer, noted_state, state_at, after_octets, turn_begin, turn_calls, with_device, with_noted}
use Rattle.bay_server_turn.specs.declared.process_input.ProcessReport.{ProcessReport}
use Rattle.bay_server_turn.specs.declared.association_state.AssociationState.TheVariants.{Closed, Draining, Steady}
use Rattle.bay_server_turn.specs.declared.turn_report.CloseReason.{CloseReason}
use Rattle.bay_server_turn.specs.declared.turn_report.CloseReason.TheVariants as closing
use Rattle.bay_server_turn_laws.specs.Events.{ChosenEvent, outcomes_at, turn_events}
use Rattle.bay_server_turn_laws.specs.Flows.{IsInTime}
use Rattle.bay_server_turn_laws.specs.Fullness.{IsOpenIn}
use Rattle.bay_server_turn_laws.proofs.Acts.{Act, Asks, Breaks, Can, Fills, HangsUp, Hears, Offers, Parts, Scans, Tells, after, events_by}
use Rattle.bay_server_turn_laws.proofs.CalmLemmas.{gone-standings}
use Rattle.bay_server_turn_laws.proofs.CauseFlows.{Others, filled-still}
use Rattle.bay_server_turn_laws.proofs.CauseLemmas.{Still, Still-refl, rises, still-kept}
use Rattle.bay_server_turn_laws.proofs.KeepLemmas.{Concerns, keep-act, keep-rest, keep-stepped}
use Rattle.bay_server_turn_laws.proofs.PutLemmas.{told_why-standings}
use Rattle.bay_server_turn_laws.proofs.SameLemmas.{put_answer-commands, put_quiet-same}
use Rattle.bay_server_turn_laws.proofs.UpLemmas.{HeardOpen, LeftOpen, close-outcome-far, open-outcome-here, open-outcome-up, process-outcome-up, recv-outcome-far, recv-outcome-here, scan-outcome-up, up_at}
use Rattle.bay_server_turn_laws.proofs.KeptLemmas.{turned-keeps}
use Rattle.bay_server_turn_laws.proofs.WalkLemmas.{Begins, Opening, Quietly, device-act, turn-is-acts}

get-is : (ts : List (Option ConnectionState)) (i : ℕ)
    → unwrap_or (slice_get ts i) None ≡ get_or ts i None
get-is [] i = refl
get-is (t ∷ ts) zero = refl
get-is (t ∷ ts) (suc i) = get-is ts i

none-is : (t : Option ConnectionState) → is_none t ≡ true → t ≡ None
none-is None e = refl
none-is (Some t) e = absurd (cc)

module _ (now p : ℕ) (low : p < 8) where
  -- where it was not told of it is open
  abbrev pub Opened : TurnState → Type 0
  Opened s = is_close_reported (state_at p s) ≡ false → is_open_at p s ≡ true

  -- it was told of
  told-open : (s : TurnState) → is_close_reported (state_at p s) ≡ true → Opened s
  told-open s reported e = absurd (let no : true ≡ false = sym reported ∙ e in cc)

  -- what it was told of is not told less
  still-told : (s t : TurnState) → Still p s.noted t.noted → is_close_reported (state_at p s) ≡ true
      → Opened t
  still-told s t still reported e =
      absurd (let no : true ≡ false = sym reported ∙ still.reported e in cc)

  -- an act that does not concern it
  far-open : (a : Act) (s : TurnState) → length s.noted.states ≡ 8 → Can 8 a s
      → Concerns (Others now p low) a
      → (is_open_at p s ≡ true
      → up_at p (outcomes_at now (events_by a) s.server.device).after ≡ true)
      → Opened s → Opened (after now a s)
  far-open a s sized can may up o e =
      let still =
      (keep-act 8 (Others now p low) (Still p s.noted) (still-kept p low s.noted) now a s can
      may (record { sized = sized; holds = Still-refl p s.noted sized })).holds in
      ap (up_at p) (device-act now 8 a s) ∙ up (o (still.reported e))

  cut-own : (why : CloseReason) (s : TurnState) → length s.noted.states ≡ 8
      → Opened (close_at_once now why p s)
  cut-own why s sized =
      let t : TurnState = after_event now (Close (p + 1)) s in
      let still =
      keep-stepped (Still p s.noted) (filled-still now p low s.noted) now (Close (p + 1)) s
      (Still-refl p s.noted sized) in
      told-open (close_at_once now why p s)
      (ap (λ l. is_close_reported (get_or l p Steady)) (gone-standings now p why s)
      ∙ ap is_close_reported (get_or-set_same t.noted.states p Closed Steady
      (subst (λ (k : ℕ). p < k) (sym still.sized) low)))

  -- one that was taken is open
  opened-here : (s : TurnState) → s.server.device.moment ≤ now → now ≤ last_moment
      → lowest_free_association s.server ≡ Some p → Opened (after_opening now p s)
  opened-here s before past free e =
      let found = position-Some is_none s.server.device.connections p None free in
      let a = outcome None now (Open (p + 1)) s.server.device in
      ap (up_at p) (put_quiet-same a.answer (with_device a.after s)).device
      ∙ open-outcome-here None now p s.server.device low past before found.0
      (get-is s.server.device.connections p ∙ none-is _ found.1)

  -- it left: what comes then does not bring it back
  left-told : (why : Why) (s : TurnState) → length s.noted.states ≡ 8
      → is_close_reported (noted_state p (start_closing p why s.noted)) ≡ true
  left-told why s sized =
      ap is_close_reported (get_or-set_same _ p Draining Steady
      (subst (λ (k : ℕ). p < k) (sym (ap length (told_why-standings p why s.noted) ∙ sized)) low))

  left-sized : (why : Why) (s : TurnState) → length s.noted.states ≡ 8
      → length (start_closing p why s.noted).states ≡ 8
  left-sized why s sized =
      length-set _ p Draining ∙ ap length (told_why-standings p why s.noted) ∙ sized

  rest-open : (step : Step) (s : TurnState) (closed : Option (ℕ × Why)) → step.closed ≡ closed
      → LeftOpen p closed s.server.device → length s.noted.states ≡ 8
      → Opened (put_answer p (Ok step) s)
  rest-open step s None is left sized = λ e.
      ap (up_at p) (put_answer-commands p (Ok step) s).device ∙ left
  rest-open step s (Some c) is left sized =
      let here : TurnState = with_noted (start_closing p c.1 s.noted) s in
      still-told here (put_answer p (Ok step) s)
      (keep-rest (Still p here.noted) (filled-still now p low here.noted) now p step s
      (still-kept p low here.noted).orders
      (subst (λ o. Still p here.noted (after_device_close p o s).noted) (sym is)
      (Still-refl p here.noted (left-sized c.1 s sized)))) (left-told c.1 s sized)

  answer-open : (answer : Result Step StepFault) (s : TurnState)
      → HeardOpen p answer s.server.device → length s.noted.states ≡ 8
      → Opened (put_answer p answer s)
  answer-open (Err fault) s left sized = λ e. left
  answer-open (Ok step) s left sized = rest-open step s step.closed refl left sized

  hung-own : (s : TurnState) → length s.noted.states ≡ 8 → Opened (after_end now p s)
  hung-own s sized =
      let left : TurnState = with_noted (start_closing p Ended s.noted) s in
      still-told left (after_end now p s)
      (keep-stepped (Still p left.noted) (filled-still now p low left.noted) now (Close (p + 1))
      left (Still-refl p left.noted (left-sized Ended s sized))) (left-told Ended s sized)

  act-open : (a : Act) (s : TurnState) → length s.noted.states ≡ 8 → Can 8 a s → Opened s
      → Opened (after now a s)
  act-open (Asks call) s sized can o = o
  act-open (Hears slot choice octets) s sized can o = elim (cases_eq slot p) [
    | inl e ↦ subst (λ q. Opened (after_octets now q choice octets s)) (sym e)
        (let a = outcome choice now (Recv (p + 1) (borrow_of octets)) s.server.device in
        answer-open a.answer (with_device a.after s)
        (recv-outcome-here choice now p octets s.server.device low
        (ap (λ q. is_open_at q s) (sym e) ∙ can.up)) sized)
    | inr ne ↦ far-open (Hears slot choice octets) s sized can ne
        (λ u. recv-outcome-far choice now slot p octets s.server.device ne ∙ u) o
  ]
  act-open (HangsUp slot) s sized can o = elim (cases_eq slot p) [
    | inl e ↦ subst (λ q. Opened (after_end now q s)) (sym e) (hung-own s sized)
    | inr ne ↦ far-open (HangsUp slot) s sized can ne
        (λ u. close-outcome-far None now slot p s.server.device ne ∙ u) o
  ]
  act-open (Tells source event) s sized can o =
      far-open (Tells source event) s sized can tt
      (λ u. process-outcome-up None now p event s.server.device ∙ u) o
  act-open Scans s sized can o =
      far-open Scans s sized can tt (λ u. scan-outcome-up None now p s.server.device ∙ u) o
  act-open (Fills slot) s sized can o = elim (cases_eq slot p) [
    | inl e ↦ subst (λ q. Opened (close_at_once now closing.QueueFull q s)) (sym e)
        (cut-own closing.QueueFull s sized)
    | inr ne ↦ far-open (Fills slot) s sized can tt
        (λ u. close-outcome-far None now slot p s.server.device ne ∙ u) o
  ]
  act-open (Breaks slot calls) s sized can o = elim (cases_eq slot p) [
    | inl e ↦ subst (λ q. Opened (close_at_once now closing.LinkFailed q s)) (sym e)
        (cut-own closing.LinkFailed s sized)
    | inr ne ↦ far-open (Breaks slot calls) s sized can ne
        (λ u. close-outcome-far None now slot p s.server.device ne ∙ u) o
  ]
  act-open (Offers slot calls left) s sized can o =
      far-open (Offers slot calls left) s sized can tt (λ u. u) o
  act-open (Parts slot calls) s sized can o =
      far-open (Parts slot calls) s sized can tt (λ u. u) o

  -- behind the accept
  begins-open : (h : ServerData) (s : TurnState) (c : List Call) (e : List ChosenEvent)
      → Begins now 8 h s c e → has_open p h ≡ true → Opened s
  begins-open h s c e Quietly up f = up
  begins-open h s c e (Opening slot from free) up f =
      let a = outcome None now (Open (slot + 1)) h.device in
      ap (up_at p) (put_quiet-same a.answer (with_device a.after (turn_begin h))).device
      ∙ rises (has_open p h) _ (open-outcome-up None now (slot + 1) p h.device) up

  pub turned-open : (given : ProcessReport) (script : Script) (h : ServerData) → IsInTime now h
      → length script.readings ≤ 8 → length script.offers ≡ 8
      → IsOpenIn p script h → Opened (after_turn now given script h)
  turned-open given script h time readings offers is =
      let m = turn-is-acts now 8 given script h (omega (arith, readings)) (omega (arith, offers)) in
      turned-keeps now 8 (λ c e r s. Opened s) (λ a c e r s sized can o. act-open a s sized can o) h
      script.accepted (after_turn now given script h) (turn_calls now given script h)
      (turn_events now given script h) m (elim is [
        | inl up ↦ begins-open h m.start m.calls m.events m.begins up
        | inr took ↦ subst Opened (sym (m.opens p took.1 took.0 took.2))
            (opened-here (turn_begin h) time.not_before time.not_past took.0)
      ])
