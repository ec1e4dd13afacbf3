-- An invariant that each act of a turn keeps holds at its end.
use Rattle.std.proofs.Common.{List, None, Option, Result, [], ap, append-nil, append_assoc, length, refl, subst, sym, ℕ, ◌++◌, ◌+◌, ◌∙◌, ◌≡◌}
use Rattle.std.specs.declared.net.socket_addr.SocketAddrV4.{SocketAddrV4}
use Rattle.bay_device.specs.Outcomes.{outcome}
use Rattle.bay_device.specs.declared.event.Event.TheVariants.{Open}
use Rattle.bay_device.specs.declared.event.Step.{Step}
use Rattle.bay_device.specs.declared.fault.StepFault.{StepFault}
use Rattle.bay_server_turn.specs.Calls.{Call}
use Rattle.bay_server_turn.specs.Turns.{ServerData, TurnData, TurnState, nothing_noted, turn_begin, with_device}
use Rattle.bay_server_turn_laws.specs.Events.{ChosenEvent, outcomes_at}
use Rattle.bay_server_turn_laws.proofs.Acts.{Act, Can, after, calls_by, events_by}
use Rattle.bay_server_turn_laws.proofs.DoneLemmas.{done-append}
use Rattle.bay_server_turn_laws.proofs.KeepLemmas.{Each, IsNoted, Kept, all-concern, fills-kept, keep-act, keep-stepped}
use Rattle.bay_server_turn_laws.proofs.SameLemmas.{put_quiet-same}
use Rattle.bay_server_turn_laws.proofs.WalkLemmas.{Begins, Goes, Leads, Opening, Quietly, Stays, Turned, device-act}

-- ---- an invariant

-- What holds of the calls, the events and the answers up to here, and of a turn under way.
abbrev pub Invariant : Type 1
Invariant = List Call → List ChosenEvent → List (Result Step StepFault) → TurnState → Type 0

-- the answers to events, from a device on
abbrev pub answers_to : ℕ → List ChosenEvent → TurnState → List (Result Step StepFault)
answers_to now e s = (outcomes_at now e s.server.device).answers

module _ (now most : ℕ) where
  begins-device : (h : ServerData) (s : TurnState) (c : List Call) (e : List ChosenEvent)
      → Begins now most h s c e → s.server.device ≡ (outcomes_at now e h.device).after
  begins-device h s c e Quietly = refl
  begins-device h s c e (Opening slot from free) =
      let o = outcome None now (Open (slot + 1)) h.device in
      (put_quiet-same o.answer (with_device o.after (turn_begin h))).device

  pub leads-device : (s t : TurnState) (c : List Call) (e : List ChosenEvent)
      → Leads now most s c e t
      → t.server.device ≡ (outcomes_at now e s.server.device).after
  leads-device s t c e (Stays v) = refl
  leads-device s t c e (Goes a v c1 e1 w sized can l) =
      leads-device (after now a v) w c1 e1 l
      ∙ ap (λ d. (outcomes_at now e1 d).after) (device-act now most a v)
      ∙ sym (done-append now (events_by a) e1 v.server.device).after

  -- the device after a turn is that of its events
  pub turned-device : (h : ServerData) (taken : Option (Option SocketAddrV4)) (t : TurnState)
      (c : List Call) (e : List ChosenEvent) → Turned now most h taken c e t
      → t.server.device ≡ (outcomes_at now e h.device).after
  turned-device h taken t c e m =
      leads-device m.start t m.more m.further m.passes.leads
      ∙ ap (λ d. (outcomes_at now m.further d).after)
      (begins-device h m.start m.calls m.events m.begins)
      ∙ sym (done-append now m.events m.further h.device).after
      ∙ ap (λ l. (outcomes_at now l h.device).after) m.events_are

module _ (now most : ℕ) (I : Invariant) where
  same-log : (c d : List Call) (e x : List ChosenEvent) (a b : List (Result Step StepFault))
      (t : TurnState) → c ≡ d → e ≡ x → a ≡ b → I c e a t → I d x b t
  same-log c d e x a b t f g k i =
      subst (λ l. I d x l t) k (subst (λ l. I d l a t) g (subst (λ l. I l e a t) f i))

  -- each act keeps it
  abbrev pub IsKept : Type 0
  IsKept = (a : Act) (c : List Call) (e : List ChosenEvent) (r : List (Result Step StepFault))
      (s : TurnState) → length s.noted.states ≡ 8 → Can most a s → I c e r s
      → I (c ++ calls_by a) (e ++ events_by a) (r ++ answers_to now (events_by a) s) (after now a s)

  module _ (kept : IsKept) where
    leads-keep : (s t : TurnState) (c : List Call) (e : List ChosenEvent) → Leads now most s c e t
        → (d : List Call) (x : List ChosenEvent) (r : List (Result Step StepFault)) → I d x r s
        → I (d ++ c) (x ++ e) (r ++ answers_to now e s) t
    leads-keep s t c e (Stays v) d x r i =
        same-log d (d ++ []) x (x ++ []) r (r ++ []) v (sym (append-nil d)) (sym (append-nil x))
        (sym (append-nil r)) i
    leads-keep s t c e (Goes a v c1 e1 w sized can l) d x r i =
        let u : TurnState = after now a v in
        let here = answers_to now (events_by a) v in
        let both = done-append now (events_by a) e1 v.server.device in
        same-log ((d ++ calls_by a) ++ c1) _ ((x ++ events_by a) ++ e1) _
        ((r ++ here) ++ answers_to now e1 u) _ w (append_assoc d (calls_by a) c1)
        (append_assoc x (events_by a) e1)
        (append_assoc r here (answers_to now e1 u) ∙ ap (λ l. r ++ l)
        (ap (λ f. here ++ (outcomes_at now e1 f).answers) (device-act now most a v)
        ∙ sym both.answers))
        (leads-keep u w c1 e1 l (d ++ calls_by a) (x ++ events_by a) (r ++ here)
        (kept a d x r v sized can i))

    -- what holds where a turn begins holds at its end
    pub turned-keeps : (h : ServerData) (taken : Option (Option SocketAddrV4)) (t : TurnState)
        (c : List Call) (e : List ChosenEvent) (m : Turned now most h taken c e t)
        → I m.calls m.events (outcomes_at now m.events h.device).answers m.start
        → I c e (outcomes_at now e h.device).answers t
    turned-keeps h taken t c e m i =
        let first = (outcomes_at now m.events h.device).answers in
        let both = done-append now m.events m.further h.device in
        same-log (m.calls ++ m.more) c (m.events ++ m.further) e _ _ t m.calls_are m.events_are
        (ap (λ d. first ++ (outcomes_at now m.further d).answers)
        (begins-device now most h m.start m.calls m.events m.begins) ∙ sym both.answers
        ∙ ap (λ l. (outcomes_at now l h.device).answers) m.events_are)
        (leads-keep m.start t m.more m.further m.passes.leads m.calls m.events first i)

-- ---- notes

module _ (now most : ℕ) (P : TurnData → Type 0) (k : IsNoted most Each P) where
  pub keep-leads : (s t : TurnState) (c : List Call) (e : List ChosenEvent) → Leads now most s c e t
      → P s.noted → P t.noted
  keep-leads s t c e (Stays v) p = p
  keep-leads s t c e (Goes a v c1 e1 w sized can l) p =
      keep-leads (after now a v) w c1 e1 l
      (keep-act most Each P k now a v can (all-concern Each (λ slot. tt) a)
      (record { sized = sized; holds = p })).holds

  keep-begins : (h : ServerData) (s : TurnState) (c : List Call) (e : List ChosenEvent)
      → Begins now most h s c e → P nothing_noted → Kept P s.noted
  keep-begins h s c e Quietly p = record { sized = refl; holds = p }
  keep-begins h s c e (Opening slot from free) p =
      keep-stepped (Kept P) (fills-kept most Each P k now) now (Open (slot + 1)) (turn_begin h)
      (record { sized = refl; holds = p })

  pub keep-turn : (h : ServerData) (taken : Option (Option SocketAddrV4)) (t : TurnState)
      (c : List Call) (e : List ChosenEvent) → Turned now most h taken c e t → P nothing_noted
      → P t.noted
  keep-turn h taken t c e m p =
      keep-leads m.start t m.more m.further m.passes.leads
      (keep-begins h m.start m.calls m.events m.begins p).holds
