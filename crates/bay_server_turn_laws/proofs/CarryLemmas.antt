-- What the queue of one association carries.
use Rattle.std.proofs.Common.{◌≡◌, ◌≢◌, ℕ, ◌+◌, ◌<◌, ◌≤◌, ◌==◌, Bool, true, false, if◌then◌else◌, List, [], ◌∷◌, ◌++◌, length, get_or, set, Option, Some, None, Result, Ok, Err, refl, ap, sym, ◌∙◌, subst, arith, append_assoc, append-nil, length-append}
use Rattle.std.proofs.lemmas.Bool.{eqb-true, eq-eqb, leb-false}
use Rattle.std.proofs.lemmas.List.{get_or-set_same, get_or-set_other, length-set}
use Rattle.bay_device.specs.Device.{State}
use Rattle.bay_device.specs.Outcomes.{slot_of}
use Rattle.bay_device.specs.declared.event.Event.{Event}
use Rattle.bay_device.specs.declared.event.Sent.{Sent}
use Rattle.bay_device.specs.declared.event.Step.{Step}
use Rattle.bay_device.specs.declared.fault.StepFault.{StepFault}
use Rattle.bay_server_turn.specs.AssociationStates.{after_full, accepts_replies}
use Rattle.bay_server_turn.specs.Turns.{TurnState, has_room, is_open_at, put_all, put_at, put_ended, put_quiet, put_sent, record_refusal, put_whole, turn_queue, state_at, with_state, with_device, with_noted, with_queue, with_recorded}
use Rattle.bay_server_turn.specs.declared.association_state.AssociationState.{AssociationState}
use Rattle.bay_server_turn.specs.declared.association_state.AssociationState.TheVariants.{Steady, Full, Draining, DrainingFull, Closed}
use Rattle.bay_server_turn_laws.specs.Causes.{is_queue_full, reports_close}
use Rattle.bay_server_turn_laws.specs.Flows.{sends_to, answer_to, end_to, octets_to}
use Rattle.bay_server_turn_laws.proofs.QuietLemmas.{IsQuiet}
use Rattle.bay_server_turn_laws.proofs.UpLemmas.{number-of, place-of, up_at}

-- what may be lost, by how the association stands, whether it is open, and its queue
abbrev pub MayLose : AssociationState → Bool → List ℕ → List ℕ → Type 0
MayLose Steady true queue lost = lost ≡ []
MayLose Steady false queue lost = queue ≡ []
MayLose Full up queue lost = 262144 < length queue + length lost
MayLose Draining up queue lost = (lost ≡ []) × (up ≡ false)
MayLose DrainingFull up queue lost = up ≡ false
MayLose Closed up queue lost = (queue ≡ []) × (up ≡ false)

-- what was taken, what the queue holds, and what is lost are what it held at first and what was
-- sent
pub record Carries (taken held sent : List ℕ) (standing : AssociationState) (up : Bool)
    (queue : List ℕ)
    : Type 0 where
  pub lost : List ℕ
  pub is : taken ++ (queue ++ lost) ≡ held ++ sent
  pub may : MayLose standing up queue lost

-- there is a queue and a standing for each association, and the last moment is not after this one
pub record IsSound (now : ℕ) (s : TurnState) : Type 0 where
  pub queues : length s.server.queues ≡ 8
  pub states : length s.noted.states ≡ 8
  pub moment : s.server.device.moment ≤ now

pub record Carried (now p : ℕ) (held taken sent : List ℕ) (s : TurnState) : Type 0 where
  pub sound : IsSound now s
  pub carries : Carries taken held sent (state_at p s) (is_open_at p s) (turn_queue p s)
  -- where its queue is told to be full, more is lost than there is room for
  pub full : reports_close is_queue_full (p + 1) s.noted.closed ≡ true
      → 262144 < length carries.lost

abbrev pub Carries-as : (taken held sent : List ℕ) (x y : AssociationState) (u v : Bool)
    (q r : List ℕ)
    → Carries taken held sent x u q → y ≡ x → v ≡ u → r ≡ q
    → Carries taken held sent y v r
Carries-as taken held sent x y u v q r c e f g = record {
  lost = c.lost;
  is = ap (λ l. taken ++ (l ++ c.lost)) g ∙ c.is;
  may = subst (λ z. MayLose z v r c.lost) (sym e) (subst (λ z. MayLose x z r c.lost) (sym f)
      (subst (λ z. MayLose x u z c.lost) (sym g) c.may));
}

-- more is lost
pub longer : (n : ℕ) (lost more : List ℕ) → n < length lost → n < length (lost ++ more)
longer n lost more h = omega (arith, h, length-append lost more)

pub longer-behind : (n : ℕ) (front lost : List ℕ) → n < length lost → n < length (front ++ lost)
longer-behind n front lost h = omega (arith, h, length-append front lost)

pub Carried-sent : (now p : ℕ) (held taken sent more : List ℕ) (s : TurnState)
    → Carried now p held taken sent s → sent ≡ more → Carried now p held taken more s
Carried-sent now p held taken sent more s c e = subst (λ l. Carried now p held taken l s) e c

Carried-if : (now p : ℕ) (held taken sent : List ℕ) (b : Bool) (s t : TurnState)
    → Carried now p held taken sent s → Carried now p held taken sent t
    → Carried now p held taken sent (if b then s else t)
Carried-if now p held taken sent true s t c d = c
Carried-if now p held taken sent false s t c d = d

-- ---- a reply

may-take : (x : AssociationState) (u : Bool) (q lost : List ℕ) → accepts_replies x u ≡ true
    → MayLose x u q lost → (lost ≡ []) × ((r : List ℕ) → MayLose x u r [])
may-take Steady true q lost e m = (m, λ r. refl)
may-take Steady false q lost e m = absurd (cc)
may-take Full u q lost e m = absurd (cc)
may-take Draining u q lost e m = (m.0, λ r. (refl, m.1))
may-take DrainingFull u q lost e m = absurd (cc)
may-take Closed u q lost e m = absurd (cc)

may-fill : (x : AssociationState) (u : Bool) (q lost : List ℕ) → accepts_replies x u ≡ true
    → MayLose x u q lost → (more : List ℕ) → 262144 < length q + length more
    → MayLose (after_full x) u q more
may-fill Steady true q lost e m more over = over
may-fill Steady false q lost e m more over = absurd (cc)
may-fill Full u q lost e m more over = absurd (cc)
may-fill Draining u q lost e m more over = m.1
may-fill DrainingFull u q lost e m more over = absurd (cc)
may-fill Closed u q lost e m more over = absurd (cc)

may-drop : (x : AssociationState) (u : Bool) (q lost : List ℕ) → accepts_replies x u ≡ false
    → MayLose x u q lost → (more : List ℕ) → length lost ≤ length more → MayLose x u q more
may-drop Steady true q lost e m more le = absurd (cc)
may-drop Steady false q lost e m more le = m
may-drop Full u q lost e m more le = omega (arith, m, le)
may-drop Draining u q lost e m more le = absurd (cc)
may-drop DrainingFull u q lost e m more le = m
may-drop Closed u q lost e m more le = m

-- more was sent, and is lost
pub also-lost : (taken held sent q lost more : List ℕ) → taken ++ (q ++ lost) ≡ held ++ sent
    → taken ++ (q ++ (lost ++ more)) ≡ held ++ (sent ++ more)
also-lost taken held sent q lost more e =
    ap (λ l. taken ++ l) (sym (append_assoc q lost more))
    ∙ sym (append_assoc taken (q ++ lost) more)
    ∙ ap (λ l. l ++ more) e ∙ append_assoc held sent more

-- more was sent, and is in the queue
also-held : (taken held sent q lost more : List ℕ) → lost ≡ [] → taken ++ (q ++ lost) ≡ held ++ sent
    → taken ++ ((q ++ more) ++ []) ≡ held ++ (sent ++ more)
also-held taken held sent q lost more n e =
    ap (λ l. taken ++ l) (append-nil (q ++ more)) ∙ ap (λ l. taken ++ (q ++ (l ++ more))) (sym n)
    ∙ also-lost taken held sent q lost more e

put-here_if : (b r : Bool) (now p : ℕ) (held taken sent octets : List ℕ) (s : TurnState) → p < 8
    → accepts_replies (state_at p s) (is_open_at p s) ≡ b → has_room (turn_queue p s) octets ≡ r
    → Carried now p held taken sent s
    → Carried now p held taken (sent ++ octets)
    (if b then (if r then with_queue p (turn_queue p s ++ octets) s
    else with_noted (with_state p (after_full (state_at p s)) s.noted) s) else s)
put-here_if true true now p held taken sent octets s h e room c =
    let q = turn_queue p s in
    let f = c.carries in
    let take = may-take (state_at p s) (is_open_at p s) q f.lost e f.may in
    let here : get_or (set s.server.queues p (q ++ octets)) p [] ≡ q ++ octets =
    get_or-set_same s.server.queues p (q ++ octets) [] (omega (arith, c.sound.queues)) in
    let put : Carries taken held (sent ++ octets) (state_at p s) (is_open_at p s) (q ++ octets) =
    record {
      lost = [];
      is = also-held taken held sent q f.lost octets take.0 f.is;
      may = take.1 (q ++ octets);
    } in
    record {
      sound = record {
        queues = length-set s.server.queues p (q ++ octets) ∙ c.sound.queues;
        states = c.sound.states;
        moment = c.sound.moment;
      };
      carries = Carries-as taken held (sent ++ octets) _ _ _ _ _ _ put refl refl here;
      full = λ t. absurd (omega (arith, c.full t, ap length take.0));
    }
put-here_if true false now p held taken sent octets s h e room c =
    let q = turn_queue p s in
    let x = state_at p s in
    let f = c.carries in
    let here : get_or (set s.noted.states p (after_full x)) p Steady ≡ after_full x =
    get_or-set_same s.noted.states p (after_full x) Steady (omega (arith, c.sound.states)) in
    let put : Carries taken held (sent ++ octets) (after_full x) (is_open_at p s) q =
    record {
      lost = f.lost ++ octets;
      is = also-lost taken held sent q f.lost octets f.is;
      may = may-fill x (is_open_at p s) q f.lost e f.may (f.lost ++ octets)
          (omega (
            arith,
            leb-false (length q + length octets) 262144 room,
            length-append f.lost octets,
          ));
    } in
    record {
      sound = record {
        queues = c.sound.queues;
        states = length-set s.noted.states p (after_full x) ∙ c.sound.states;
        moment = c.sound.moment;
      };
      carries = Carries-as taken held (sent ++ octets) _ _ _ _ _ _ put here refl refl;
      full = λ t. longer 262144 f.lost octets (c.full t);
    }
put-here_if false r now p held taken sent octets s h e room c =
    let q = turn_queue p s in
    let f = c.carries in
    record {
      sound = c.sound;
      carries = record {
        lost = f.lost ++ octets;
        is = also-lost taken held sent q f.lost octets f.is;
        may = may-drop (state_at p s) (is_open_at p s) q f.lost e f.may (f.lost ++ octets)
            (omega (arith, length-append f.lost octets));
      };
      full = λ t. longer 262144 f.lost octets (c.full t);
    }

put-here : (now p : ℕ) (held taken sent octets : List ℕ) (s : TurnState) → p < 8
    → Carried now p held taken sent s
    → Carried now p held taken (sent ++ octets) (put_at (Some p) octets s)
put-here now p held taken sent octets s h c =
    put-here_if (accepts_replies (state_at p s) (is_open_at p s)) (has_room (turn_queue p s) octets)
    now p
    held taken sent octets s h refl refl c

-- ---- what is done at another place

pub other-queue : (now p i : ℕ) (held taken sent q : List ℕ) (s : TurnState) → i ≢ p
    → Carried now p held taken sent s → Carried now p held taken sent (with_queue i q s)
other-queue now p i held taken sent q s n c =
    let there : get_or (set s.server.queues i q) p [] ≡ turn_queue p s =
    get_or-set_other s.server.queues i p q [] (λ e. n (sym e)) in
    record {
      sound = record {
        queues = length-set s.server.queues i q ∙ c.sound.queues;
        states = c.sound.states;
        moment = c.sound.moment;
      };
      carries = Carries-as taken held sent _ _ _ _ _ _ c.carries refl refl there;
      full = c.full;
    }

pub other-standing : (now p i : ℕ) (held taken sent : List ℕ) (x : AssociationState) (s : TurnState)
    → i ≢ p
    → Carried now p held taken sent s
    → Carried now p held taken sent (with_noted (with_state i x s.noted) s)
other-standing now p i held taken sent x s n c =
    let there : get_or (set s.noted.states i x) p Steady ≡ state_at p s =
    get_or-set_other s.noted.states i p x Steady (λ e. n (sym e)) in
    record {
      sound = record {
        queues = c.sound.queues;
        states = length-set s.noted.states i x ∙ c.sound.states;
        moment = c.sound.moment;
      };
      carries = Carries-as taken held sent _ _ _ _ _ _ c.carries there refl refl;
      full = c.full;
    }

put-there : (now p : ℕ) (held taken sent octets : List ℕ) (o : Option ℕ) (s : TurnState)
    → (o ≡ Some p → ⊥) → Carried now p held taken sent s
    → Carried now p held taken sent (put_at o octets s)
put-there now p held taken sent octets None s n c = c
put-there now p held taken sent octets (Some i) s n c =
    let q = turn_queue i s ++ octets in
    let x = after_full (state_at i s) in
    let far : i ≢ p = λ e. n (ap (λ k. Some k) e) in
    Carried-if now p held taken sent (accepts_replies (state_at i s) (is_open_at i s))
    (put_whole i octets s) s
    (Carried-if now p held taken sent (has_room (turn_queue i s) octets) (with_queue i q s)
    (with_noted (with_state i x s.noted) s)
    (other-queue now p i held taken sent q s far c)
    (other-standing now p i held taken sent x s far c)) c

-- ---- what is sent

sent-if : (b : Bool) (now p a : ℕ) (held taken sent octets : List ℕ) (s : TurnState) → p < 8
    → (a == p + 1) ≡ b → Carried now p held taken sent s
    → Carried now p held taken (sent ++ (if b then octets else [])) (put_at (slot_of a) octets s)
sent-if true now p a held taken sent octets s h e c =
    let slot : slot_of a ≡ Some p = ap slot_of (eqb-true a (p + 1) e) ∙ place-of p h in
    subst (λ o. Carried now p held taken (sent ++ octets) (put_at o octets s)) (sym slot)
    (put-here now p held taken sent octets s h c)
sent-if false now p a held taken sent octets s h e c =
    let other : slot_of a ≡ Some p → ⊥ = λ q. let same : (a == p + 1) ≡ true =
    eq-eqb a (p + 1) (number-of a p q) in cc in
    Carried-sent now p held taken sent (sent ++ []) _
    (put-there now p held taken sent octets (slot_of a) s other c) (sym (append-nil sent))

put_sent-carried : (now p : ℕ) (held taken sent : List ℕ) (x : Sent) (s : TurnState) → p < 8
    → Carried now p held taken sent s
    → Carried now p held taken (sent ++ octets_to (p + 1) x) (put_sent x s)
put_sent-carried now p held taken sent x s h c =
    sent-if (x.association == p + 1) now p x.association held taken sent x.octets s h refl c

pub put_all-carried : (now p : ℕ) (held taken sent : List ℕ) (xs : List Sent) (s : TurnState)
    → p < 8
    → Carried now p held taken sent s
    → Carried now p held taken (sent ++ sends_to (p + 1) xs) (put_all xs s)
put_all-carried now p held taken sent [] s h c =
    Carried-sent now p held taken sent (sent ++ []) s c (sym (append-nil sent))
put_all-carried now p held taken sent (x ∷ xs) s h c =
    Carried-sent now p held taken _ (sent ++ (octets_to (p + 1) x ++ sends_to (p + 1) xs)) _
    (put_all-carried now p held taken (sent ++ octets_to (p + 1) x) xs (put_sent x s) h
    (put_sent-carried now p held taken sent x s h c))
    (append_assoc sent (octets_to (p + 1) x) (sends_to (p + 1) xs))

pub put_ended-carried : (now p : ℕ) (held taken sent : List ℕ) (x : Option Sent) (s : TurnState)
    → p < 8 → Carried now p held taken sent s
    → Carried now p held taken (sent ++ end_to (p + 1) x) (put_ended x s)
put_ended-carried now p held taken sent None s h c =
    Carried-sent now p held taken sent (sent ++ []) s c (sym (append-nil sent))
put_ended-carried now p held taken sent (Some x) s h c =
    put_sent-carried now p held taken sent x s h c

-- nothing is sent but what tells of an end
only-end : (a : ℕ) (step : Step) → step.sent ≡ []
    → end_to a step.ended ≡ end_to a step.ended ++ sends_to a step.sent
only-end a step e =
    sym (append-nil (end_to a step.ended)) ∙ ap (λ l. end_to a step.ended ++ sends_to a l) (sym e)

pub put_quiet-carried : (now p : ℕ) (held taken sent : List ℕ) (answer : Result Step StepFault)
    (s : TurnState) → p < 8 → IsQuiet answer → Carried now p held taken sent s
    → Carried now p held taken (sent ++ answer_to (p + 1) answer) (put_quiet answer s)
put_quiet-carried now p held taken sent (Err fault) s h q c =
    Carried-sent now p held taken sent (sent ++ []) s c (sym (append-nil sent))
put_quiet-carried now p held taken sent (Ok step) s h q c =
    Carried-sent now p held taken _
    (sent ++ (end_to (p + 1) step.ended ++ sends_to (p + 1) step.sent)) _
    (put_ended-carried now p held taken sent step.ended s h c)
    (ap (λ l. sent ++ l) (only-end (p + 1) step q.sent))

pub put_told-carried : (now p : ℕ) (held taken sent : List ℕ) (answer : Result Step StepFault)
    (s : TurnState) → p < 8 → IsQuiet answer → Carried now p held taken sent s
    → Carried now p held taken (sent ++ answer_to (p + 1) answer) (record_refusal answer s)
put_told-carried now p held taken sent (Err fault) s h q c =
    Carried-sent now p held taken sent (sent ++ []) (record_refusal (Err fault) s)
    (record {
      sound = record
          { queues = c.sound.queues; states = c.sound.states; moment = c.sound.moment };
      carries = c.carries;
      full = c.full;
    }) (sym (append-nil sent))
put_told-carried now p held taken sent (Ok step) s h q c =
    put_quiet-carried now p held taken sent (Ok step) s h q c

-- an event is recorded
pub recorded-carried : (now p : ℕ) (held taken sent source : List ℕ) (event : Event)
    (s : TurnState) → Carried now p held taken sent s
    → Carried now p held taken sent (with_recorded now source event s)
recorded-carried now p held taken sent source event s c = record {
  sound = record
      { queues = c.sound.queues; states = c.sound.states; moment = c.sound.moment };
  carries = c.carries;
  full = c.full;
}

-- the device goes on, and the association stays as open as it was
pub device-carried : (now p : ℕ) (held taken sent : List ℕ) (d : State) (s : TurnState)
    → d.moment ≤ now → up_at p d ≡ is_open_at p s → Carried now p held taken sent s
    → Carried now p held taken sent (with_device d s)
device-carried now p held taken sent d s h e c =
    record {
      sound = record { queues = c.sound.queues; states = c.sound.states; moment = h };
      carries = Carries-as taken held sent _ _ _ _ _ _ c.carries refl e refl;
      full = c.full;
    }
