-- One association as its queue is offered.
use Rattle.std.proofs.Common.{Bool, List, None, [], ap, append_assoc, arith, false, get_or, if◌then◌else◌, inl, inr, length, refl, set, suc, sym, true, zero, ℕ, ◌++◌, ◌+◌, ◌<◌, ◌∙◌, ◌∷◌, ◌≡◌, ◌≤◌, ◌⊎◌}
use Rattle.std.proofs.lemmas.List.{get_or-set_same, length-set}
use Rattle.bay_device.specs.Outcomes.{last_moment, outcome}
use Rattle.bay_device.specs.declared.event.Event.TheVariants.{Close}
use Rattle.bay_server_turn.specs.Calls.{Call}
use Rattle.bay_server_turn.specs.Offers.{Offer, OfferOutcome}
use Rattle.bay_server_turn.specs.AssociationStates.{is_draining}
use Rattle.bay_server_turn.specs.Turns.{TurnState, after_each, after_offer, after_closing, after_closing_full, close_at_once, is_open_at, queue_offer, offer_one, turn_queue, state_at, with_queue}
use Rattle.bay_server_turn.specs.declared.association_state.AssociationState.{AssociationState}
use Rattle.bay_server_turn.specs.declared.association_state.AssociationState.TheVariants.{Full, Closed, Draining, DrainingFull, Steady}
use Rattle.bay_server_turn.specs.declared.turn_report.CloseReason.TheVariants as closing
use Rattle.bay_server_turn_laws.specs.Flows.{answer_to}
use Rattle.bay_server_turn_laws.proofs.Acts.{IsOpenAt}
use Rattle.bay_server_turn_laws.proofs.CallLemmas.{Offering}
use Rattle.bay_server_turn_laws.proofs.CalmLemmas.{cut-kept, settled-kept}
use Rattle.bay_server_turn_laws.proofs.CarryLemmas.{Carried, Carries, Carries-as, MayLose, longer-behind}
use Rattle.bay_server_turn_laws.proofs.CutLemmas.{cut-lost}
use Rattle.bay_server_turn_laws.proofs.ReadFlows.{open-carries}
use Rattle.bay_server_turn_laws.proofs.StandingLemmas.{goes-kept, goes-left}

-- ---- what the link takes

-- it is taken from the front of the queue
taken-more : (taken t left q lost whole : List ℕ) → t ++ left ≡ q → taken ++ (q ++ lost) ≡ whole
    → (taken ++ t) ++ (left ++ lost) ≡ whole
taken-more taken t left q lost whole e is =
    append_assoc taken t (left ++ lost)
    ∙ ap (λ l. taken ++ l) (sym (append_assoc t left lost) ∙ ap (λ l. l ++ lost) e) ∙ is

may-leave : (x : AssociationState) (u : Bool) (q lost : List ℕ) → MayLose x u q lost
    → is_draining x ≡ true
    → u ≡ false
may-leave Steady u q lost m e = absurd (cc)
may-leave Full u q lost m e = absurd (cc)
may-leave Draining u q lost m e = m.1
may-leave DrainingFull u q lost m e = m
may-leave Closed u q lost m e = absurd (cc)

-- ---- the offer of the association's own queue

module _ (now p : ℕ) (held taken sent : List ℕ) (s : TurnState) (left : List ℕ) (failed : Bool)
    (calls : List Call) (low : p < 8) (c : Carried now p held taken sent s)
    (o : Offering p (turn_queue p s) left failed calls) where
  pub parted-here : is_draining (state_at p s) ≡ true
      → Carried now p held (taken ++ o.taken) sent (after_closing p s)
  parted-here leaving =
      let f = c.carries in
      let q = turn_queue p s in
      let down : is_open_at p s ≡ false =
      may-leave (state_at p s) (is_open_at p s) q f.lost f.may leaving in
      let empty : get_or (set s.server.queues p []) p [] ≡ [] =
      get_or-set_same s.server.queues p [] [] (omega (arith, c.sound.queues)) in
      let gone : get_or (set s.noted.states p Closed) p Steady ≡ Closed =
      get_or-set_same s.noted.states p Closed Steady (omega (arith, c.sound.states)) in
      let lost : Carries (taken ++ o.taken) held sent Closed false [] = record {
        lost = left ++ f.lost;
        is = taken-more taken o.taken left q f.lost (held ++ sent) o.is f.is;
        may = (refl, refl);
      } in
      record {
        sound = record {
          queues = length-set s.server.queues p [] ∙ c.sound.queues;
          states = length-set s.noted.states p Closed ∙ c.sound.states;
          moment = c.sound.moment;
        };
        carries = Carries-as (taken ++ o.taken) held sent _ _ _ _ _ _ lost gone down empty;
        full = λ e. longer-behind 262144 left f.lost (c.full e);
      }

  pub kept-here : (most : ℕ) → IsOpenAt most p s
      → Carried now p held (taken ++ o.taken) sent (with_queue p left s)
  kept-here most is_open =
      let f = c.carries in
      let q = turn_queue p s in
      let whole = open-carries most now p held taken sent s c is_open in
      let here : get_or (set s.server.queues p left) p [] ≡ left =
      get_or-set_same s.server.queues p left [] (omega (arith, c.sound.queues)) in
      let kept : Carries (taken ++ o.taken) held sent (state_at p s) (is_open_at p s) left =
      record {
        lost = [];
        is = ap (λ l. (taken ++ o.taken) ++ (left ++ l)) (sym whole.0)
            ∙ taken-more taken o.taken left q f.lost (held ++ sent) o.is f.is;
        may = whole.1 left;
      } in
      record {
        sound = record {
          queues = length-set s.server.queues p left ∙ c.sound.queues;
          states = c.sound.states;
          moment = c.sound.moment;
        };
        carries = Carries-as (taken ++ o.taken) held sent _ _ _ _ _ _ kept refl refl here;
        full = λ e. absurd (omega (arith, c.full e, ap length whole.0));
      }

  pub cut-here : now ≤ last_moment
      → Carried now p held (taken ++ o.taken)
      (sent ++ answer_to (p + 1) (outcome None now (Close (p + 1)) s.server.device).answer)
      (close_at_once now closing.LinkFailed p s)
  cut-here past =
      let f = c.carries in
      cut-lost now p held (taken ++ o.taken) sent (left ++ f.lost) closing.LinkFailed s low past
      c.sound
      (taken-more taken o.taken left (turn_queue p s) f.lost (held ++ sent) o.is f.is)
      (λ v. elim v [
        | inl e ↦ absurd (cc)
        | inr e ↦ longer-behind 262144 left f.lost (c.full e)
      ])

-- ---- none is left that was to be offered once more

failed-kept : (failed : Bool) (now i p : ℕ) (o : OfferOutcome) (s : TurnState)
    → is_draining (state_at p s) ≡ false
    → is_draining (state_at p
    (if failed then after_closing_full now (close_at_once now closing.LinkFailed i s)
    else with_queue i o.left s)) ≡ false
failed-kept true now i p o s e =
    settled-kept now p (close_at_once now closing.LinkFailed i s)
    (cut-kept now i p closing.LinkFailed s e)
failed-kept false now i p o s e = e

neither-leaves : (i p : ℕ) (s : TurnState) → is_draining (state_at i s) ≡ false
    → (i ≡ p) ⊎ (is_draining (state_at p s) ≡ false) → is_draining (state_at p s) ≡ false
neither-leaves i p s e (inl same) = ap (λ j. is_draining (state_at j s)) (sym same) ∙ e
neither-leaves i p s e (inr f) = f

-- the one that is offered is not leaving then, nor one that was not
offer-left : (leaving up : Bool) (now i p : ℕ) (o : Offer) (s : TurnState)
    → is_draining (state_at i s) ≡ leaving
    → (i ≡ p) ⊎ (is_draining (state_at p s) ≡ false)
    → is_draining (state_at p
    (if leaving then after_closing i s
    else (if up then after_offer now i (queue_offer i o s) s else s)))
    ≡ false
offer-left true up now i p o s e (inl same) =
    ap (λ j. is_draining (state_at j (after_closing i s))) (sym same)
    ∙ goes-left s.noted.states i
offer-left true up now i p o s e (inr f) = goes-kept s.noted.states i p f
offer-left false true now i p o s e v =
    failed-kept (queue_offer i o s).failed now i p (queue_offer i o s) s (neither-leaves i p s e v)
offer-left false false now i p o s e v = neither-leaves i p s e v

offer-kept : (now i p : ℕ) (o : Offer) (s : TurnState)
    → (i ≡ p) ⊎ (is_draining (state_at p s) ≡ false)
    → is_draining (state_at p (offer_one now i o s)) ≡ false
offer-kept now i p o s v =
    offer-left (is_draining (state_at i s)) (is_open_at i s) now i p o s refl v

each-kept : (now i p : ℕ) (os : List Offer) (s : TurnState) → is_draining (state_at p s) ≡ false
    → is_draining (state_at p (after_each (offer_one now) i os s)) ≡ false
each-kept now i p [] s e = e
each-kept now i p (o ∷ os) s e =
    each-kept now (i + 1) p os (offer_one now i o s) (offer-kept now i p o s (inr e))

-- each association among those that are offered
pub each-left : (now i p k : ℕ) (os : List Offer) (s : TurnState) → p ≡ i + k → k < length os
    → is_draining (state_at p (after_each (offer_one now) i os s)) ≡ false
each-left now i p k [] s e h = absurd (omega arith)
each-left now i p zero (o ∷ os) s e h =
    each-kept now (i + 1) p os (offer_one now i o s)
    (offer-kept now i p o s (inl (omega (arith, e))))
each-left now i p (suc k) (o ∷ os) s e h =
    each-left now (i + 1) p k os (offer_one now i o s) (omega (arith, e)) (omega arith)
