-- Associations that are closed at once.
use Rattle.std.proofs.Common.{Bool, List, None, [], ap, arith, false, get_or, inl, inr, length, length-append, refl, set, subst, sym, true, ℕ, ◌++◌, ◌+◌, ◌<◌, ◌==◌, ◌∙◌, ◌≡◌, ◌≢◌, ◌≤◌, ◌⊎◌}
use Rattle.std.proofs.lemmas.Bool.{eq-eqb, eqb-true}
use Rattle.std.proofs.lemmas.List.{get_or-set_same, length-set}
use Rattle.bay_device.specs.Device.{State}
use Rattle.bay_device.specs.Outcomes.{last_moment, outcome}
use Rattle.bay_device.specs.declared.event.Event.TheVariants.{Close}
use Rattle.bay_server_turn.specs.Turns.{TurnData, TurnState, after_event, close_at_once, is_open_at, put_quiet, turn_queue, state_at, with_closing, with_device, with_noted, with_queue}
use Rattle.bay_server_turn.specs.declared.association_state.AssociationState.{AssociationState}
use Rattle.bay_server_turn.specs.declared.association_state.AssociationState.TheVariants.{Full, Closed, Draining, DrainingFull, Steady}
use Rattle.bay_server_turn.specs.declared.turn_report.CloseReason.{CloseReason}
use Rattle.bay_server_turn_laws.specs.Causes.{is_queue_full, reports_close}
use Rattle.bay_server_turn_laws.specs.Flows.{answer_to}
use Rattle.bay_server_turn_laws.proofs.CalmLemmas.{closing-puts}
use Rattle.bay_server_turn_laws.proofs.CarryLemmas.{Carried, Carries, Carries-as, IsSound, MayLose, also-lost, device-carried, longer, longer-behind, other-queue, other-standing, put_quiet-carried, recorded-carried}
use Rattle.bay_server_turn_laws.proofs.PutLemmas.{Puts, told-standings}
use Rattle.bay_server_turn_laws.proofs.QuietLemmas.{outcome-quiet}
use Rattle.bay_server_turn_laws.proofs.SameLemmas.{Same, put_quiet-same, recorded-same}
use Rattle.bay_server_turn_laws.proofs.TellsLemmas.{full-by, stepped-closed, told-other}
use Rattle.bay_server_turn_laws.proofs.UpLemmas.{close-outcome-far, close-outcome-here, outcome-moment, up_at}

-- ---- an association that is closed at once, seen from one of them

-- notes with the same standings, in which it is told no more that the queue was full
pub noted-carried : (now p : ℕ) (held taken sent : List ℕ) (n : TurnData) (s : TurnState)
    → n.states ≡ s.noted.states
    → reports_close is_queue_full (p + 1) n.closed
    ≡ reports_close is_queue_full (p + 1) s.noted.closed
    → Carried now p held taken sent s → Carried now p held taken sent (with_noted n s)
noted-carried now p held taken sent n s e same c = record {
  sound = record {
    queues = c.sound.queues;
    states = ap length e ∙ c.sound.states;
    moment = c.sound.moment;
  };
  carries =
      Carries-as taken held sent _ _ _ _ _ _ c.carries (ap (λ l. get_or l p Steady) e) refl refl;
  full = λ t. c.full (sym same ∙ t);
}

pub cut-far : (now p i : ℕ) (held taken sent : List ℕ) (why : CloseReason) (s : TurnState) → p < 8
    → i ≢ p
    → Carried now p held taken sent s
    → Carried now p held taken
    (sent ++ answer_to (p + 1) (outcome None now (Close (i + 1)) s.server.device).answer)
    (close_at_once now why i s)
unfolding close_at_once
cut-far now p i held taken sent why s h n c =
    let o = outcome None now (Close (i + 1)) s.server.device in
    let more = sent ++ answer_to (p + 1) o.answer in
    let moved : Carried now p held taken sent (with_device o.after s) =
    device-carried now p held taken sent o.after s
    (outcome-moment None now (Close (i + 1)) s.server.device c.sound.moment)
    (close-outcome-far None now i p s.server.device n) c in
    let t : TurnState = after_event now (Close (i + 1)) s in
    let put : Carried now p held taken more t =
    recorded-carried now p held taken more [] (Close (i + 1))
    (put_quiet o.answer (with_device o.after s))
    (put_quiet-carried now p held taken sent o.answer (with_device o.after s) h
    (outcome-quiet None now (Close (i + 1)) s.server.device tt) moved) in
    let x : TurnState = with_queue i [] t in
    let y : TurnState = with_noted (with_closing i why t.noted) x in
    other-standing now p i held taken more Closed y n
    (noted-carried now p held taken more (with_closing i why t.noted) x
    (told-standings i why t.noted)
    (told-other p i why t.noted n) (other-queue now p i held taken more [] t n put))

-- what is taken and a rest are what was held and sent; the rest is lost
pub cut-lost : (now p : ℕ) (held taken sent rest : List ℕ) (why : CloseReason) (s : TurnState)
    → p < 8
    → now ≤ last_moment → IsSound now s → taken ++ rest ≡ held ++ sent
    → ((is_queue_full why ≡ true) ⊎ (reports_close is_queue_full (p + 1) s.noted.closed ≡ true)
    → 262144 < length rest)
    → Carried now p held taken
    (sent ++ answer_to (p + 1) (outcome None now (Close (p + 1)) s.server.device).answer)
    (close_at_once now why p s)
unfolding close_at_once
cut-lost now p held taken sent rest why s h past sound is over =
    let o = outcome None now (Close (p + 1)) s.server.device in
    let t : TurnState = after_event now (Close (p + 1)) s in
    let n : TurnData = with_closing p why t.noted in
    let puts : Puts s t = closing-puts now p s in
    let same : Same (with_device o.after s) t =
    recorded-same now [] (Close (p + 1)) (with_device o.after s)
    (put_quiet o.answer (with_device o.after s))
    (put_quiet-same o.answer (with_device o.after s)) in
    let queues : length t.server.queues ≡ 8 = puts.queues ∙ sound.queues in
    let states : length n.states ≡ 8 =
    ap length (told-standings p why t.noted) ∙ puts.fills.sized ∙ sound.states in
    let up : is_open_at p t ≡ false =
    ap (up_at p) same.device
    ∙ close-outcome-here None now p s.server.device h past sound.moment in
    let empty : get_or (set t.server.queues p []) p [] ≡ [] =
    get_or-set_same t.server.queues p [] [] (omega (arith, queues)) in
    let gone : get_or (set n.states p Closed) p Steady ≡ Closed =
    get_or-set_same n.states p Closed Steady (omega (arith, states)) in
    let before : o.after.moment ≤ now =
    outcome-moment None now (Close (p + 1)) s.server.device sound.moment in
    let more = answer_to (p + 1) o.answer in
    let lost : Carries taken held (sent ++ more) Closed false [] =
    record {
      lost = rest ++ more;
      is = also-lost taken held sent [] rest more is;
      may = (refl, refl);
    } in
    record {
      sound = record {
        queues = length-set t.server.queues p [] ∙ queues;
        states = length-set n.states p Closed ∙ states;
        moment = subst (λ (d : State). d.moment ≤ now) (sym same.device) before;
      };
      carries = Carries-as taken held (sent ++ more) _ _ _ _ _ _ lost gone up empty;
      full = λ e. longer 262144 rest more
          (elim (full-by p why t.noted e) [
            | inl f ↦ over (inl f)
            | inr f ↦ over (inr (sym (ap (reports_close is_queue_full (p + 1))
                (stepped-closed now (Close (p + 1)) s)) ∙ f))
          ]);
    }

-- what is lost with a queue that is full
full-lost : (x : AssociationState) (u : Bool) (q lost : List ℕ) → x ≡ Full → MayLose x u q lost
    → 262144 < length (q ++ lost)
full-lost Steady u q lost e m = absurd (cc)
full-lost Full u q lost e m = omega (arith, m, length-append q lost)
full-lost Draining u q lost e m = absurd (cc)
full-lost DrainingFull u q lost e m = absurd (cc)
full-lost Closed u q lost e m = absurd (cc)

cut-if : (b : Bool) (now p i : ℕ) (held taken sent : List ℕ) (why : CloseReason) (s : TurnState)
    → p < 8
    → now ≤ last_moment → (is_queue_full why ≡ true → state_at i s ≡ Full) → (i == p) ≡ b
    → Carried now p held taken sent s
    → Carried now p held taken
    (sent ++ answer_to (p + 1) (outcome None now (Close (i + 1)) s.server.device).answer)
    (close_at_once now why i s)
cut-if true now p i held taken sent why s h past full e c =
    let f = c.carries in
    subst (λ j. Carried now p held taken
    (sent ++ answer_to (p + 1) (outcome None now (Close (j + 1)) s.server.device).answer)
    (close_at_once now why j s)) (sym (eqb-true i p e))
    (cut-lost now p held taken sent (turn_queue p s ++ f.lost) why s h past c.sound f.is
    (λ v. elim v [
      | inl q ↦ full-lost (state_at p s) (is_open_at p s) (turn_queue p s) f.lost
          (ap (λ j. state_at j s) (sym (eqb-true i p e)) ∙ full q) f.may
      | inr t ↦ longer-behind 262144 (turn_queue p s) f.lost (c.full t)
    ]))
cut-if false now p i held taken sent why s h past full e c =
    cut-far now p i held taken sent why s h (λ q. let same : (i == p) ≡ true = eq-eqb i p q in cc) c

pub cut-carried : (now p i : ℕ) (held taken sent : List ℕ) (why : CloseReason) (s : TurnState)
    → p < 8
    → now ≤ last_moment → (is_queue_full why ≡ true → state_at i s ≡ Full)
    → Carried now p held taken sent s
    → Carried now p held taken
    (sent ++ answer_to (p + 1) (outcome None now (Close (i + 1)) s.server.device).answer)
    (close_at_once now why i s)
cut-carried now p i held taken sent why s h past full c =
    cut-if (i == p) now p i held taken sent why s h past full refl c
