-- One association as a turn begins, and as octets of it come.
use Rattle.std.proofs.Common.{Bool, Err, List, None, Ok, Option, Result, Some, [], ap, append-nil, append_assoc, arith, false, get_or, length, refl, set, sym, true, ℕ, ◌++◌, ◌+◌, ◌<◌, ◌∙◌, ◌≡◌, ◌≢◌, ◌≤◌}
use Rattle.std.proofs.lemmas.List.{get_or-set_same, length-set}
use Rattle.bay_device.specs.Device.{State}
use Rattle.bay_device.specs.declared.event.Step.{Step}
use Rattle.bay_device.specs.declared.event.Why.{Why}
use Rattle.bay_device.specs.declared.fault.StepFault.{StepFault}
use Rattle.bay_server_turn.specs.AssociationStates.{is_full}
use Rattle.bay_server_turn.specs.Turns.{ServerData, TurnData, TurnState, with_decisions, is_open_at, has_open, start_closing, after_device_close, put_all, put_answer, put_ended, server_queue, turn_queue, state_at, close_reported, turn_begin, with_device, with_noted}
use Rattle.bay_server_turn.specs.declared.association_state.AssociationState.{AssociationState}
use Rattle.bay_server_turn.specs.declared.association_state.AssociationState.TheVariants.{Full, Closed, Draining, DrainingFull, Steady}
use Rattle.bay_server_turn_laws.specs.Flows.{IsTidy, sends_to, answer_to, end_to}
use Rattle.bay_server_turn_laws.proofs.Acts.{IsOpenAt}
use Rattle.bay_server_turn_laws.proofs.CarryLemmas.{Carried, Carried-sent, Carries, Carries-as, MayLose, device-carried, other-standing, put_all-carried, put_ended-carried}
use Rattle.bay_server_turn_laws.proofs.CutLemmas.{noted-carried}
use Rattle.bay_server_turn_laws.proofs.PutLemmas.{told_why-standings}
use Rattle.bay_server_turn_laws.proofs.StandingLemmas.{all-steady}
use Rattle.bay_server_turn_laws.proofs.TellsLemmas.{why-not_full}
use Rattle.bay_server_turn_laws.proofs.UpLemmas.{HeardOpen, LeftOpen, up_at}

-- ---- before anything was done

may-begin : (u : Bool) (q : List ℕ) → (u ≡ false → q ≡ []) → MayLose Steady u q []
may-begin true q e = refl
may-begin false q e = e refl

-- Nothing was lost yet, and an association that is not open has an empty queue; the device may have
-- opened one.
pub begun-carried : (now p : ℕ) (h : ServerData) (d : State) → p < 8 → IsTidy h → d.moment ≤ now
    → (up_at p d ≡ false → has_open p h ≡ false)
    → Carried now p (server_queue p h) [] [] (with_device d (turn_begin h))
begun-carried now p h d low tidy before up =
    let q = server_queue p h in
    let start : Carries [] q [] Steady (up_at p d) q = record {
      lost = [];
      is = refl;
      may = may-begin (up_at p d) q (λ e. tidy.empty p low (up e));
    } in
    record {
      sound = record { queues = tidy.sized; states = refl; moment = before };
      carries = Carries-as [] q [] _ _ _ _ _ _ start (all-steady p) refl refl;
      full = λ t. absurd (cc);
    }

-- ---- an association that the device leaves

may-open : (x : AssociationState) (u : Bool) (q lost : List ℕ) → MayLose x u q lost → u ≡ true
    → is_full x ≡ false → (lost ≡ []) × ((r : List ℕ) → MayLose x u r [])
may-open Steady true q lost m e n = (m, λ r. refl)
may-open Steady false q lost m e n = absurd (cc)
may-open Full u q lost m e n = absurd (cc)
may-open Draining u q lost m e n = let down = m.1 in absurd (cc)
may-open DrainingFull u q lost m e n = absurd (cc)
may-open Closed u q lost m e n = let down = m.1 in absurd (cc)

pub open-carries : (most now p : ℕ) (held taken sent : List ℕ) (s : TurnState)
    (c : Carried now p held taken sent s) → IsOpenAt most p s
    → (c.carries.lost ≡ []) × ((r : List ℕ) → MayLose (state_at p s) (is_open_at p s) r [])
open-carries most now p held taken sent s c o =
    may-open (state_at p s) (is_open_at p s) (turn_queue p s) c.carries.lost c.carries.may o.up
    o.calm

pub left-carried : (most now p : ℕ) (held taken sent : List ℕ) (why : Why) (d : State)
    (s : TurnState)
    → p < 8 → Carried now p held taken sent s → d.moment ≤ now → IsOpenAt most p s
    → up_at p d ≡ false
    → Carried now p held taken sent (with_noted (start_closing p why s.noted) (with_device d s))
left-carried most now p held taken sent why d s h c before o down =
    let n : TurnData = close_reported p why s.noted in
    let states : length n.states ≡ 8 =
    ap length (told_why-standings p why s.noted) ∙ c.sound.states in
    let marked : get_or (set n.states p Draining) p Steady ≡ Draining =
    get_or-set_same n.states p Draining Steady (omega (arith, states)) in
    let leaving : Carries taken held sent Draining false (turn_queue p s) =
    record {
      lost = c.carries.lost;
      is = c.carries.is;
      may = ((open-carries most now p held taken sent s c o).0, refl);
    } in
    record {
      sound = record {
        queues = c.sound.queues;
        states = length-set n.states p Draining ∙ states;
        moment = before;
      };
      carries = Carries-as taken held sent _ _ _ _ _ _ leaving marked down refl;
      full = λ t. c.full (sym (why-not_full p p why s.noted) ∙ t);
    }

pub left_by-far : (now p i : ℕ) (held taken sent : List ℕ) (closed : Option (ℕ × Why))
    (s : TurnState)
    → i ≢ p → Carried now p held taken sent s
    → Carried now p held taken sent (after_device_close i closed s)
left_by-far now p i held taken sent None s n c = c
left_by-far now p i held taken sent (Some closed) s n c =
    let m : TurnData = close_reported i closed.1 s.noted in
    other-standing now p i held taken sent Draining (with_noted m s) n
    (noted-carried now p held taken sent m s (told_why-standings i closed.1 s.noted)
    (why-not_full p i closed.1 s.noted) c)

-- ---- an answer to octets

-- once it is noted whether the association was closed
abbrev pub Marked : ℕ → ℕ → ℕ → List ℕ → List ℕ → List ℕ → Result Step StepFault → TurnState
    → Type 0
Marked now p i held taken sent (Err fault) s = Carried now p held taken sent s
Marked now p i held taken sent (Ok step) s =
    Carried now p held taken sent (after_device_close i step.closed s)

pub answer-carried : (now p i : ℕ) (held taken sent : List ℕ) (answer : Result Step StepFault)
    (s : TurnState) → p < 8 → Marked now p i held taken sent answer s
    → Carried now p held taken (sent ++ answer_to (p + 1) answer) (put_answer i answer s)
answer-carried now p i held taken sent (Err fault) s h r =
    Carried-sent now p held taken sent (sent ++ []) s r (sym (append-nil sent))
answer-carried now p i held taken sent (Ok step) s h r =
    let left : TurnState = after_device_close i step.closed s in
    let ended : TurnState = put_ended step.ended left in
    let all : TurnState = put_all step.sent ended in
    let first = put_ended-carried now p held taken sent step.ended left h r in
    let both =
    put_all-carried now p held taken (sent ++ end_to (p + 1) step.ended) step.sent ended h first
    in
    let whole : Carried now p held taken
    (sent ++ (end_to (p + 1) step.ended ++ sends_to (p + 1) step.sent)) all =
    Carried-sent now p held taken _ _ all both
    (append_assoc sent (end_to (p + 1) step.ended) (sends_to (p + 1) step.sent)) in
    noted-carried now p held taken _
    (with_decisions i step.decisions (record all.noted
    { commands = all.noted.commands ++ step.commands })) all refl refl whole

pub ready-far : (now p i : ℕ) (held taken sent : List ℕ) (answer : Result Step StepFault)
    (s : TurnState) → i ≢ p → Carried now p held taken sent s
    → Marked now p i held taken sent answer s
ready-far now p i held taken sent (Err fault) s n c = c
ready-far now p i held taken sent (Ok step) s n c =
    left_by-far now p i held taken sent step.closed s n c

left_by-here : (most now p : ℕ) (held taken sent : List ℕ) (closed : Option (ℕ × Why)) (d : State)
    (s : TurnState) → p < 8 → Carried now p held taken sent s → d.moment ≤ now → IsOpenAt most p s
    → LeftOpen p closed d
    → Carried now p held taken sent (after_device_close p closed (with_device d s))
left_by-here most now p held taken sent None d s h c before o left =
    device-carried now p held taken sent d s before (left ∙ sym o.up) c
left_by-here most now p held taken sent (Some closed) d s h c before o left =
    left-carried most now p held taken sent closed.1 d s h c before o left

pub ready-here : (most now p : ℕ) (held taken sent : List ℕ) (answer : Result Step StepFault)
    (d : State) (s : TurnState) → p < 8 → Carried now p held taken sent s → d.moment ≤ now
    → IsOpenAt most p s → HeardOpen p answer d
    → Marked now p p held taken sent answer (with_device d s)
ready-here most now p held taken sent (Err fault) d s h c before o left =
    device-carried now p held taken sent d s before (left ∙ sym o.up) c
ready-here most now p held taken sent (Ok step) d s h c before o left =
    left_by-here most now p held taken sent step.closed d s h c before o left
