-- What happens in two parts is what happens in one.
use Rattle.std.proofs.Common.{true, subst, ap₂, append-nil, ◌≡◌, ℕ, Bool, List, [], ◌∷◌, ◌++◌, refl, ap, sym, ◌∙◌, append_assoc}
use Rattle.std.specs.Prelude.{is_ok}
use Rattle.bay_control.specs.Acts.{Entry}
use Rattle.bay_control.specs.Decisions.{State}
use Rattle.bay_control.specs.TimedCalls.{AreOrderly, Call, TimedCall, LeadsControls, act_of, state_after_calls, entries_of, entries_of_calls, is_open_after, is_open_after_all, is_orderly_call, outcome_of}

pub after-joined : (first next : List TimedCall) (s : State)
    → state_after_calls (first ++ next) s ≡ state_after_calls next (state_after_calls first s)
after-joined [] next s = refl
after-joined (h ∷ hs) next s = after-joined hs next (outcome_of h.call h.now s).after

pub history-joined : (first next : List TimedCall) (s : State)
    → entries_of_calls (first ++ next) s
    ≡ entries_of_calls first s ++ entries_of_calls next (state_after_calls first s)
history-joined [] next s = refl
history-joined (h ∷ hs) next s =
    let here : List Entry =
    entries_of h.now (act_of h.call) (is_ok (outcome_of h.call h.now s).answer) in
    let t : State = (outcome_of h.call h.now s).after in
    ap (λ (es : List Entry). here ++ es) (history-joined hs next t)
    ∙ sym (append_assoc here (entries_of_calls hs t)
    (entries_of_calls next (state_after_calls hs t)))

pub orderly-joined : (is_open : ℕ → Bool) (first next : List TimedCall) → AreOrderly is_open first
    → AreOrderly (is_open_after_all is_open first) next
    → AreOrderly is_open (first ++ next)
orderly-joined is_open [] next o p = p
orderly-joined is_open (h ∷ hs) next o p =
    (o.0, orderly-joined (is_open_after is_open h.call) hs next o.1 p)

-- what is open after two parts
open-joined : (is_open : ℕ → Bool) (first next : List TimedCall) (a : ℕ)
    → is_open_after_all is_open (first ++ next) a
    ≡ is_open_after_all (is_open_after_all is_open first) next a
open-joined is_open [] next a = refl
open-joined is_open (h ∷ hs) next a = open-joined (is_open_after is_open h.call) hs next a

-- the controls that a run never changes
pub none-leads : (is_open : ℕ → Bool) (s : State) → LeadsControls [] is_open s is_open s
none-leads is_open s =
    record { timed_calls = []; orderly = tt; seen = refl; ends = refl; opens = λ a. refl }

pub one-leads : (call : Call) (now : ℕ) (open_before open_after : ℕ → Bool) (s : State)
    → is_orderly_call open_before call ≡ true
    → ((a : ℕ) → open_after a ≡ is_open_after open_before call a)
    → LeadsControls (entries_of now (act_of call) (is_ok (outcome_of call now s).answer))
    open_before s
    open_after (outcome_of call now s).after
one-leads call now open_before open_after s orderly opens = record {
  timed_calls = record { now = now; call = call } ∷ [];
  orderly = (orderly, tt);
  seen = sym (append-nil (entries_of now (act_of call) (is_ok (outcome_of call now s).answer)));
  ends = refl;
  opens = opens;
}

pub two-lead : (first next : List Entry) (open_before open_between open_after : ℕ → Bool)
    (before between after : State)
    → LeadsControls first open_before before open_between between
    → LeadsControls next open_between between open_after after
    → LeadsControls (first ++ next) open_before before open_after after
two-lead first next open_before open_between open_after before between after p q =
    let same : open_between ≡ is_open_after_all open_before p.timed_calls = λ i a. p.opens a i in
    let orderly : AreOrderly (is_open_after_all open_before p.timed_calls) q.timed_calls =
    subst (λ (f : ℕ → Bool). AreOrderly f q.timed_calls) same q.orderly in
    let seen : next ≡ entries_of_calls q.timed_calls (state_after_calls p.timed_calls before) =
    q.seen ∙ ap (λ (s : State). entries_of_calls q.timed_calls s) p.ends in
    record {
      timed_calls = p.timed_calls ++ q.timed_calls;
      orderly = orderly-joined open_before p.timed_calls q.timed_calls p.orderly orderly;
      seen = ap₂ (λ (xs ys : List Entry). xs ++ ys) p.seen seen
          ∙ sym (history-joined p.timed_calls q.timed_calls before);
      ends = q.ends ∙ ap (λ (s : State). state_after_calls q.timed_calls s) p.ends
          ∙ sym (after-joined p.timed_calls q.timed_calls before);
      opens = λ a. q.opens a ∙ ap (λ (f : ℕ → Bool). is_open_after_all f q.timed_calls a) same
          ∙ sym (open-joined open_before p.timed_calls q.timed_calls a);
    }
