-- Of an association it is told once at most that it was closed.
use Rattle.std.proofs.Common.{Bool, List, [], ap, arith, cond, false, get_or, length, refl, set, suc, true, zero, ℕ, ◌++◌, ◌+◌, ◌<◌, ◌==◌, ◌∙◌, ◌∷◌, ◌≡◌, ◌≤◌}
use Rattle.std.proofs.lemmas.Bool.{ne_eqb}
use Rattle.std.proofs.lemmas.Bool.Decides.{nat_tests}
use Rattle.bay_device.specs.declared.event.Why.{Why}
use Rattle.bay_device.specs.declared.event.Why.TheVariants.{Ended, Fault, Memory}
use Rattle.bay_server_turn.specs.AssociationStates.{after_full, is_draining, is_close_reported}
use Rattle.bay_server_turn.specs.Turns.{ServerData, TurnData, Script, TurnState, after_turn, mark_closed, start_closing, noted_state, with_state}
use Rattle.bay_server_turn.specs.declared.process_input.ProcessReport.{ProcessReport}
use Rattle.bay_server_turn.specs.declared.association_state.AssociationState.{AssociationState}
use Rattle.bay_server_turn.specs.declared.association_state.AssociationState.TheVariants.{Full, Closed, Draining, DrainingFull, Steady}
use Rattle.bay_server_turn.specs.declared.turn_report.CloseReason.{CloseReason}
use Rattle.bay_server_turn.specs.declared.turn_report.CloseReason.TheVariants as closing
use Rattle.bay_server_turn_laws.specs.CloseReports.{plus_if, closings_of, times_in, times_reported}
use Rattle.bay_server_turn_laws.proofs.KeepLemmas.{Each, IsNoted}
use Rattle.bay_server_turn_laws.proofs.KeptLemmas.{keep-turn}
use Rattle.bay_server_turn_laws.proofs.WalkLemmas.{turn-is-acts}

-- ---- counting

and-more : (b : Bool) (x y n : ℕ) → x ≡ y + n → plus_if b x ≡ plus_if b y + n
and-more true x y n e = omega (arith, e)
and-more false x y n e = e

closings-more : (a : ℕ) (xs ys : List (ℕ × CloseReason))
    → closings_of a (xs ++ ys) ≡ closings_of a xs + closings_of a ys
closings-more a [] ys = omega arith
closings-more a (x ∷ xs) ys =
    and-more (x.0 == a) (closings_of a (xs ++ ys)) (closings_of a xs) (closings_of a ys)
    (closings-more a xs ys)

times-more : (a : ℕ) (xs ys : List ℕ) → times_in a (xs ++ ys) ≡ times_in a xs + times_in a ys
times-more a [] ys = omega arith
times-more a (x ∷ xs) ys =
    and-more (x == a) (times_in a (xs ++ ys)) (times_in a xs) (times_in a ys) (times-more a xs ys)

-- ---- how an association stands

pub filled-told : (x : AssociationState) → is_close_reported (after_full x) ≡ is_close_reported x
filled-told Steady = refl
filled-told Full = refl
filled-told Draining = refl
filled-told DrainingFull = refl
filled-told Closed = refl

pub leaving-told : (x : AssociationState) → is_draining x ≡ true → is_close_reported x ≡ true
leaving-told Steady e = absurd (cc)
leaving-told Full e = absurd (cc)
leaving-told Draining e = refl
leaving-told DrainingFull e = refl
leaving-told Closed e = refl

-- once where it is told, and else never
abbrev often : List AssociationState → ℕ → ℕ
often l p = plus_if (is_close_reported (get_or l p Steady)) 0

not-less : (b c : Bool) → (b ≡ true → c ≡ true) → plus_if b 0 ≤ plus_if c 0
not-less true c h = rw (h refl) (omega arith)
not-less false c h = omega arith

-- what is told of stays told of
stays-told : (l : List AssociationState) (j p : ℕ) (x : AssociationState)
    → (is_close_reported (get_or l j Steady) ≡ true → is_close_reported x ≡ true)
    → often l p ≤ often (set l j x) p
stays-told [] j p x h = omega arith
stays-told (y ∷ l) zero zero x h = not-less (is_close_reported y) (is_close_reported x) h
stays-told (y ∷ l) zero (suc p) x h = omega arith
stays-told (y ∷ l) (suc j) zero x h = omega arith
stays-told (y ∷ l) (suc j) (suc p) x h = stays-told l j p x h

-- the same numbers one higher
one-higher : (a b j p : ℕ) → a ≡ j + 1 → b ≡ p + 1 → plus_if (a == b) 0 ≡ plus_if (j == p) 0
one-higher a b j p e f = grind (arith, nat_tests)

-- one is told of that was not
comes-told : (l : List AssociationState) (j p : ℕ) (x : AssociationState) → j < length l
    → is_close_reported x ≡ true
    → is_close_reported (get_or l j Steady) ≡ false
    → often l p + plus_if (j == p) 0 ≤ often (set l j x) p
comes-told [] j p x low is new = absurd (omega arith)
comes-told (y ∷ l) zero zero x low is new = rw (is, new) (omega arith)
comes-told (y ∷ l) zero (suc p) x low is new =
    let e : (0 == suc p) ≡ false = ne_eqb 0 (suc p) (λ e. cc) in
    omega (arith, ap (λ b. plus_if b 0) e)
comes-told (y ∷ l) (suc j) zero x low is new =
    let e : (suc j == 0) ≡ false = ne_eqb (suc j) 0 (λ e. cc) in
    omega (arith, ap (λ b. plus_if b 0) e)
comes-told (y ∷ l) (suc j) (suc p) x low is new =
    omega (
      arith,
      comes-told l j p x (omega arith) is new,
      one-higher (suc j) (suc p) j p (omega arith) (omega arith),
    )

-- ---- once

abbrev IsOnce : TurnData → Type 0
IsOnce n = (p : ℕ) → times_reported (p + 1) n.closed n.memory ≤ often n.states p

-- another standing, of which nothing new is told
stand-once : (slot : ℕ) (x : AssociationState) (n : TurnData)
    → (is_close_reported (noted_state slot n) ≡ true → is_close_reported x ≡ true) → IsOnce n
    → IsOnce (with_state slot x n)
stand-once slot x n h o p = omega (arith, o p, stays-told n.states slot p x h)

module _ (slot : ℕ) (x : AssociationState) (n : TurnData) (low : slot < length n.states)
    (is : is_close_reported x ≡ true) (o : IsOnce n) where
  -- a closing is told where it was not
  closing-once : (b : Bool) (why : CloseReason) → is_close_reported (noted_state slot n) ≡ b
      → IsOnce (with_state slot x
      (cond b n (record n { closed = n.closed ++ (slot + 1, why) ∷ [] })))
  closing-once true why e p = stand-once slot x n (λ f. is) o p
  closing-once false why e p =
      omega (
        arith,
        o p,
        comes-told n.states slot p x low is e,
        one-higher (slot + 1) (p + 1) slot p refl refl,
        closings-more (p + 1) n.closed ((slot + 1, why) ∷ []),
      )

  memory-once : (b : Bool) → is_close_reported (noted_state slot n) ≡ b
      → IsOnce (with_state slot x (cond b n (record n { memory = n.memory ++ (slot + 1) ∷ [] })))
  memory-once true e p = stand-once slot x n (λ f. is) o p
  memory-once false e p =
      omega (
        arith,
        o p,
        comes-told n.states slot p x low is e,
        one-higher (slot + 1) (p + 1) slot p refl refl,
        times-more (p + 1) n.memory ((slot + 1) ∷ []),
      )

leaves-once : (slot : ℕ) (why : Why) (n : TurnData) → slot < length n.states → IsOnce n
    → IsOnce (start_closing slot why n)
leaves-once slot Ended n low o =
    closing-once slot Draining n low refl o (is_close_reported (noted_state slot n)) closing.Ended
    refl
leaves-once slot (Fault code) n low o =
    closing-once slot Draining n low refl o (is_close_reported (noted_state slot n))
    (closing.Fault code)
    refl
leaves-once slot Memory n low o =
    memory-once slot Draining n low refl o (is_close_reported (noted_state slot n)) refl

goes-once : (slot : ℕ) (why : CloseReason) (n : TurnData) → slot < length n.states → IsOnce n
    → IsOnce (mark_closed slot why n)
goes-once slot why n low o =
    closing-once slot Closed n low refl o (is_close_reported (noted_state slot n)) why refl

-- ---- a turn

once-kept : IsNoted 8 Each IsOnce
once-kept = record {
  fills = λ slot n sized o. stand-once slot (after_full (noted_state slot n)) n
      (λ e. filled-told (noted_state slot n) ∙ e) o;
  leaving = λ slot why n sized low may o. leaves-once slot why n (omega (arith, sized)) o;
  going = λ slot why n sized low may o. goes-once slot why n (omega (arith, sized)) o;
  overflows = λ slot n sized low o. goes-once slot closing.QueueFull n (omega (arith, sized)) o;
  parts = λ slot n sized is o. stand-once slot Closed n (λ e. refl) o;
  orders = λ commands decisions n o. o;
  refuses = λ code n o. o;
}

-- of each association it is told once at most
pub told-once : (now : ℕ) (given : ProcessReport) (script : Script) (h : ServerData) (slot : ℕ)
    → length script.readings ≤ 8 → length script.offers ≡ 8
    → times_reported (slot + 1) (after_turn now given script h).noted.closed
    (after_turn now given script h).noted.memory ≤ 1
told-once now given script h slot reads offers =
    let t : TurnState = after_turn now given script h in
    let once =
    keep-turn now 8 IsOnce once-kept h script.accepted t _ _
    (turn-is-acts now 8 given script h (omega (arith, reads)) (omega (arith, offers)))
    (λ p. omega arith) slot in
    omega (arith, once, not-less (is_close_reported (noted_state slot t.noted)) true (λ e. refl))
