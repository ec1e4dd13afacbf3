-- Lists of calls, and doing one place after another.
use Rattle.std.proofs.Common.{◌≡◌, ℕ, suc, ◌+◌, List, [], ◌∷◌, ◌++◌, length, refl, ap, sym, ◌∙◌, subst, arith, append_assoc, append-nil, length-append}
use Rattle.bay_server_turn.specs.Calls.{Call, MakesCalls}
use Rattle.bay_server_turn.specs.Turns.{TurnState, after_each, calls_of_each}
use Rattle.bay_server_turn.specs.Served.{Performs, PerformsEach}

module _ {L : Type 0} (step : L → Call → L → Type 0) where
  pub Talks-one : (old : L) (call : Call) (new : L) → step old call new
      → MakesCalls step old (call ∷ []) new
  Talks-one old call new s = (new, s, refl)

  pub Talks-append : (old mid new : L) (xs ys : List Call) → MakesCalls step old xs mid
      → MakesCalls step mid ys new → MakesCalls step old (xs ++ ys) new
  Talks-append old mid new [] ys p q = subst (λ (l : L). MakesCalls step l ys new) (sym p) q
  Talks-append old mid new (x ∷ xs) ys p q = (p.0, p.1, Talks-append p.0 mid new xs ys p.2 q)

-- one more place
pub after_each-more : {C : Type 0} (f : ℕ → C → TurnState → TurnState) (slot : ℕ) (cs : List C)
    (c : C)
    (s : TurnState)
    → after_each f slot (cs ++ c ∷ []) s ≡ f (slot + length cs) c (after_each f slot cs s)
after_each-more f slot [] c s =
    let here : slot ≡ slot + 0 = omega arith in
    ap (λ n. f n c s) here
after_each-more f slot (b ∷ cs) c s =
    let shifted : slot + 1 + length cs ≡ slot + suc (length cs) = omega arith in
    after_each-more f (slot + 1) cs c (f slot b s)
    ∙ ap (λ n. f n c (after_each f (slot + 1) cs (f slot b s))) shifted

pub calls_of_each-more : {C : Type 0} (f : ℕ → C → TurnState → TurnState)
    (calls : ℕ → C → TurnState → List Call) (slot : ℕ) (cs : List C) (c : C) (s : TurnState)
    → calls_of_each f calls slot (cs ++ c ∷ []) s
    ≡ calls_of_each f calls slot cs s ++ calls (slot + length cs) c (after_each f slot cs s)
calls_of_each-more f calls slot [] c s =
    let here : slot ≡ slot + 0 = omega arith in
    append-nil (calls slot c s) ∙ ap (λ n. calls n c s) here
calls_of_each-more f calls slot (b ∷ cs) c s =
    let shifted : slot + 1 + length cs ≡ slot + suc (length cs) = omega arith in
    ap (λ l. calls slot b s ++ l)
    (calls_of_each-more f calls (slot + 1) cs c (f slot b s)
    ∙ ap (λ n. calls_of_each f calls (slot + 1) cs (f slot b s)
    ++ calls n c (after_each f (slot + 1) cs (f slot b s))) shifted)
    ∙ sym (append_assoc (calls slot b s) (calls_of_each f calls (slot + 1) cs (f slot b s))
    (calls (slot + suc (length cs)) c (after_each f (slot + 1) cs (f slot b s))))

-- and then the next place
pub GoesEach-more : {L C : Type 0} (step : L → Call → L → Type 0)
    (f : ℕ → C → TurnState → TurnState)
    (calls : ℕ → C → TurnState → List Call)
    (old mid new : L) (count : ℕ) (before between after : TurnState)
    → PerformsEach step f calls old mid count before between
    → Performs step (f count) (calls count) mid new between after
    → PerformsEach step f calls old new (count + 1) before after
GoesEach-more step f calls old mid new count before between after done one =
    let c = one.choice in
    let cs = done.choices in
    let here : 0 + length cs ≡ count = omega (arith, done.many) in
    let state : after_each f 0 cs before ≡ between = sym done.is in
    let same_calls : calls (0 + length cs) c (after_each f 0 cs before) ≡ calls count c between =
    ap (λ n. calls n c (after_each f 0 cs before)) here ∙ ap (λ s. calls count c s) state in
    let same_state : f (0 + length cs) c (after_each f 0 cs before) ≡ f count c between =
    ap (λ n. f n c (after_each f 0 cs before)) here ∙ ap (λ s. f count c s) state in
    record {
      choices = cs ++ c ∷ [];
      many = length-append cs (c ∷ []) ∙ ap (λ n. n + 1) done.many;
      makes = subst (λ l. MakesCalls step old l new)
          (ap (λ l. calls_of_each f calls 0 cs before ++ l) (sym same_calls)
          ∙ sym (calls_of_each-more f calls 0 cs c before))
          (Talks-append step old mid new (calls_of_each f calls 0 cs before) (calls count c between)
          done.makes one.makes);
      is = one.is ∙ sym same_state ∙ sym (after_each-more f 0 cs c before);
    }
