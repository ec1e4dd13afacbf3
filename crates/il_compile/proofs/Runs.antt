-- Runs of the machine: steps one after another, and jumps.
use Rattle.std.proofs.Common.{◌≡◌, ℕ, zero, suc, ◌+◌, ◌<◌, ◌≤◌, Bool, true, false, not, if◌then◌else◌, List, [], ◌∷◌, length, Option, Some, refl, sym, ap, subst, ◌∙◌, arith}
use Rattle.bay_base.specs.declared.types.ElementaryType.{ElementaryType}
use Rattle.bay_base.specs.declared.types.ElementaryType.TheVariants as elementary
use Rattle.il_text.specs.declared.program.Condition.{Condition}
use Rattle.il_text.specs.declared.program.Condition.TheVariants.{Always, IfTrue, IfFalse}
use Rattle.il_image.specs.Machine.{State as Machine, StepResult, Continues, Halts, Traps, Ending, Halted, act, ending_of, step_of_read}
use Rattle.il_image.specs.Spelling.{spelling}
use Rattle.il_image.specs.declared.instr.Instr.{Instr}
use Rattle.il_image.specs.declared.instr.Instr.TheVariants.{Halt, Jump}
use Rattle.il_image.specs.declared.timer.TimerState.{TimerState}
use Rattle.il_image.specs.declared.value.Value.{Value}
use Rattle.il_image.specs.declared.value.Value.TheVariants.{Truth}
use Rattle.il_image.proofs.BegunLemmas.{loose_run as run, loose_turn as turn}
use Rattle.il_check.specs.TypedProgram.{TestsBool, incoming_after_condition}
use Rattle.il_compile.specs.Code.{octets}
use Rattle.il_compile.specs.Meaning.{jump_taken}
use Rattle.il_compile.specs.OperatorClasses.{when_of}
use Rattle.il_compile.proofs.Entries.{Agrees}
use Rattle.il_compile.proofs.Placing.{Stands, back, found, within, octets_more, some-octet}
use Rattle.il_compile.proofs.Straight.{Core, core, at, DoesAll}
use Rattle.il_compile.proofs.Values.{truth-is}

-- ---- runs

-- The machine goes from one state to another, in no more steps than the octets that it passes.
pub record Leads (code : List ℕ) (now : ℕ) (m n : Machine) : Type 0 where
  pub taken : ℕ
  pub enough : m.offset + taken ≤ n.offset
  pub by : (k steps : ℕ) → run code now (taken + k) m steps ≡ run code now k n (steps + taken)

-- The machine halts with these slots and timers.
pub record Ends (code : List ℕ) (now : ℕ) (m : Machine) (slots : List Value)
    (timers : List TimerState) : Type 0 where
  pub taken : ℕ
  pub enough : m.offset + taken ≤ length code
  pub by : (steps : ℕ) → run code now taken m steps ≡ Halted slots timers (steps + taken)

-- more steps change nothing of a run that has halted
on-halted : (x : StepResult) (s : Machine) (steps : ℕ) (f g : Machine → Ending) (slots : List Value)
    (timers : List TimerState) (n : ℕ)
    → ((m : Machine) → f m ≡ Halted slots timers n → g m ≡ Halted slots timers n)
    → ending_of x s steps f ≡ Halted slots timers n → ending_of x s steps g ≡ Halted slots timers n
on-halted (Continues m) s steps f g slots timers n h e = h m e
on-halted Halts s steps f g slots timers n h e = e
on-halted (Traps trap) s steps f g slots timers n h e = absurd cc

module _ (code : List ℕ) (now : ℕ) where
  pub longer : (n k : ℕ) (m : Machine) (slots : List Value) (timers : List TimerState)
      (steps all : ℕ) → n ≤ k → run code now n m steps ≡ Halted slots timers all
      → run code now k m steps ≡ Halted slots timers all
  unfolding run
  longer zero k m slots timers steps all le e = absurd cc
  longer (suc n) zero m slots timers steps all le e = absurd (omega arith)
  longer (suc n) (suc k) m slots timers steps all le e =
      on-halted (turn code now m) m (steps + 1) _ _ slots timers all
      (λ m' e'. longer n k m' slots timers (steps + 1) all (omega arith) e') e

  stays : (m : Machine) → Leads code now m m
  stays m =
      record {
        taken = 0;
        enough = omega arith;
        by = λ k steps. (let a : 0 + k ≡ k = omega arith in
            let b : steps ≡ steps + 0 = omega arith in
            ap (λ x. run code now x m steps) a ∙ ap (run code now k m) b);
      }

  then-leads : (a b c : Machine) → Leads code now a b → Leads code now b c → Leads code now a c
  then-leads a b c l m = record {
    taken = l.taken + m.taken;
    enough = (let x = l.enough in let y = m.enough in omega arith);
    by = λ k steps.
        (let e : (l.taken + m.taken) + k ≡ l.taken + (m.taken + k) = omega arith in
        let f : (steps + l.taken) + m.taken ≡ steps + (l.taken + m.taken) = omega arith in
        ap (λ x. run code now x a steps) e ∙ l.by (m.taken + k) steps ∙ m.by k (steps + l.taken)
        ∙ ap (run code now k c) f);
  }

  pub then-ends : (a b : Machine) (slots : List Value) (timers : List TimerState)
      → Leads code now a b → Ends code now b slots timers → Ends code now a slots timers
  then-ends a b slots timers l e = record {
    taken = l.taken + e.taken;
    enough = (let x = l.enough in let y = e.enough in omega arith);
    by = λ steps.
        (let f : (steps + l.taken) + e.taken ≡ steps + (l.taken + e.taken) = omega arith in
        l.by e.taken steps ∙ e.by (steps + l.taken) ∙ ap (Halted slots timers) f);
  }

  -- one step
  pub steps-to : (i : Instr) (is : List Instr) (p : ℕ) (a : Core) (n : Machine) → p < n.offset
      → Stands code p (i ∷ is) → act now i (p + length (spelling i)) (at p a) ≡ Continues n
      → Leads code now (at p a) n
  unfolding run
  steps-to i is p a n lt h e = record {
    taken = 1;
    enough = omega arith;
    by = λ k steps.
        (let s : 1 + k ≡ suc k = omega arith in
        ap (λ x. run code now x (at p a) steps) s
        ∙ ap (λ t. ending_of t (at p a) (steps + 1) (λ after. run code now k after (steps + 1)))
        (ap (λ o. step_of_read now o (at p a)) (found code p i is h) ∙ e));
  }

  -- instructions that go on to the next
  pub straight : (is : List Instr) (p : ℕ) (a b : Core) → Stands code p is → DoesAll now is a b
      → Leads code now (at p a) (at (p + octets is) b)
  straight [] p a b h e =
      let z : p ≡ p + 0 = omega arith in
      subst (λ x. Leads code now (at p a) x) (ap (at p) e ∙ ap (λ q. at q b) z) (stays (at p a))
  straight (i ∷ is) p a c h d =
      let next = p + length (spelling i) in
      let z : next + octets is ≡ p + octets (i ∷ is) = omega (arith, octets_more i is) in
      let one : Stands code next is =
      subst (λ q. Stands code q is)
      (let e : p + octets (i ∷ []) ≡ next = omega (arith, octets_more i []) in e)
      (back code p (i ∷ []) is h) in
      then-leads _ _ _ (steps-to i is p a (at next d.0) (let some = some-octet i in omega arith) h
      (d.1 p next)) (subst (λ q. Leads code now (at next d.0) (at q c)) z
      (straight is next d.0 c one d.2))

  halts : (p next : ℕ) (a : Core) → act now Halt next (at p a) ≡ Halts
  unfolding act
  halts p next a = refl

  pub halting : (p : ℕ) (a : Core) → Stands code p (Halt ∷ [])
      → Ends code now (at p a) a.slots a.timers
  unfolding run
  halting p a h = record {
    taken = 1;
    enough = (let w = within code p Halt [] h in omega arith);
    by = λ steps. ap (λ t. ending_of t (at p a) (steps + 1)
        (λ after. run code now 0 after (steps + 1)))
        (ap (λ o. step_of_read now o (at p a)) (found code p Halt [] h)
        ∙ halts p (p + length (spelling Halt)) a);
  }

-- ---- jumps

leaps-always : (now : ℕ) (cell : Value) (d p next : ℕ) (slots : List Value)
    (timers : List TimerState)
    → act now (Jump (when_of Always) d) next (at p (core (cell ∷ []) slots timers))
    ≡ Continues (at (next + d) (core (cell ∷ []) slots timers))
unfolding act
leaps-always now cell d p next slots timers = refl

leaps-if-true : (now : ℕ) (b : Bool) (d p next : ℕ) (slots : List Value) (timers : List TimerState)
    → act now (Jump (when_of IfTrue) d) next (at p (core (Truth b ∷ []) slots timers))
    ≡ Continues (at (if b then next + d else next) (core (Truth b ∷ []) slots timers))
unfolding act
leaps-if-true now b d p next slots timers = refl

leaps-if-false : (now : ℕ) (b : Bool) (d p next : ℕ) (slots : List Value) (timers : List TimerState)
    → act now (Jump (when_of IfFalse) d) next (at p (core (Truth b ∷ []) slots timers))
    ≡ Continues (at (if not b then next + d else next) (core (Truth b ∷ []) slots timers))
unfolding act
leaps-if-false now true d p next slots timers = refl
leaps-if-false now false d p next slots timers = refl

-- a jump that is taken, or not, as the result says
pub record Jumps (c : Condition) (now : ℕ) (t : Option ElementaryType) (result : Option Value)
    (cell : Value) : Type 0 where
  pub leaves : Bool
  pub is : jump_taken c result ≡ Some leaves
  pub does : (d p next : ℕ) (slots : List Value) (timers : List TimerState)
      → act now (Jump (when_of c) d) next (at p (core (cell ∷ []) slots timers))
      ≡ Continues (at (if leaves then next + d else next) (core (cell ∷ []) slots timers))
  pub behind : leaves ≡ false → incoming_after_condition c t ≡ Some t

on-truth : (c : Condition) (now : ℕ) (t : Option ElementaryType) (result : Option Value)
    (cell : Value) → ((b : Bool) → Jumps c now t (Some (Truth b)) (Truth b))
    → t ≡ Some elementary.Bool → Agrees t result cell → Jumps c now t result cell
on-truth c now t result cell f e ag =
    let a : Agrees (Some elementary.Bool) result cell = subst (λ w. Agrees w result cell) e ag in
    let b = truth-is cell a.1 in
    let same : result ≡ Some (Truth b.0) = a.0 ∙ ap (λ v. Some v) b.1 in
    subst (λ v. Jumps c now t result v) (sym b.1)
    (subst (λ r. Jumps c now t r (Truth b.0)) (sym same) (f b.0))

-- a conditional jump decides by the current result
pub jumped : (c : Condition) (now : ℕ) (t : Option ElementaryType) (result : Option Value)
    (cell : Value) → TestsBool c t → Agrees t result cell → Jumps c now t result cell
jumped Always now t result cell ok ag =
    record {
      leaves = true;
      is = refl;
      does = λ d p next slots timers. leaps-always now cell d p next slots timers;
      behind = λ e. absurd cc;
    }
jumped IfTrue now t result cell ok ag =
    on-truth IfTrue now t result cell
    (λ b. record {
      leaves = b;
      is = refl;
      does = λ d p next slots timers. leaps-if-true now b d p next slots timers;
      behind = λ e. refl;
    }) ok ag
jumped IfFalse now t result cell ok ag =
    on-truth IfFalse now t result cell
    (λ b. record {
      leaves = not b;
      is = refl;
      does = λ d p next slots timers. leaps-if-false now b d p next slots timers;
      behind = λ e. refl;
    }) ok ag
