-- A run of the machine keeps the number of the slots and the kinds of the timers.
use Rattle.std.proofs.Common.{◌≡◌, ◌⊎◌, inl, inr, ℕ, zero, suc, ◌+◌, Bool, true, false, cond, List, length, [], ◌∷◌, refl, sym, ap, subst, ◌∙◌, Option, Some, None, slice_get, slice_set, map}
use Rattle.std.specs.Prelude.{◌&&◌, ◌||◌, not, nat_lt}
use Rattle.std.specs.Ordering.{int_eq}
use Rattle.std.specs.Prelude.{ℤ, pos}
use Rattle.il_image.specs.declared.arithmetic.Width.{Width}
use Rattle.il_image.specs.declared.arithmetic.Width.TheVariants as width
use Rattle.il_image.specs.declared.instr.Instr.{Instr}
use Rattle.il_image.specs.declared.instr.Instr.TheVariants.{Halt, Push, Drop, Slot, Not, Combine, Compute, Compare, Widen, Jump, Timer}
use Rattle.il_image.specs.declared.opcode.SlotUse.TheVariants.{Load, Store, SetIf, ResetIf}
use Rattle.il_image.specs.declared.opcode.TimerUse.TheVariants.{SetInput, SetPreset, Run, LoadOutput, LoadElapsed}
use Rattle.il_image.specs.declared.opcode.When.TheVariants.{Always, IfTrue, IfFalse}
use Rattle.il_image.specs.declared.timer.TimerState.{TimerState}
use Rattle.il_image.specs.declared.value.Value.{Value}
use Rattle.il_image.specs.declared.value.Value.TheVariants.{Truth, Short, Long, Wide, Span}
use Rattle.il_image.specs.Arithmetic.{comparison_holds, computation_of, wider_value}
use Rattle.il_image.specs.Machine.{Halted, State, Trap, StepResult, Continues, Halts, Traps, FullStack, WrongKind, MissingSlot, MissingTimer, ZeroDivisor, act, as_number, as_span, as_truth, divides, ending_of, continues_at, is_comparable, run_from, stores, step_of_read, value_of_width, with_slot, with_timer, with_top, with_two, most_cells}
use Rattle.il_image.specs.Offsets.{aligned_instr}
use Rattle.il_image.specs.declared.timer.TimerPhase.{TimerPhase}
use Rattle.il_image.specs.declared.timer.TimerPhase.TheVariants.{Idle, Held, Since}
use Rattle.bay_base.specs.declared.types.TimerKind.{TimerKind}
use Rattle.bay_base.specs.declared.types.TimerKind.TheVariants.{OnDelay, OffDelay}
use Rattle.il_image.specs.Timers.{after_call, phase_after}
use Rattle.il_image.specs.Values.{number_of, type_of}
use Rattle.bay_base.specs.Types.{same_type}
use Rattle.std.proofs.lemmas.List.{length-set}
use Rattle.il_range.specs.Laws.{DelayContinues}
use Rattle.il_range.specs.Ranges.{delay_start, delay_start_at, kind_of}

-- There are as many slots, the timers have the kinds that they had, and a delay that runs began
-- now, or ran before.
pub record Keeps (now : ℕ) (slots : List Value) (timers : List TimerState) (s : State)
    : Type 0 where
  pub size : length slots ≡ length s.slots
  pub kinds : map kind_of timers ≡ map kind_of s.timers
  pub begins : DelayContinues now timers s.timers

-- A step keeps them, unless it is the last.
abbrev NextKeeps : ℕ → StepResult → State → Type 0
NextKeeps now (Continues t) s = Keeps now t.slots t.timers s
NextKeeps now Halts s = Unit {0}
NextKeeps now (Traps trap) s = Unit {0}

same : (now : ℕ) (s : State) → Keeps now s.slots s.timers s
same now s = record { size = refl; kinds = refl; begins = λ n start is. inr is }

map-stays : {A B : Type 0} (f : A → B) (xs : List A) (n : ℕ) (x y : A) → slice_get xs n ≡ Some x
    → f y ≡ f x → map f (slice_set xs n y) ≡ map f xs
map-stays f [] n x y at e = refl
map-stays {B = B} f (z ∷ xs) zero x y at e = let is : z ≡ x = cc in
    ap (λ (b : B). b ∷ map f xs) (e ∙ ap f (sym is))
map-stays {B = B} f (z ∷ xs) (suc n) x y at e =
    ap (λ (bs : List B). f z ∷ bs) (map-stays f xs n x y at e)

keep-if : (now : ℕ) (b : Bool) (t : StepResult) (trap : Trap) (s : State) → NextKeeps now t s
    → NextKeeps now (cond b t (Traps trap)) s
keep-if now true t trap s h = h
keep-if now false t trap s h = tt

keep-unless : (now : ℕ) (b : Bool) (t : StepResult) (trap : Trap) (s : State) → NextKeeps now t s
    → NextKeeps now (cond b (Traps trap) t) s
keep-unless now true t trap s h = tt
keep-unless now false t trap s h = h

keep-top : (now : ℕ) (cells : List Value) (f : Value → List Value → StepResult) (s : State)
    → ((v : Value) (below : List Value) → NextKeeps now (f v below) s)
    → NextKeeps now (with_top cells f) s
keep-top now [] f s h = tt
keep-top now (v ∷ below) f s h = h v below

keep-two : (now : ℕ) (cells : List Value) (f : Value → Value → List Value → StepResult) (s : State)
    → ((v u : Value) (below : List Value) → NextKeeps now (f v u below) s)
    → NextKeeps now (with_two cells f) s
keep-two now [] f s h = tt
keep-two now (v ∷ []) f s h = tt
keep-two now (v ∷ u ∷ below) f s h = h u v below

keep-truth : (now : ℕ) (v : Value) (f : Bool → StepResult) (s : State)
    → ((b : Bool) → NextKeeps now (f b) s) → NextKeeps now (as_truth v f) s
keep-truth now (Truth b) f s h = h b
keep-truth now v f s h = tt

keep-span : (now : ℕ) (v : Value) (f : ℕ → StepResult) (s : State)
    → ((n : ℕ) → NextKeeps now (f n) s)
    → NextKeeps now (as_span v f) s
keep-span now (Span n) f s h = h n
keep-span now v f s h = tt

keep-number : (now : ℕ) (w : Width) (v : Value) (f : ℤ → StepResult) (s : State)
    → ((z : ℤ) → NextKeeps now (f z) s)
    → NextKeeps now (as_number w v f) s
keep-number now width.Int (Short z) f s h = h z
keep-number now width.Dint (Long z) f s h = h z
keep-number now width.Lint (Wide z) f s h = h z
keep-number now w v f s h = tt

keep-slot : (now : ℕ) (n : ℕ) (s : State) (f : Value → StepResult)
    → ((v : Value) → NextKeeps now (f v) s) → NextKeeps now (with_slot n s f) s
keep-slot now n s f h = go (slice_get s.slots n)
  where
    go : (o : Option Value)
        → NextKeeps now (elim o [ None ↦ Traps MissingSlot | Some v ↦ f v ]) s
    go None = tt
    go (Some v) = h v

keep-timer : (now : ℕ) (n : ℕ) (s : State) (f : TimerState → StepResult)
    → ((t : TimerState) → slice_get s.timers n ≡ Some t → NextKeeps now (f t) s)
    → NextKeeps now (with_timer n s f) s
keep-timer now n s f h = go (slice_get s.timers n) refl
  where
    go : (o : Option TimerState) → slice_get s.timers n ≡ o
        → NextKeeps now (elim o [ None ↦ Traps MissingTimer | Some t ↦ f t ]) s
    go None e = tt
    go (Some t) e = h t e

keep-wider : (now : ℕ) (o : Option Value) (f : Value → StepResult) (s : State)
    → ((v : Value) → NextKeeps now (f v) s)
    → NextKeeps now (elim o [ None ↦ Traps WrongKind | Some v ↦ f v ]) s
keep-wider now None f s h = tt
keep-wider now (Some v) f s h = h v

-- a slot changes
slot-keeps : (now : ℕ) (s : State) (n : ℕ) (u : Value)
    → Keeps now (slice_set s.slots n u) s.timers s
slot-keeps now s n u = record {
  size = length-set s.slots n u;
  kinds = refl;
  begins = λ m start is. inr is;
}

-- a delay that runs began now, or ran before
abbrev BeginsBy : ℕ → TimerState → TimerState → Type 0
BeginsBy now u t =
    (start : ℕ) → delay_start u.phase ≡ Some start
    → (start ≡ now) ⊎ (delay_start t.phase ≡ Some start)

set-begins : (now : ℕ) (timers : List TimerState) (n : ℕ) (t u : TimerState)
    → slice_get timers n ≡ Some t → BeginsBy now u t
    → DelayContinues now (slice_set timers n u) timers
set-begins now [] n t u at by m start is = inr is
set-begins now (x ∷ timers) zero t u at by zero start is =
    let same : x ≡ t = cc in
    subst (λ (y : TimerState). (start ≡ now) ⊎ (delay_start y.phase ≡ Some start)) (sym same)
    (by start is)
set-begins now (x ∷ timers) zero t u at by (suc m) start is = inr is
set-begins now (x ∷ timers) (suc n) t u at by zero start is = inr is
set-begins now (x ∷ timers) (suc n) t u at by (suc m) start is =
    set-begins now timers n t u at by m start is

call-begins : (k : TimerKind) (b : Bool) (phase : TimerPhase) (now start : ℕ)
    → delay_start (phase_after k b phase now) ≡ Some start
    → (start ≡ now) ⊎ (delay_start phase ≡ Some start)
call-begins OnDelay false phase now start is = absurd (cc)
call-begins OnDelay true Idle now start is = inl (cc)
call-begins OnDelay true Held now start is = inl (cc)
call-begins OnDelay true (Since m) now start is = inr is
call-begins OffDelay true phase now start is = absurd (cc)
call-begins OffDelay false Idle now start is = absurd (cc)
call-begins OffDelay false Held now start is = inl (cc)
call-begins OffDelay false (Since m) now start is = inr is

-- a timer changes, but for its kind
timer-keeps : (now : ℕ) (s : State) (n : ℕ) (t u : TimerState) → slice_get s.timers n ≡ Some t
    → u.kind ≡ t.kind → BeginsBy now u t → Keeps now s.slots (slice_set s.timers n u) s
timer-keeps now s n t u at e by = record {
  size = refl;
  kinds = map-stays kind_of s.timers n t u at e;
  begins = set-begins now s.timers n t u at by;
}

-- a slot of a truth changes by the top
truths-keep : (now n next : ℕ) (s : State) (f : Bool → Bool → Bool) (v top : Value)
    → NextKeeps now (as_truth top (λ b. as_truth v (λ o. stores n (Truth (f b o)) next s))) s
truths-keep now n next s f v top =
    keep-truth now top _ s (λ b. keep-truth now v _ s (λ o. slot-keeps now s n (Truth (f b o))))

step-keeps : (now : ℕ) (i : Instr) (next : ℕ) (s : State) → NextKeeps now (act now i next s) s
unfolding act
step-keeps now Halt next s = tt
step-keeps now (Push v) next s =
    keep-if now (nat_lt (length s.cells) most_cells) (continues_at next (v ∷ s.cells) s) FullStack s
    (same now s)
step-keeps now Drop next s = keep-top now s.cells _ s (λ v below. same now s)
step-keeps now (Slot Load n) next s =
    keep-slot now n s _ (λ v. keep-if now (nat_lt (length s.cells) most_cells)
    (continues_at next (v ∷ s.cells) s)
    FullStack s
    (same now s))
step-keeps now (Slot Store n) next s =
    keep-slot now n s _ (λ v. keep-top now s.cells _ s
    (λ top below. keep-if now (same_type (type_of top) (type_of v)) (stores n top next s) WrongKind
    s (slot-keeps now s n top)))
step-keeps now (Slot SetIf n) next s =
    keep-slot now n s _ (λ v. keep-top now s.cells _ s
    (λ top below. truths-keep now n next s (λ b o. b || o) v top))
step-keeps now (Slot ResetIf n) next s =
    keep-slot now n s _ (λ v. keep-top now s.cells _ s
    (λ top below. truths-keep now n next s (λ b o. not b && o) v top))
step-keeps now Not next s =
    keep-top now s.cells _ s (λ top below. keep-truth now top _ s (λ b. same now s))
step-keeps now (Combine c) next s =
    keep-two now s.cells _ s
    (λ a b below. keep-truth now b _ s (λ x. keep-truth now a _ s (λ y. same now s)))
step-keeps now (Compute o w) next s =
    keep-two now s.cells _ s (λ a b below. keep-number now w b _ s (λ y. keep-number now w a _ s
    (λ x. keep-unless now (divides o && int_eq y (pos 0))
    (continues_at next (value_of_width w (computation_of o w x y) ∷ below) s) ZeroDivisor s
    (same now s))))
step-keeps now (Compare c) next s =
    keep-two now s.cells _ s (λ a b below. keep-if now (is_comparable c a b)
    (continues_at next (Truth (comparison_holds c (number_of a) (number_of b)) ∷ below) s) WrongKind
    s
    (same now s))
step-keeps now (Widen w) next s =
    keep-top now s.cells _ s (λ top below. keep-wider now (wider_value w top) _ s (λ v. same now s))
step-keeps now (Jump Always distance) next s = same now s
step-keeps now (Jump IfTrue distance) next s =
    keep-top now s.cells _ s (λ top below. keep-truth now top _ s (λ b. same now s))
step-keeps now (Jump IfFalse distance) next s =
    keep-top now s.cells _ s (λ top below. keep-truth now top _ s (λ b. same now s))
step-keeps now (Timer SetInput n) next s =
    keep-timer now n s _ (λ t at. keep-top now s.cells _ s (λ top below. keep-truth now top _ s
    (λ b. timer-keeps now s n t (record t { input = b }) at refl
    (λ start is. inr is))))
step-keeps now (Timer SetPreset n) next s =
    keep-timer now n s _ (λ t at. keep-top now s.cells _ s (λ top below. keep-span now top _ s
    (λ d. timer-keeps now s n t (record t { preset = d }) at refl
    (λ start is. inr is))))
step-keeps now (Timer Run n) next s =
    keep-timer now n s _ (λ t at. timer-keeps now s n t (after_call t now) at refl
    (call-begins t.kind t.input t.phase now))
step-keeps now (Timer LoadOutput n) next s =
    keep-timer now n s _ (λ t at. keep-if now (nat_lt (length s.cells) most_cells)
    (continues_at next (Truth t.output ∷ s.cells) s) FullStack s (same now s))
step-keeps now (Timer LoadElapsed n) next s =
    keep-timer now n s _ (λ t at. keep-if now (nat_lt (length s.cells) most_cells)
    (continues_at next (Span t.elapsed ∷ s.cells) s) FullStack s (same now s))

turn-keeps : (now : ℕ) (o : Option (Instr × ℕ)) (s : State) → NextKeeps now (step_of_read now o s) s
turn-keeps now None s = tt
turn-keeps now (Some read) s = step-keeps now read.0 read.1 s

-- the rest of a run keeps them, by its next step
rest-keeps : (code : List ℕ) (now most steps count : ℕ) (slots : List Value)
    (timers : List TimerState) (t : StepResult) (s : State) → NextKeeps now t s
    → ((to : State) → run_from code now most to steps ≡ Halted slots timers count
    → Keeps now slots timers to)
    → ending_of t s steps (λ to. run_from code now most to steps) ≡ Halted slots timers count
    → Keeps now slots timers s
rest-keeps code now most steps count slots timers (Continues to) s k later e =
    let rest = later to e in
    record {
      size = rest.size ∙ k.size;
      kinds = rest.kinds ∙ k.kinds;
      begins = λ n start is. elim (rest.begins n start is) [
        | inl new ↦ inl new
        | inr old ↦ k.begins n start old
      ];
    }
rest-keeps code now most steps count slots timers Halts s k later e =
    let is : s.slots ≡ slots = cc in let are : s.timers ≡ timers = cc in
    record {
      size = ap length (sym is);
      kinds = ap (map kind_of) (sym are);
      begins =
          λ n start began. inr (subst (λ (ts : List TimerState). delay_start_at n ts ≡ Some start)
          (sym are) began);
    }
rest-keeps code now most steps count slots timers (Traps trap) s k later e = absurd (cc)

pub run-keeps : (code : List ℕ) (now most : ℕ) (s : State) (steps : ℕ) (slots : List Value)
    (timers : List TimerState) (count : ℕ)
    → run_from code now most s steps ≡ Halted slots timers count → Keeps now slots timers s
unfolding run_from
run-keeps code now zero s steps slots timers count e = absurd (cc)
run-keeps code now (suc most) s steps slots timers count e =
    rest-keeps code now most (steps + 1) count slots timers
    (step_of_read now (aligned_instr code s.offset) s)
    s
    (turn-keeps now (aligned_instr code s.offset) s)
    (λ to is. run-keeps code now most to (steps + 1) slots timers count is) e
