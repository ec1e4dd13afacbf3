-- Instructions that go on to the next: what they do wherever they stand.
use Rattle.std.proofs.Common.{◌≡◌, ℕ, ◌<◌, Bool, true, false, not, ◌&&◌, ◌||◌, List, [], ◌∷◌, ◌++◌, length, Some, None, refl, sym, subst}
use Rattle.std.specs.Prelude.{slice_get, slice_set, nat_lt, if◌then◌else◌, ℤ, pos}
use Rattle.std.specs.Ordering.{int_eq}
use Rattle.std.proofs.lemmas.Bool.{lt-ltb}
use Rattle.bay_base.specs.Types.{same_type}
use Rattle.il_image.specs.Machine.{State, Continues, Traps, WrongKind, ZeroDivisor, act, continues_at, is_comparable, divides, value_of_width, most_cells}
use Rattle.il_image.specs.Arithmetic.{computation_of, comparison_holds, logic_of, wider_value}
use Rattle.il_image.specs.Timers.{after_call}
use Rattle.il_image.specs.Values.{number_of, type_of}
use Rattle.il_image.specs.declared.arithmetic.ArithmeticOperation.{ArithmeticOperation}
use Rattle.il_image.specs.declared.arithmetic.Width.{Width}
use Rattle.il_image.specs.declared.arithmetic.Width.TheVariants as width
use Rattle.il_image.specs.declared.instr.Instr.{Instr}
use Rattle.il_image.specs.declared.instr.Instr.TheVariants.{Push, Drop, Slot, Not, Widen, Timer}
use Rattle.il_image.specs.declared.opcode.SlotUse.TheVariants.{Load, Store, SetIf, ResetIf}
use Rattle.il_image.specs.declared.opcode.TimerUse.TheVariants.{Run, LoadOutput, LoadElapsed}
use Rattle.il_image.specs.declared.opcode.Widening.{Widening}
use Rattle.il_image.specs.declared.opcode.Widening.TheVariants.{IntToDint, DintToLint}
use Rattle.il_image.specs.declared.timer.TimerState.{TimerState}
use Rattle.il_image.specs.declared.value.Value.{Value}
use Rattle.il_image.specs.declared.value.Value.TheVariants.{Truth, Short, Long, Wide, Span}
use Rattle.il_text.specs.declared.program.Input.{Input}
use Rattle.il_text.specs.declared.program.Input.TheVariants.{In, Pt}
use Rattle.il_compile.specs.Code.{input_use, class_instr}
use Rattle.il_compile.specs.Meaning.{combination_of, timer_with_input}
use Rattle.il_compile.specs.OperatorClasses.{OperatorClass, connects, computes, compares}

-- what a state has beside its place
pub record Core : Type 0 where
  pub cells : List Value
  pub slots : List Value
  pub timers : List TimerState

-- the machine at a place, with this core
abbrev pub at : ℕ → Core → State
at p k = record { offset = p; cells = k.cells; slots = k.slots; timers = k.timers }

-- what the machine holds beside its place
abbrev pub core : List Value → List Value → List TimerState → Core
core cells slots timers = record { cells = cells; slots = slots; timers = timers }

-- The instruction makes the second of the first, and goes on behind itself.
abbrev pub Does : ℕ → Instr → Core → Core → Type 0
Does now i a b = (p next : ℕ) → act now i next (at p a) ≡ Continues (at next b)

-- instructions without jumps, one after the other
abbrev pub DoesAll : ℕ → List Instr → Core → Core → Type 0
DoesAll now [] a b = a ≡ b
DoesAll now (i ∷ is) a c = (b : Core) × Does now i a b × DoesAll now is b c

-- two such lists are one
pub both : (now : ℕ) (is js : List Instr) (a b c : Core) → DoesAll now is a b → DoesAll now js b c
    → DoesAll now (is ++ js) a c
both now [] js a b c e g = subst (λ x. DoesAll now js x c) (sym e) g
both now (i ∷ is) js a b c f g = (f.0, f.1, both now is js f.0 b c f.2 g)

-- one instruction is such a list
pub alone : (now : ℕ) (i : Instr) (a b : Core) → Does now i a b → DoesAll now (i ∷ []) a b
alone now i a b d = (b, d, refl)

-- ---- cells

module _ (now : ℕ) (slots : List Value) (timers : List TimerState) where
  pub pushed : (v : Value) (cells : List Value) → length cells < most_cells
      → Does now (Push v) (core cells slots timers) (core (v ∷ cells) slots timers)
  unfolding act
  pushed v cells lt p next = let e : nat_lt (length cells) most_cells ≡ true =
      lt-ltb (length cells) most_cells lt in rw e refl

  pub dropped : (v : Value) (cells : List Value)
      → Does now Drop (core (v ∷ cells) slots timers) (core cells slots timers)
  unfolding act
  dropped v cells p next = refl

  pub inverted : (b : Bool) (cells : List Value)
      → Does now Not (core (Truth b ∷ cells) slots timers)
      (core (Truth (not b) ∷ cells) slots timers)
  unfolding act
  inverted b cells p next = refl

  pub wider : (w : Widening) (v x : Value) (cells : List Value) → wider_value w v ≡ Some x
      → Does now (Widen w) (core (v ∷ cells) slots timers) (core (x ∷ cells) slots timers)
  unfolding act
  wider IntToDint (Short z) x cells e p next = let same : Long z ≡ x = cc in rw same refl
  wider DintToLint (Long z) x cells e p next = let same : Wide z ≡ x = cc in rw same refl
  wider w v x cells e p next = absurd cc

  computed-by : (o : ArithmeticOperation) (w : Width) (a b : ℤ) (c : Value) (cells : List Value)
      (p next : ℕ)
      (s : State) (zero : Bool) → zero ≡ (divides o && int_eq b (pos 0))
      → (if zero then None else Some (value_of_width w (computation_of o w a b))) ≡ Some c
      → (if zero then Traps ZeroDivisor
      else continues_at next (value_of_width w (computation_of o w a b) ∷ cells) s)
      ≡ continues_at next (c ∷ cells) s
  computed-by o w a b c cells p next s true z e = absurd cc
  computed-by o w a b c cells p next s false z e =
      let same : value_of_width w (computation_of o w a b) ≡ c = cc in rw same refl

  pub joined : (sense : OperatorClass) (a b c : Value) (cells : List Value)
      → combination_of sense a b ≡ Some c
      → Does now (class_instr sense (type_of a)) (core (b ∷ a ∷ cells) slots timers)
      (core (c ∷ cells) slots timers)
  unfolding act
  joined (connects x) (Truth a) (Truth b) c cells e p next =
      let same : Truth (logic_of x a b) ≡ c = cc in rw same refl
  joined (connects x) a b c cells e p next = absurd cc
  joined (computes o) (Short a) (Short b) c cells e p next =
      computed-by o width.Int a b c cells p next
      (at p (core (Short b ∷ Short a ∷ cells) slots timers)) (divides o && int_eq b (pos 0)) refl e
  joined (computes o) (Long a) (Long b) c cells e p next =
      computed-by o width.Dint a b c cells p next
      (at p (core (Long b ∷ Long a ∷ cells) slots timers)) (divides o && int_eq b (pos 0)) refl e
  joined (computes o) (Wide a) (Wide b) c cells e p next =
      computed-by o width.Lint a b c cells p next
      (at p (core (Wide b ∷ Wide a ∷ cells) slots timers)) (divides o && int_eq b (pos 0)) refl e
  joined (computes o) a b c cells e p next = absurd cc
  joined (compares x) a b c cells e p next = compared-by (is_comparable x a b) e
    where
      compared-by : (fits : Bool)
          → (if fits then Some (Truth (comparison_holds x (number_of a) (number_of b))) else None)
          ≡ Some c
          → (if fits then continues_at next
          (Truth (comparison_holds x (number_of a) (number_of b)) ∷ cells)
          (at p (core (b ∷ a ∷ cells) slots timers)) else Traps WrongKind)
          ≡ Continues (at next (core (c ∷ cells) slots timers))
      compared-by true f = let same : Truth (comparison_holds x (number_of a) (number_of b)) ≡ c =
          cc in rw same refl
      compared-by false f = absurd cc

  -- ---- slots

  pub fetched : (n : ℕ) (v : Value) (cells : List Value) → slice_get slots n ≡ Some v
      → length cells < most_cells → Does now (Slot Load n) (core cells slots timers)
      (core (v ∷ cells) slots timers)
  unfolding act
  fetched n v cells is lt p next = let e : nat_lt (length cells) most_cells ≡ true =
      lt-ltb (length cells) most_cells lt in rw (is, e) refl

  pub kept : (n : ℕ) (v old : Value) (cells : List Value) → slice_get slots n ≡ Some old
      → same_type (type_of v) (type_of old) ≡ true
      → Does now (Slot Store n) (core (v ∷ cells) slots timers)
      (core (v ∷ cells) (slice_set slots n v) timers)
  unfolding act
  kept n v old cells is same p next = rw (is, same) refl

  pub set_if : (n : ℕ) (b old : Bool) (cells : List Value) → slice_get slots n ≡ Some (Truth old)
      → Does now (Slot SetIf n) (core (Truth b ∷ cells) slots timers)
      (core (Truth b ∷ cells) (slice_set slots n (Truth (b || old))) timers)
  unfolding act
  set_if n b old cells is p next = rw is refl

  pub reset-if : (n : ℕ) (b old : Bool) (cells : List Value) → slice_get slots n ≡ Some (Truth old)
      → Does now (Slot ResetIf n) (core (Truth b ∷ cells) slots timers)
      (core (Truth b ∷ cells) (slice_set slots n (Truth (not b && old))) timers)
  unfolding act
  reset-if n b old cells is p next = rw is refl

  -- ---- timers

  pub gave : (n : ℕ) (i : Input) (v : Value) (t u : TimerState) (cells : List Value)
      → slice_get timers n ≡ Some t → timer_with_input i v t ≡ Some u
      → Does now (Timer (input_use i) n) (core (v ∷ cells) slots timers)
      (core cells slots (slice_set timers n u))
  unfolding act
  gave n In (Truth b) t u cells is e p next = let same : record t { input = b } ≡ u =
      cc in rw (is, same) refl
  gave n In v t u cells is e p next = absurd cc
  gave n Pt (Span z) t u cells is e p next = let same : record t { preset = z } ≡ u =
      cc in rw (is, same) refl
  gave n Pt v t u cells is e p next = absurd cc

  pub ran : (n : ℕ) (t : TimerState) (cells : List Value) → slice_get timers n ≡ Some t
      → Does now (Timer Run n) (core cells slots timers)
      (core cells slots (slice_set timers n (after_call t now)))
  unfolding act
  ran n t cells is p next = rw is refl

  pub output-fetched : (n : ℕ) (t : TimerState) (cells : List Value) → slice_get timers n ≡ Some t
      → length cells < most_cells → Does now (Timer LoadOutput n) (core cells slots timers)
      (core (Truth t.output ∷ cells) slots timers)
  unfolding act
  output-fetched n t cells is lt p next = let e : nat_lt (length cells) most_cells ≡ true =
      lt-ltb (length cells) most_cells lt in rw (is, e) refl

  pub elapsed-fetched : (n : ℕ) (t : TimerState) (cells : List Value) → slice_get timers n ≡ Some t
      → length cells < most_cells → Does now (Timer LoadElapsed n) (core cells slots timers)
      (core (Span t.elapsed ∷ cells) slots timers)
  unfolding act
  elapsed-fetched n t cells is lt p next = let e : nat_lt (length cells) most_cells ≡ true =
      lt-ltb (length cells) most_cells lt in rw (is, e) refl
