-- What an instruction does to words where it is allowed on the values that they stand for.
use Rattle.std.proofs.Common.{◌≡◌, ℕ, ◌+◌, ◌<◌, ◌≤◌, ℤ, pos, Bool, true, false, ◌&&◌, List, ◌∷◌, length, refl, sym, ap, subst, ◌∙◌, arith, Some}
use Rattle.std.specs.Prelude.{slice_get, slice_set, nat_lt}
use Rattle.std.specs.Ordering.{int_eq}
use Rattle.std.proofs.lemmas.Bool.{lt-ltb}
use Rattle.std.proofs.lemmas.List.{length-set, map-set}
use Rattle.bay_base.specs.declared.types.ElementaryType.{ElementaryType}
use Rattle.bay_base.specs.declared.types.ElementaryType.TheVariants as elementary
use Rattle.bay_base.specs.Types.{same_type}
use Rattle.il_image.specs.declared.arithmetic.Comparison.{Comparison}
use Rattle.il_image.specs.declared.arithmetic.ArithmeticOperation.{ArithmeticOperation}
use Rattle.il_image.specs.declared.arithmetic.Width.{Width}
use Rattle.il_image.specs.declared.arithmetic.Width.TheVariants as width
use Rattle.il_image.specs.declared.instr.Instr.{Instr}
use Rattle.il_image.specs.declared.instr.Instr.TheVariants.{Push, Drop, Slot, Not, Combine, Compute, Compare, Widen, Jump, Timer}
use Rattle.il_image.specs.declared.kind.CellKind.{CellKind}
use Rattle.il_image.specs.declared.kind.CellKind.TheVariants.{Plain}
use Rattle.il_image.specs.declared.opcode.Connective.{Connective}
use Rattle.il_image.specs.declared.opcode.SlotUse.TheVariants.{Load, Store, SetIf, ResetIf}
use Rattle.il_image.specs.declared.opcode.When.TheVariants.{Always, IfTrue, IfFalse}
use Rattle.il_image.specs.declared.opcode.Widening.TheVariants.{IntToDint, DintToLint}
use Rattle.il_image.specs.declared.opcode.TimerUse.TheVariants.{SetInput, SetPreset, Run, LoadOutput, LoadElapsed}
use Rattle.il_image.specs.declared.timer.TimerState.{TimerState}
use Rattle.il_image.specs.declared.value.Value.{Value}
use Rattle.il_image.specs.declared.value.Value.TheVariants.{Truth, Short, Long, Wide, Span}
use Rattle.il_image.specs.Arithmetic.{DividesBy, comparison_holds, computation_of, logic_of, exact_result, type_of_width}
use Rattle.il_image.specs.Effects.{below, kind_of}
use Rattle.il_image.specs.Images.{IsValue}
use Rattle.il_image.specs.Kinds.{HasKind}
use Rattle.il_image.specs.Machine.{State, StepResult, Continues, Traps, WrongKind, ZeroDivisor, act, divides, continues_at, is_comparable, pushes, stores, value_of_width, most_cells}
use Rattle.il_image.specs.Machine as machine
use Rattle.il_image.specs.Timers.{after_call}
use Rattle.il_image.specs.Values.{number_of, type_of}
use Rattle.il_image.proofs.KindLemmas.{same-self}
use Rattle.il_scan.specs.MachineStates.{HaveKinds, IsTimer, HaveTypes}
use Rattle.il_scan.specs.Words.{slot_at, words_of}
use Rattle.il_scan.specs.WordEffects.{IsReady, Words, next_offset, timer_at, words, words_after}
use Rattle.il_scan.proofs.ValueLemmas.{combined-is, kind-there, number_in, span-value, span-within, truth-there, truth-value, truth-word, type-in, widened-long, widened-short, wrapped-value}
use Rattle.il_scan.proofs.CellLemmas.{call-good, depth_of, fit-length, slot-set, slot-there, timer-good, timer-is, timers-set, with-slot-is, with-timer-is}

-- ---- what an instruction does

abbrev pub state : ℕ → List Value → List Value → List TimerState → State
state offset cells slots timers =
    record { offset = offset; cells = cells; slots = slots; timers = timers }

abbrev pub words_for : List Value → List Value → List TimerState → Words
words_for cells slots timers = words (words_of cells) (words_of slots) timers

-- It needs no more than the words have, goes on at a place, and the words then stand for the values
-- then, which fit the kinds.
pub record Does (types : List ElementaryType) (count now : ℕ) (i : Instr) (next offset : ℕ)
    (cells slots : List Value) (timers : List TimerState) (kinds : List CellKind) : Type 0 where
  pub ready : IsReady i (words_for cells slots timers)
  pub to : ℕ
  pub new_cells : List Value
  pub new_slots : List Value
  pub new_timers : List TimerState
  pub goes_on : act now i next (state offset cells slots timers)
      ≡ Continues (state to new_cells new_slots new_timers)
  pub leads_to : next_offset i next (words_of cells) ≡ Some to
  pub words_are : words_after now i (words_for cells slots timers)
      ≡ words_for new_cells new_slots new_timers
  pub fit : HaveKinds new_cells kinds
  pub typed : HaveTypes types count new_slots new_timers

-- Only the stack changes, and the next place.
on-stack : {types : List ElementaryType} {count now next p : ℕ} {i : Instr}
    {cells slots : List Value}
    {timers : List TimerState} {kinds : List CellKind} (to : ℕ) (new : List Value)
    → IsReady i (words_for cells slots timers)
    → act now i next (state p cells slots timers) ≡ Continues (state to new slots timers)
    → next_offset i next (words_of cells) ≡ Some to
    → words_after now i (words_for cells slots timers) ≡ words_for new slots timers
    → HaveKinds new kinds
    → HaveTypes types count slots timers → Does types count now i next p cells slots timers kinds
on-stack {slots = slots} {timers = timers} to new ready goes_on leads_to words_are fit typed =
    record {
      ready = ready;
      to = to;
      new_cells = new;
      new_slots = slots;
      new_timers = timers;
      goes_on = goes_on;
      leads_to = leads_to;
      words_are = words_are;
      fit = fit;
      typed = typed;
    }

-- for each instruction, with any values on the stack
module _ (types : List ElementaryType) (count now next p : ℕ) (cells slots : List Value)
    (timers : List TimerState) (typed : HaveTypes types count slots timers) where
  abbrev here : State
  here = state p cells slots timers

  -- A value is put on the stack.
  put : {kinds : List CellKind} (i : Instr) (v : Value) (k : CellKind) → HaveKinds cells kinds
      → (length (words_of cells) < most_cells → IsReady i (words_for cells slots timers))
      → act now i next here ≡ pushes v next here → next_offset i next (words_of cells) ≡ Some next
      → words_after now i (words_for cells slots timers) ≡ words_for (v ∷ cells) slots timers
      → HasKind v k × IsValue v → length (k ∷ kinds) ≤ most_cells
      → Does types count now i next p cells slots timers (k ∷ kinds)
  put {kinds} i v k fit ready continues_at leads_to words_are good room =
      let d = depth_of cells kinds fit in
      let size = fit-length cells kinds fit in
      let e : nat_lt (length cells) most_cells ≡ true =
      lt-ltb (length cells) most_cells (omega arith) in
      on-stack next (v ∷ cells) (ready (omega arith)) (continues_at ∙ rw e refl) leads_to words_are
      (good, fit) typed

  -- A slot takes a value of its type.
  put-slot : {kinds : List CellKind} (i : Instr) (n : ℕ) (t : ElementaryType) (v : Value)
      → slice_get types n ≡ Some t → type_of v ≡ t → IsValue v → HaveKinds cells kinds
      → IsReady i (words_for cells slots timers)
      → act now i next here ≡ stores n v next here → next_offset i next (words_of cells) ≡ Some next
      → words_after now i (words_for cells slots timers)
      ≡ words (words_of cells) (slice_set (words_of slots) n (number_of v)) timers
      → Does types count now i next p cells slots timers kinds
  put-slot i n t v e is good fit ready continues_at leads_to words_are =
      record {
        ready = ready;
        to = next;
        new_cells = cells;
        new_slots = slice_set slots n v;
        new_timers = timers;
        goes_on = continues_at;
        leads_to = leads_to;
        words_are = words_are
            ∙ ap (λ (w : List ℤ). words (words_of cells) w timers)
            (sym (map-set number_of slots n v));
        fit = fit;
        typed = record {
          of_types = slot-set types slots n t v e typed.of_types is good;
          timer_count = typed.timer_count;
          times = typed.times;
        };
      }

  -- A timer changes, and what is on the stack.
  change : {kinds : List CellKind} (i : Instr) (n : ℕ) (make : TimerState → TimerState)
      (new : List Value) → n < count
      → (n < length timers → IsReady i (words_for cells slots timers))
      → act now i next here
      ≡ machine.with_timer n here (λ t. machine.changes n (make t) next new here)
      → next_offset i next (words_of cells) ≡ Some next
      → words_after now i (words_for cells slots timers)
      ≡ words_for new slots (slice_set timers n (make (timer_at timers n))) → HaveKinds new kinds
      → IsTimer (make (timer_at timers n))
      → Does types count now i next p cells slots timers kinds
  change i n make new below ready continues_at leads_to words_are fit good =
      let size : length timers ≡ count = typed.timer_count in
      let there : n < length timers = omega arith in
      let t : TimerState = make (timer_at timers n) in
      record {
        ready = ready there;
        to = next;
        new_cells = new;
        new_slots = slots;
        new_timers = slice_set timers n t;
        goes_on = continues_at ∙ with-timer-is timers n (timer_at timers n)
            (λ u. machine.changes n (make u) next new here) (timer-is timers n there);
        leads_to = leads_to;
        words_are = words_are;
        fit = fit;
        typed = record {
          of_types = typed.of_types;
          timer_count = length-set timers n t ∙ size;
          times = timers-set timers n t typed.times good;
        };
      }

  -- what a timer shows is put on the stack
  show : {kinds : List CellKind} (i : Instr) (n : ℕ) (make : TimerState → Value) (k : CellKind)
      → n < count → HaveKinds cells kinds
      → (length (words_of cells) < most_cells → n < length timers
      → IsReady i (words_for cells slots timers))
      → act now i next here ≡ machine.with_timer n here (λ t. pushes (make t) next here)
      → next_offset i next (words_of cells) ≡ Some next
      → words_after now i (words_for cells slots timers)
      ≡ words_for (make (timer_at timers n) ∷ cells) slots timers
      → HasKind (make (timer_at timers n)) k × IsValue (make (timer_at timers n))
      → length (k ∷ kinds) ≤ most_cells
      → Does types count now i next p cells slots timers (k ∷ kinds)
  show i n make k below fit ready continues_at leads_to words_are good room =
      let size : length timers ≡ count = typed.timer_count in
      let there : n < length timers = omega arith in
      put i (make (timer_at timers n)) k fit (λ deep. ready deep there)
      (continues_at ∙ with-timer-is timers n (timer_at timers n) (λ u. pushes (make u) next here)
      (timer-is timers n there)) leads_to words_are good room

  module _ (kinds : List CellKind) (fit : HaveKinds cells kinds) where
    pub does-push : (v : Value) → IsValue v → length (kind_of v ∷ kinds) ≤ most_cells
        → Does types count now (Push v) next p cells slots timers (kind_of v ∷ kinds)
    unfolding act
    does-push v good room =
        put (Push v) v (kind_of v) fit (λ deep. deep) refl refl refl (kind-there v, good) room

    pub does-load : (n : ℕ) (t : ElementaryType) → slice_get types n ≡ Some t
        → length (Plain t ∷ kinds) ≤ most_cells
        → Does types count now (Slot Load n) next p cells slots timers (Plain t ∷ kinds)
    unfolding act
    does-load n t e room =
        let s = slot-there types slots n t e typed.of_types in
        put (Slot Load n) s.value (Plain t) fit (λ deep. (deep, s.below))
        (with-slot-is slots n s.value (λ v. pushes v next here) s.get) refl
        (ap (λ (w : ℤ). words (w ∷ words_of cells) (words_of slots) timers) s.word)
        (s.type, s.is_value) room

    pub does-jump : (distance : ℕ)
        → Does types count now (Jump Always distance) next p cells slots timers kinds
    unfolding act
    does-jump distance = on-stack (next + distance) cells tt refl refl refl fit typed

    pub does-run : (n : ℕ) → n < count
        → Does types count now (Timer Run n) next p cells slots timers kinds
    unfolding act
    does-run n below =
        change (Timer Run n) n (λ t. after_call t now) cells below (λ there. there) refl refl refl
        fit
        (call-good (timer_at timers n) now (timer-good timers n typed.times))

    pub does-load-output : (n : ℕ) → n < count → length (Plain elementary.Bool ∷ kinds) ≤ most_cells
        → Does types count now (Timer LoadOutput n) next p cells slots timers
        (Plain elementary.Bool ∷ kinds)
    unfolding act
    does-load-output n below room =
        show (Timer LoadOutput n) n (λ t. Truth t.output) (Plain elementary.Bool) below fit
        (λ deep there. (deep, there)) refl refl
        (ap (λ (w : ℤ). words (w ∷ words_of cells) (words_of slots) timers)
        (sym (truth-word (timer_at timers n).output)))
        (refl, truth-value (timer_at timers n).output) room

    pub does-load-elapsed : (n : ℕ) → n < count
        → length (Plain elementary.Time ∷ kinds) ≤ most_cells
        → Does types count now (Timer LoadElapsed n) next p cells slots timers
        (Plain elementary.Time ∷ kinds)
    unfolding act
    does-load-elapsed n below room =
        show (Timer LoadElapsed n) n (λ t. Span t.elapsed) (Plain elementary.Time) below fit
        (λ deep there. (deep, there)) refl refl refl
        (refl, span-value (timer_at timers n).elapsed (timer-good timers n typed.times).1) room

-- with a value on top
module _ (types : List ElementaryType) (count now next p : ℕ) (top : Value)
    (others slots : List Value) (timers : List TimerState) (rest : List CellKind)
    (fit : HaveKinds others rest) (typed : HaveTypes types count slots timers) where
  pub does-drop : Does types count now Drop next p (top ∷ others) slots timers rest
  unfolding act
  does-drop = on-stack next others (omega arith) refl refl refl fit typed

  pub does-store : (n : ℕ) (t : ElementaryType) (kinds : List CellKind) → slice_get types n ≡ Some t
      → type_of top ≡ t → IsValue top → HaveKinds (top ∷ others) kinds
      → Does types count now (Slot Store n) next p (top ∷ others) slots timers kinds
  unfolding act
  does-store n t kinds e is good all =
      let s = slot-there types slots n t e typed.of_types in
      let test : same_type (type_of top) (type_of s.value) ≡ true =
      subst (λ (u : ElementaryType). same_type (type_of top) u ≡ true) (is ∙ sym s.type)
      (same-self (type_of top)) in
      put-slot types count now next p (top ∷ others) slots timers typed (Slot Store n) n t top e is
      good all (omega arith, s.below) (rw (s.get, test) refl) refl refl

-- with a BOOL on top
module _ (types : List ElementaryType) (count now next p : ℕ) (others slots : List Value)
    (timers : List TimerState) (rest : List CellKind) (fit : HaveKinds others rest)
    (typed : HaveTypes types count slots timers) where
  pub does-not : (b : Bool) → Does types count now Not next p (Truth b ∷ others) slots timers
      (Plain elementary.Bool ∷ rest)
  unfolding act
  does-not true =
      on-stack next (Truth false ∷ others) (omega arith) refl refl refl
      ((refl, truth-value false), fit) typed
  does-not false =
      on-stack next (Truth true ∷ others) (omega arith) refl refl refl
      ((refl, truth-value true), fit) typed

  pub does-jump-if : (b : Bool) (distance : ℕ) (kinds : List CellKind)
      → HaveKinds (Truth b ∷ others) kinds
      → Does types count now (Jump IfTrue distance) next p (Truth b ∷ others) slots timers kinds
  unfolding act
  does-jump-if true distance kinds all =
      on-stack (next + distance) (Truth true ∷ others) (omega arith) refl refl refl all typed
  does-jump-if false distance kinds all =
      on-stack next (Truth false ∷ others) (omega arith) refl refl refl all typed

  pub does-jump-if-not : (b : Bool) (distance : ℕ) (kinds : List CellKind)
      → HaveKinds (Truth b ∷ others) kinds
      → Does types count now (Jump IfFalse distance) next p (Truth b ∷ others) slots timers kinds
  unfolding act
  does-jump-if-not true distance kinds all =
      on-stack next (Truth true ∷ others) (omega arith) refl refl refl all typed
  does-jump-if-not false distance kinds all =
      on-stack (next + distance) (Truth false ∷ others) (omega arith) refl refl refl all typed

  pub does-combine : (c : Connective) (a b : Bool)
      → Does types count now (Combine c) next p (Truth b ∷ Truth a ∷ others) slots timers
      (Plain elementary.Bool ∷ rest)
  unfolding act
  does-combine c a b =
      on-stack next (Truth (logic_of c a b) ∷ others) (omega arith) refl refl
      (ap (λ (w : ℤ). words (w ∷ words_of others) (words_of slots) timers) (combined-is c a b))
      ((refl, truth-value (logic_of c a b)), fit) typed

  -- SETIF and RESETIF: a BOOL slot takes a value that has this word
  sets : (i : Instr) (n : ℕ) (b : Bool) (kinds : List CellKind) (made : Bool → Bool)
      → slice_get types n ≡ Some elementary.Bool → HaveKinds (Truth b ∷ others) kinds
      → (n < length (words_of slots) → IsReady i (words_for (Truth b ∷ others) slots timers))
      → ((old : Bool) → slice_get slots n ≡ Some (Truth old)
      → act now i next (state p (Truth b ∷ others) slots timers)
      ≡ stores n (Truth (made old)) next (state p (Truth b ∷ others) slots timers))
      → next_offset i next (words_of (Truth b ∷ others)) ≡ Some next
      → ((old : Bool) → slot_at (words_of slots) n ≡ number_of (Truth old)
      → words_after now i (words_for (Truth b ∷ others) slots timers)
      ≡ words (words_of (Truth b ∷ others))
      (slice_set (words_of slots) n (number_of (Truth (made old)))) timers)
      → Does types count now i next p (Truth b ∷ others) slots timers kinds
  sets i n b kinds made e all ready continues_at next_offset done =
      let s = slot-there types slots n elementary.Bool e typed.of_types in
      let t = truth-there s.value s.type in
      put-slot types count now next p (Truth b ∷ others) slots timers typed i n elementary.Bool
      (Truth (made t.0)) e refl (truth-value (made t.0)) all (ready s.below)
      (continues_at t.0 (s.get ∙ ap (λ (u : Value). Some u) t.1)) next_offset
      (done t.0 (s.word ∙ ap number_of t.1))

  pub does-set-if : (n : ℕ) (b : Bool) (kinds : List CellKind)
      → slice_get types n ≡ Some elementary.Bool → HaveKinds (Truth b ∷ others) kinds
      → Does types count now (Slot SetIf n) next p (Truth b ∷ others) slots timers kinds
  unfolding act
  does-set-if n true kinds e all =
      sets (Slot SetIf n) n true kinds (λ old. true) e all (λ below. (omega arith, below))
      (λ old get. rw get refl) refl (λ old word. refl)
  does-set-if n false kinds e all =
      sets (Slot SetIf n) n false kinds (λ old. old) e all (λ below. (omega arith, below))
      (λ old get. rw get refl) refl (λ old word. rw word refl)

  pub does-reset-if : (n : ℕ) (b : Bool) (kinds : List CellKind)
      → slice_get types n ≡ Some elementary.Bool → HaveKinds (Truth b ∷ others) kinds
      → Does types count now (Slot ResetIf n) next p (Truth b ∷ others) slots timers kinds
  unfolding act
  does-reset-if n true kinds e all =
      sets (Slot ResetIf n) n true kinds (λ old. false) e all (λ below. (omega arith, below))
      (λ old get. rw get refl) refl (λ old word. refl)
  does-reset-if n false kinds e all =
      sets (Slot ResetIf n) n false kinds (λ old. old) e all (λ below. (omega arith, below))
      (λ old get. rw get refl) refl (λ old word. rw word refl)

  pub does-set-input : (n : ℕ) (b : Bool) → n < count
      → Does types count now (Timer SetInput n) next p (Truth b ∷ others) slots timers rest
  unfolding act
  does-set-input n true below =
      change types count now next p (Truth true ∷ others) slots timers typed (Timer SetInput n) n
      (λ t. record t { input = true }) others below (λ there. (omega arith, there)) refl refl refl
      fit (timer-good timers n typed.times)
  does-set-input n false below =
      change types count now next p (Truth false ∷ others) slots timers typed (Timer SetInput n) n
      (λ t. record t { input = false }) others below (λ there. (omega arith, there)) refl refl refl
      fit (timer-good timers n typed.times)

  pub does-set-preset : (n m : ℕ) → IsValue (Span m) → n < count
      → Does types count now (Timer SetPreset n) next p (Span m ∷ others) slots timers rest
  unfolding act
  does-set-preset n m good below =
      let small = span-within m good in
      change types count now next p (Span m ∷ others) slots timers typed (Timer SetPreset n) n
      (λ t. record t { preset = m }) others below
      (λ there. (omega arith, there, (m, refl, small))) refl refl refl fit
      (small, (timer-good timers n typed.times).1)

  -- ---- two values

  pub does-compute : (o : ArithmeticOperation) (w : Width) (a b : ℤ)
      → (divides o && int_eq b (pos 0)) ≡ false
      → DividesBy o b → Does types count now (Compute o w) next p
      (value_of_width w b ∷ value_of_width w a ∷ others) slots timers
      (Plain (type_of_width w) ∷ rest)
  unfolding act
  does-compute o w a b test divisor =
      let v : Value = value_of_width w (computation_of o w a b) in
      let nb : number_of (value_of_width w b) ≡ b = number_in w b in
      let na : number_of (value_of_width w a) ≡ a = number_in w a in
      let nv : number_of v ≡ computation_of o w a b = number_in w (computation_of o w a b) in
      on-stack next (v ∷ others) (omega arith, subst (DividesBy o) (sym nb) divisor)
      (with-numbers-is w a b test) refl (rw (na, nb, nv) refl)
      ((type-in w (computation_of o w a b), wrapped-value w (exact_result o a b)), fit) typed
    where
      with-numbers-is : (w : Width) (a b : ℤ) → (divides o && int_eq b (pos 0)) ≡ false
          → machine.computes o w next
          (state p (value_of_width w b ∷ value_of_width w a ∷ others) slots timers)
          ≡ Continues (state next (value_of_width w (computation_of o w a b) ∷ others) slots timers)
      with-numbers-is width.Int a b e = rw e refl
      with-numbers-is width.Dint a b e = rw e refl
      with-numbers-is width.Lint a b e = rw e refl

  pub does-compare : (c : Comparison) (first second : Value) → is_comparable c first second ≡ true
      → Does types count now (Compare c) next p (second ∷ first ∷ others) slots timers
      (Plain elementary.Bool ∷ rest)
  unfolding act
  does-compare c first second test =
      let b : Bool = comparison_holds c (number_of first) (number_of second) in
      on-stack next (Truth b ∷ others) (omega arith) (rw test refl) refl
      (ap (λ (x : ℤ). words (x ∷ words_of others) (words_of slots) timers) (sym (truth-word b)))
      ((refl, truth-value b), fit) typed

  pub does-widen : (z : ℤ) (k : CellKind) → HasKind (Long z) k → IsValue (Short z)
      → Does types count now (Widen IntToDint) next p (Short z ∷ others) slots timers (k ∷ rest)
  unfolding act
  does-widen z k is good =
      on-stack next (Long z ∷ others) (omega arith) refl refl refl
      ((is, widened-short z good), fit) typed

  pub does-widen-long : (z : ℤ) (k : CellKind) → HasKind (Wide z) k → IsValue (Long z)
      → Does types count now (Widen DintToLint) next p (Long z ∷ others) slots timers (k ∷ rest)
  unfolding act
  does-widen-long z k is good =
      on-stack next (Wide z ∷ others) (omega arith) refl refl refl
      ((is, widened-long z good), fit) typed
