-- The stack machine. One instruction is one step; each case without a meaning is a trap. An offset
-- counts octets of the code from 0.
use Rattle.std.specs.Prelude.{ℕ, ℤ, zero, suc, pos, ◌+◌, ◌&&◌, ◌||◌, Bool, true, false, not, List, [], ◌∷◌, length, nat_lt, slice_get, slice_set, Option, Some, None, if◌then◌else◌}
use Rattle.std.specs.Ordering.{int_eq}
use Rattle.il_image.specs.declared.arithmetic.Width.{Width}
use Rattle.il_image.specs.declared.arithmetic.Width.TheVariants as width
use Rattle.il_image.specs.declared.arithmetic.ArithmeticOperation.{ArithmeticOperation}
use Rattle.il_image.specs.declared.arithmetic.ArithmeticOperation.TheVariants.{Add, Sub, Mul, Div, Mod}
use Rattle.il_image.specs.declared.arithmetic.Comparison.{Comparison}
use Rattle.il_image.specs.declared.arithmetic.Comparison.TheVariants.{Gt, Ge, Eq, Ne, Le, Lt}
use Rattle.il_image.specs.declared.instr.Instr.{Instr}
use Rattle.il_image.specs.declared.instr.Instr.TheVariants.{Halt, Push, Drop, Slot, Not, Combine, Compute, Compare, Widen, Jump, Timer}
use Rattle.il_image.specs.declared.opcode.Connective.{Connective}
use Rattle.il_image.specs.declared.opcode.Widening.{Widening}
use Rattle.il_image.specs.declared.opcode.SlotUse.TheVariants.{Load, Store, SetIf, ResetIf}
use Rattle.il_image.specs.declared.opcode.When.TheVariants.{Always, IfTrue, IfFalse}
use Rattle.il_image.specs.declared.opcode.TimerUse.TheVariants.{SetInput, SetPreset, Run, LoadOutput, LoadElapsed}
use Rattle.il_image.specs.declared.timer.TimerState.{TimerState}
use Rattle.il_image.specs.declared.value.Value.{Value}
use Rattle.il_image.specs.declared.value.Value.TheVariants.{Truth, Short, Long, Wide, Span}
use Rattle.bay_base.specs.declared.types.ElementaryType.TheVariants as elementary
use Rattle.bay_base.specs.Types.{same_type}
use Rattle.il_image.specs.Arithmetic.{comparison_holds, computation_of, logic_of, wider_value}
use Rattle.il_image.specs.Offsets.{aligned_instr}
use Rattle.il_image.specs.Timers.{after_call}
use Rattle.il_image.specs.Values.{number_of, type_of}

-- ---- own: the machine (docs/IMAGE.md)

-- the offset of the next instruction in the code, the cells of the operand stack with the top
-- first, the slots, and the timers
pub record State : Type 0 where
  pub offset : ℕ
  pub cells : List Value
  pub slots : List Value
  pub timers : List TimerState

-- why an instruction has no meaning in a state
pub data Trap : Type 0 where
  EmptyStack : Trap
  FullStack : Trap
  WrongKind : Trap
  ZeroDivisor : Trap
  MissingSlot : Trap
  MissingTimer : Trap
  OutsideCode : Trap

-- the result of one step: the next state, the end of the run, or a trap
pub data StepResult : Type 0 where
  Continues : State → StepResult
  Halts : StepResult
  Traps : Trap → StepResult

-- ---- own: the size of a machine

-- the most cells of the operand stack
abbrev pub most_cells : ℕ
most_cells = 32

-- the most slots
abbrev pub most_slots : ℕ
most_slots = 512

-- the most timers
abbrev pub most_timers : ℕ
most_timers = 64

-- ---- own: what steps are made of

-- The machine checks what an instruction needs in this order: slot or timer, cells, kinds, divisor,
-- room.

-- continues at an offset, with these cells
abbrev pub continues_at : ℕ → List Value → State → StepResult
continues_at to cells s = Continues (record s { offset = to; cells = cells })

-- pushes a cell, if there is room
abbrev pub pushes : Value → ℕ → State → StepResult
pushes v to s =
    if nat_lt (length s.cells) most_cells then continues_at to (v ∷ s.cells) s else Traps FullStack

-- a step with the top and the cells below it; the stack must not be empty
abbrev pub with_top : List Value → (Value → List Value → StepResult) → StepResult
with_top [] act = Traps EmptyStack
with_top (top ∷ below) act = act top below

-- a step with the two operands, the second of which is the top
abbrev pub with_two : List Value → (Value → Value → List Value → StepResult) → StepResult
with_two [] act = Traps EmptyStack
with_two (top ∷ []) act = Traps EmptyStack
with_two (second ∷ first ∷ below) act = act first second below

-- a step with a cell that must be a BOOL
abbrev pub as_truth : Value → (Bool → StepResult) → StepResult
as_truth (Truth b) act = act b
as_truth v act = Traps WrongKind

-- a step with a cell that must be a TIME
abbrev pub as_span : Value → (ℕ → StepResult) → StepResult
as_span (Span n) act = act n
as_span v act = Traps WrongKind

-- a step with a cell that must be a number of the width
abbrev pub as_number : Width → Value → (ℤ → StepResult) → StepResult
as_number width.Int (Short z) act = act z
as_number width.Dint (Long z) act = act z
as_number width.Lint (Wide z) act = act z
as_number w v act = Traps WrongKind

-- a step with the slot of a number, which must exist
abbrev pub with_slot : ℕ → State → (Value → StepResult) → StepResult
with_slot n s act = elim (slice_get s.slots n) [ None ↦ Traps MissingSlot | Some v ↦ act v ]

-- a step with the timer of a number, which must exist
abbrev pub with_timer : ℕ → State → (TimerState → StepResult) → StepResult
with_timer n s act = elim (slice_get s.timers n) [ None ↦ Traps MissingTimer | Some t ↦ act t ]

-- a step with the top and a slot, which must be BOOLs
abbrev pub with_truths : ℕ → State → (Bool → Bool → StepResult) → StepResult
with_truths n s act =
    with_slot n s (λ slot. with_top s.cells
    (λ top below. as_truth top (λ b. as_truth slot (λ old. act b old))))

-- a step with the two operands, which must be numbers of the width
abbrev pub with_numbers : Width → State → (ℤ → ℤ → List Value → StepResult) → StepResult
with_numbers w s act =
    with_two s.cells (λ first second below. as_number w second
    (λ b. as_number w first (λ a. act a b below)))

-- writes a slot and continues at an offset
abbrev pub stores : ℕ → Value → ℕ → State → StepResult
stores n v to s = Continues (record s { offset = to; slots = slice_set s.slots n v })

-- writes a timer and the cells, and continues at an offset
abbrev pub changes : ℕ → TimerState → ℕ → List Value → State → StepResult
changes n t to cells s =
    Continues (record s { offset = to; cells = cells; timers = slice_set s.timers n t })

-- a number as a value of the width
abbrev pub value_of_width : Width → ℤ → Value
value_of_width width.Int z = Short z
value_of_width width.Dint z = Long z
value_of_width width.Lint z = Wide z

-- whether the operation has a divisor
abbrev pub divides : ArithmeticOperation → Bool
divides Div = true
divides Mod = true
divides Add = false
divides Sub = false
divides Mul = false

-- whether the comparison only tests for equality
abbrev pub is_equality_test : Comparison → Bool
is_equality_test Eq = true
is_equality_test Ne = true
is_equality_test Gt = false
is_equality_test Ge = false
is_equality_test Le = false
is_equality_test Lt = false

-- whether two values may be compared: both of one type, and BOOLs only for equality
abbrev pub is_comparable : Comparison → Value → Value → Bool
is_comparable c a b =
    same_type (type_of a) (type_of b)
    && (not (same_type (type_of a) elementary.Bool) || is_equality_test c)

-- ---- own: what each instruction does; `next` is the offset after it

-- Pops the top.
abbrev pub drops : ℕ → State → StepResult
drops next s = with_top s.cells (λ top below. continues_at next below s)

-- Pushes the slot's value.
abbrev pub loads : ℕ → ℕ → State → StepResult
loads n next s = with_slot n s (λ slot. pushes slot next s)

-- Copies the top, which must be of the slot's type, to the slot.
abbrev pub stores_top : ℕ → ℕ → State → StepResult
stores_top n next s =
    with_slot n s (λ slot. with_top s.cells
    (λ top below. if same_type (type_of top) (type_of slot) then stores n top next s
    else Traps WrongKind))

-- Sets the slot to TRUE if the top is TRUE.
abbrev pub sets : ℕ → ℕ → State → StepResult
sets n next s = with_truths n s (λ top old. stores n (Truth (top || old)) next s)

-- Sets the slot to FALSE if the top is TRUE.
abbrev pub resets : ℕ → ℕ → State → StepResult
resets n next s = with_truths n s (λ top old. stores n (Truth (not top && old)) next s)

-- Negates the top.
abbrev pub inverts : ℕ → State → StepResult
inverts next s =
    with_top s.cells (λ top below. as_truth top (λ b. continues_at next (Truth (not b) ∷ below) s))

-- Replaces two BOOLs by the result of the connective.
abbrev pub connects : Connective → ℕ → State → StepResult
connects c next s =
    with_two s.cells (λ first second below. as_truth second
    (λ b. as_truth first (λ a. continues_at next (Truth (logic_of c a b) ∷ below) s)))

-- Replaces two numbers by their result; a divisor must not be 0.
abbrev pub computes : ArithmeticOperation → Width → ℕ → State → StepResult
computes o w next s =
    with_numbers w s (λ a b below. if divides o && int_eq b (pos 0) then Traps ZeroDivisor
    else continues_at next (value_of_width w (computation_of o w a b) ∷ below) s)

-- Replaces two values by the result of their comparison, a BOOL.
abbrev pub compares : Comparison → ℕ → State → StepResult
compares c next s =
    with_two s.cells (λ a b below. if is_comparable c a b
    then continues_at next (Truth (comparison_holds c (number_of a) (number_of b)) ∷ below) s
    else Traps WrongKind)

-- Replaces the top by the value of the wider type.
abbrev pub widens : Widening → ℕ → State → StepResult
widens w next s =
    with_top s.cells (λ top below.
    elim (wider_value w top) [ None ↦ Traps WrongKind | Some v ↦ continues_at next (v ∷ below) s ])

-- Jumps depending on the top, which stays on the stack.
abbrev pub jumps_where : (Bool → ℕ) → State → StepResult
jumps_where to s = with_top s.cells (λ top below. as_truth top (λ b. continues_at (to b) s.cells s))

-- Pops the top as IN of the timer.
abbrev pub pops_input : ℕ → ℕ → State → StepResult
pops_input n next s =
    with_timer n s (λ t. with_top s.cells
    (λ top below. as_truth top (λ b. changes n (record t { input = b }) next below s)))

-- Pops the top as PT of the timer.
abbrev pub pops_preset : ℕ → ℕ → State → StepResult
pops_preset n next s =
    with_timer n s (λ t. with_top s.cells
    (λ top below. as_span top (λ preset. changes n (record t { preset = preset }) next below s)))

-- Calls the timer at the moment `now`.
abbrev pub runs_timer : ℕ → ℕ → ℕ → State → StepResult
runs_timer now n next s = with_timer n s (λ t. changes n (after_call t now) next s.cells s)

-- Pushes Q.
abbrev pub loads_output : ℕ → ℕ → State → StepResult
loads_output n next s = with_timer n s (λ t. pushes (Truth t.output) next s)

-- Pushes ET.
abbrev pub loads_elapsed : ℕ → ℕ → State → StepResult
loads_elapsed n next s = with_timer n s (λ t. pushes (Span t.elapsed) next s)

-- the step of one instruction at the moment `now`
unfoldable pub act : ℕ → Instr → ℕ → State → StepResult
act now Halt next s = Halts
act now (Push v) next s = pushes v next s
act now Drop next s = drops next s
act now (Slot Load n) next s = loads n next s
act now (Slot Store n) next s = stores_top n next s
act now (Slot SetIf n) next s = sets n next s
act now (Slot ResetIf n) next s = resets n next s
act now Not next s = inverts next s
act now (Combine c) next s = connects c next s
act now (Compute o w) next s = computes o w next s
act now (Compare c) next s = compares c next s
act now (Widen w) next s = widens w next s
act now (Jump Always distance) next s = continues_at (next + distance) s.cells s
act now (Jump IfTrue distance) next s = jumps_where (λ b. if b then next + distance else next) s
act now (Jump IfFalse distance) next s = jumps_where (λ b. if b then next else next + distance) s
act now (Timer SetInput n) next s = pops_input n next s
act now (Timer SetPreset n) next s = pops_preset n next s
act now (Timer Run n) next s = runs_timer now n next s
act now (Timer LoadOutput n) next s = loads_output n next s
act now (Timer LoadElapsed n) next s = loads_elapsed n next s

-- ---- own: a step and a run of the machine

-- the step of the instruction that was read, or a trap if there is none
abbrev pub step_of_read : ℕ → Option (Instr × ℕ) → State → StepResult
step_of_read now None s = Traps OutsideCode
step_of_read now (Some read) s = act now read.0 read.1 s

-- the step from a state, at whose offset an instruction must begin
abbrev pub step_at : List ℕ → ℕ → State → StepResult
step_at code now s = step_of_read now (aligned_instr code s.offset) s

-- how a run ends: at HALT, with the slots, the timers and the number of steps including HALT's; in
-- a trap; or not within the limit of steps
pub data Ending : Type 0 where
  Halted : List Value → List TimerState → ℕ → Ending
  Trapped : Trap → Ending
  Unfinished : Ending

-- how a run ends, given its next step and how the rest ends
abbrev pub ending_of : StepResult → State → ℕ → (State → Ending) → Ending
ending_of (Continues after) s steps rest = rest after
ending_of Halts s steps rest = Halted s.slots s.timers steps
ending_of (Traps trap) s steps rest = Trapped trap

-- how a run ends that makes at most `most` more steps from a state, after `steps` steps
unfoldable pub run_from : List ℕ → ℕ → ℕ → State → ℕ → Ending
run_from code now zero s steps = Unfinished
run_from code now (suc most) s steps =
    ending_of (step_at code now s) s (steps + 1) (λ after. run_from code now most after (steps + 1))

-- the state in which a run begins: offset 0, and an empty operand stack
abbrev pub initial_state : List Value → List TimerState → State
initial_state slots timers = record { offset = 0; cells = []; slots = slots; timers = timers }
