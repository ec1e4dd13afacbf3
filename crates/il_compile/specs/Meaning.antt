-- The meaning of a program (IEC 61131-3:2003, 3.2 and table 52), by its structure, on a current
-- result, the variables and the timers, at a moment. There is no meaning if an instruction uses a
-- result that is not set, a name that is not there, a value of another type or a divisor of 0.
use Rattle.std.specs.Prelude.{ℕ, ℤ, pos, ◌&&◌, ◌==◌, Bool, true, false, not, List, [], ◌∷◌, slice_get, slice_set, Option, None, Some, option_map, if◌then◌else◌}
use Rattle.std.specs.Ordering.{int_eq}
use Rattle.bay_base.specs.Options.{◌>>=◌}
use Rattle.bay_base.specs.Types.{same_type}
use Rattle.il_text.specs.declared.program.Condition.{Condition}
use Rattle.il_text.specs.declared.program.Condition.TheVariants.{Always, IfTrue, IfFalse}
use Rattle.il_text.specs.declared.program.Input.{Input}
use Rattle.il_text.specs.declared.program.Input.TheVariants.{In, Pt}
use Rattle.il_text.specs.declared.program.Operator.{Operator}
use Rattle.il_text.specs.declared.program.TimerOutput.{TimerOutput}
use Rattle.il_text.specs.declared.program.TimerOutput.TheVariants.{Q, Et}
use Rattle.il_text.specs.declared.program.StoreKind.{StoreKind}
use Rattle.il_text.specs.declared.program.StoreKind.TheVariants as store
use Rattle.il_image.specs.Arithmetic.{comparison_holds, computation_of, logic_of, wider_value}
use Rattle.il_image.specs.Machine.{divides, is_comparable, value_of_width}
use Rattle.il_image.specs.Timers.{after_call}
use Rattle.il_image.specs.Values.{number_of, type_of}
use Rattle.il_image.specs.declared.arithmetic.ArithmeticOperation.{ArithmeticOperation}
use Rattle.il_image.specs.declared.arithmetic.Width.{Width}
use Rattle.il_image.specs.declared.arithmetic.Width.TheVariants as width
use Rattle.il_image.specs.declared.timer.TimerState.{TimerState}
use Rattle.il_image.specs.declared.value.Value.{Value}
use Rattle.il_image.specs.declared.value.Value.TheVariants.{Truth, Short, Long, Wide, Span}
use Rattle.il_check.specs.Program.{Entry, operation, block, Entries, no_entries, entry, ProgramItem, label, transfer, plain}
use Rattle.il_check.specs.declared.typed.SimpleOperation.{SimpleOperation}
use Rattle.il_check.specs.declared.typed.SimpleOperation.TheVariants as op
use Rattle.il_check.specs.declared.typed.Slot.{Slot}
use Rattle.il_check.specs.declared.typed.Slot.TheVariants.{External, Variable}
use Rattle.il_check.specs.declared.typed.Transfer.TheVariants as go
use Rattle.il_check.specs.declared.typed.TypedArgument.{TypedArgument}
use Rattle.il_check.specs.declared.typed.TypedArguments.{TypedArguments}
use Rattle.il_check.specs.declared.typed.TypedArguments.TheVariants as arguments
use Rattle.il_check.specs.declared.typed.TypedOperand.{TypedOperand}
use Rattle.il_check.specs.declared.typed.TypedOperand.TheVariants as operand
use Rattle.il_compile.specs.OperatorClasses.{OperatorClass, connects, computes, compares, class_of, widening_of}

-- the values of the externals, the variables and the timers, each at the index of its declaration
pub record Memory : Type 0 where
  pub externals : List Value
  pub variables : List Value
  pub timers : List TimerState

-- the current result, if it is set, and the memory
pub record State : Type 0 where
  pub result : Option Value
  pub memory : Memory

-- ---- values

-- NOT of a BOOL
abbrev pub inverse : Value → Option Value
inverse (Truth b) = Some (Truth (not b))
inverse other = None

-- a value, negated if the flag is true
abbrev pub inverse_if : Bool → Value → Option Value
inverse_if false v = Some v
inverse_if true v = inverse v

-- a connective of two BOOLs
abbrev pub connected_values : Value → Value → (Bool → Bool → Bool) → Option Value
connected_values (Truth a) (Truth b) f = Some (Truth (f a b))
connected_values a b f = None

-- an operation on two numbers of one width; none may be divided by 0
abbrev pub computed_in : Width → ArithmeticOperation → ℤ → ℤ → Option Value
computed_in w o a b =
    if divides o && int_eq b (pos 0) then None else Some (value_of_width w (computation_of o w a b))

-- an operation on two numbers of one type
abbrev pub computed_values : ArithmeticOperation → Value → Value → Option Value
computed_values o (Short a) (Short b) = computed_in width.Int o a b
computed_values o (Long a) (Long b) = computed_in width.Dint o a b
computed_values o (Wide a) (Wide b) = computed_in width.Lint o a b
computed_values o a b = None

-- the result of an operator on the current result and an operand
abbrev pub combination_of : OperatorClass → Value → Value → Option Value
combination_of (connects c) a b = connected_values a b (logic_of c)
combination_of (computes o) a b = computed_values o a b
combination_of (compares c) a b =
    if is_comparable c a b
    then Some (Truth (comparison_holds c (number_of a) (number_of b)))
    else None

-- ---- reading and writing

-- the value of an output of a timer
abbrev pub output_of : TimerOutput → TimerState → Value
output_of Q t = Truth t.output
output_of Et t = Span t.elapsed

-- the value in a slot, if the slot exists
abbrev pub slot_value : Slot → Memory → Option Value
slot_value (External n) m = slice_get m.externals n
slot_value (Variable n) m = slice_get m.variables n

-- the value of an operand
abbrev pub operand_value : TypedOperand → Memory → Option Value
operand_value (operand.Literal v) m = Some v
operand_value (operand.Slot s) m = slot_value s m
operand_value (operand.TimerOutput n what) m = option_map (output_of what) (slice_get m.timers n)

-- the memory with a value in a slot
abbrev pub with_value : Slot → Value → Memory → Memory
with_value (External n) v m = record m { externals = slice_set m.externals n v }
with_value (Variable n) v m = record m { variables = slice_set m.variables n v }

-- the memory with a value in a slot, which must have the value's type
abbrev pub store_value : Slot → Value → Memory → Option Memory
store_value s v m = do
  old ← slot_value s m
  if same_type (type_of v) (type_of old) then Some (with_value s v m) else None

-- the truth value of a BOOL
abbrev pub decision_of : Value → Option Bool
decision_of (Truth b) = Some b
decision_of other = None

-- writes `new` to a slot if the value is TRUE
abbrev pub set_to : Bool → Slot → Value → Memory → Option Memory
set_to new s v m = do
  is_on ← decision_of v
  if is_on then store_value s (Truth new) m else Some m

-- the memory after a store of a value
abbrev pub memory_after_store : StoreKind → Slot → Value → Memory → Option Memory
memory_after_store store.Plain s v m = store_value s v m
memory_after_store store.Negated s v m = do
  w ← inverse v
  store_value s w m
memory_after_store store.Set s v m = set_to true s v m
memory_after_store store.Reset s v m = set_to false s v m

-- ---- operations and parentheses

-- the state after an operation
abbrev pub state_after : SimpleOperation → State → Option State
state_after (op.Load negated x) s = do
  v ← operand_value x s.memory
  w ← inverse_if negated v
  Some (record s { result = Some w })
state_after (op.Store how slot) s = do
  v ← s.result
  m ← memory_after_store how slot v s.memory
  Some (record s { memory = m })
state_after (op.Combine operator kind negated x) s = do
  a ← s.result
  v ← operand_value x s.memory
  b ← inverse_if negated v
  c ← combination_of (class_of operator) a b
  Some (record s { result = Some c })
state_after op.Not s = do
  v ← s.result
  w ← inverse v
  Some (record s { result = Some w })
state_after (op.Convert conversion) s = do
  v ← s.result
  w ← wider_value (widening_of conversion) v
  Some (record s { result = Some w })

-- the state after the end of a parenthesis: its operator takes the result of its entries
abbrev pub state_after_close : Operator → Bool → Option Value → State → Option State
state_after_close operator negated before inner = do
  a ← before
  v ← inner.result
  b ← inverse_if negated v
  c ← combination_of (class_of operator) a b
  Some (record inner { result = Some c })

-- the state with an unset result
abbrev pub without_result : State → State
without_result s = record s { result = None }

-- The state after an entry; the entries of a parenthesis begin with an unset result.
abbrev mutual
  pub mean_entry : Entry → State → Option State
  mean_entry (operation o) s = state_after o s
  mean_entry (block operator kind negated es) s = do
    inner ← mean_entries es (without_result s)
    state_after_close operator negated s.result inner

  pub mean_entries : Entries → State → Option State
  mean_entries no_entries s = Some s
  mean_entries (entry e es) s = do
    behind ← mean_entry e s
    mean_entries es behind

-- ---- jumps, returns and calls

-- whether a jump is taken; a condition needs a BOOL
abbrev pub jump_taken : Condition → Option Value → Option Bool
jump_taken Always result = Some true
jump_taken IfTrue result = result >>= decision_of
jump_taken IfFalse result = option_map not (result >>= decision_of)

-- a timer with an input set to a value, which must have the input's type
abbrev pub timer_with_input : Input → Value → TimerState → Option TimerState
timer_with_input In (Truth b) t = Some (record t { input = b })
timer_with_input Pt (Span n) t = Some (record t { preset = n })
timer_with_input input other t = None

-- the memory with a timer changed, if the timer exists
abbrev pub with_timer : ℕ → (TimerState → Option TimerState) → Memory → Option Memory
with_timer n f m = do
  old ← slice_get m.timers n
  new ← f old
  Some (record m { timers = slice_set m.timers n new })

-- the memory with an input of a timer set
abbrev pub with_argument : ℕ → TypedArgument → Memory → Option Memory
with_argument n a m = do
  v ← operand_value a.operand m
  with_timer n (timer_with_input a.input v) m

-- the memory with the inputs of a timer set, in the order of the text
abbrev pub with_arguments : ℕ → TypedArguments → Memory → Option Memory
with_arguments n arguments.None m = Some m
with_arguments n (arguments.One a) m = with_argument n a m
with_arguments n (arguments.Two a b) m = do
  first ← with_argument n a m
  with_argument n b first

-- Sets the inputs of the timer, and then runs it; the result is unset after that.
abbrev pub run_timer : ℕ → ℕ → TypedArguments → State → Option State
run_timer now n args s = do
  m ← with_arguments n args s.memory
  after ← with_timer n (λ t. Some (after_call t now)) m
  Some (record { result = None; memory = after })

-- ---- the items

-- The state after the items at a moment, in order; with a label, after the items that follow the
-- label. A jump continues after its label, and a return ends the run.
abbrev pub mean_from : ℕ → Option ℕ → List ProgramItem → State → Option State
mean_from now None [] s = Some s
mean_from now (Some l) [] s = None
mean_from now (Some l) (label n ∷ is) s =
    if n == l then mean_from now None is s else mean_from now (Some l) is s
mean_from now (Some l) (transfer t ∷ is) s = mean_from now (Some l) is s
mean_from now (Some l) (plain e ∷ is) s = mean_from now (Some l) is s
mean_from now None (label n ∷ is) s = mean_from now None is s
mean_from now None (transfer (go.Jump condition l) ∷ is) s = do
  leaves ← jump_taken condition s.result
  if leaves then mean_from now (Some l) is s else mean_from now None is s
mean_from now None (transfer (go.Return condition) ∷ is) s = do
  leaves ← jump_taken condition s.result
  if leaves then Some s else mean_from now None is s
mean_from now None (transfer (go.Call n args) ∷ is) s = do
  behind ← run_timer now n args s
  mean_from now None is behind
mean_from now None (plain e ∷ is) s = do
  behind ← mean_entry e s
  mean_from now None is behind

-- The memory that a program leaves; it begins with an unset result.
abbrev pub mean : ℕ → List ProgramItem → Memory → Option Memory
mean now items m =
    option_map (λ s. s.memory) (mean_from now None items (record { result = None; memory = m }))
