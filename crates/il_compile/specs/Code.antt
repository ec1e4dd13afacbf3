-- The code of a program: its instructions, one after the other.
use Rattle.std.specs.Prelude.{ℕ, ◌+◌, ◌==◌, Bool, true, false, List, [], ◌∷◌, ◌++◌, length, if◌then◌else◌}
use Rattle.bay_base.specs.declared.types.ElementaryType.{ElementaryType}
use Rattle.bay_base.specs.declared.types.ElementaryType.TheVariants as elementary
use Rattle.il_text.specs.declared.program.Input.{Input}
use Rattle.il_text.specs.declared.program.Input.TheVariants.{In, Pt}
use Rattle.il_text.specs.declared.program.Operator.{Operator}
use Rattle.il_text.specs.declared.program.TimerOutput.{TimerOutput}
use Rattle.il_text.specs.declared.program.TimerOutput.TheVariants.{Q, Et}
use Rattle.il_text.specs.declared.program.StoreKind.{StoreKind}
use Rattle.il_text.specs.declared.program.StoreKind.TheVariants as store
use Rattle.il_image.specs.Images.{all_spelled}
use Rattle.il_image.specs.declared.arithmetic.Width.{Width}
use Rattle.il_image.specs.declared.arithmetic.Width.TheVariants as width
use Rattle.il_image.specs.declared.instr.Instr.{Instr}
use Rattle.il_image.specs.declared.instr.Instr.TheVariants.{Halt, Push, Drop, Slot, Not, Combine, Compute, Compare, Widen, Jump, Timer}
use Rattle.il_image.specs.declared.opcode.SlotUse.TheVariants.{Load, Store, SetIf, ResetIf}
use Rattle.il_image.specs.declared.opcode.TimerUse.{TimerUse}
use Rattle.il_image.specs.declared.opcode.TimerUse.TheVariants.{SetInput, SetPreset, Run, LoadOutput, LoadElapsed}
use Rattle.il_image.specs.declared.value.Value.TheVariants.{Truth}
use Rattle.il_check.specs.Program.{Entry, operation, block, Entries, no_entries, entry, ProgramItem, label, transfer, plain, Checked}
use Rattle.il_check.specs.declared.typed.SimpleOperation.{SimpleOperation}
use Rattle.il_check.specs.declared.typed.SimpleOperation.TheVariants as op
use Rattle.il_check.specs.declared.typed.Slot as typed
use Rattle.il_check.specs.declared.typed.Slot.TheVariants.{External, Variable}
use Rattle.il_check.specs.declared.typed.Transfer.{Transfer}
use Rattle.il_check.specs.declared.typed.Transfer.TheVariants as go
use Rattle.il_check.specs.declared.typed.TypedArgument.{TypedArgument}
use Rattle.il_check.specs.declared.typed.TypedArguments.{TypedArguments}
use Rattle.il_check.specs.declared.typed.TypedArguments.TheVariants as arguments
use Rattle.il_check.specs.declared.typed.TypedOperand.{TypedOperand}
use Rattle.il_check.specs.declared.typed.TypedOperand.TheVariants as operand
use Rattle.il_compile.specs.OperatorClasses.{OperatorClass, connects, computes, compares, class_of, widening_of, when_of}

-- ---- operands and operators

-- the number of a slot: the externals come first, and then the variables
abbrev pub slot_number : ℕ → typed.Slot → ℕ
slot_number externals (External n) = n
slot_number externals (Variable n) = externals + n

-- the use of a timer that pushes an output
abbrev pub output_use : TimerOutput → TimerUse
output_use Q = LoadOutput
output_use Et = LoadElapsed

-- the instruction that pushes an operand
abbrev pub push_operand : ℕ → TypedOperand → Instr
push_operand externals (operand.Literal v) = Push v
push_operand externals (operand.Slot s) = Slot Load (slot_number externals s)
push_operand externals (operand.TimerOutput n what) = Timer (output_use what) n

-- a NOT, if the operand is negated
abbrev pub negation_code : Bool → List Instr
negation_code false = []
negation_code true = Not ∷ []

-- the width of the numbers of a type
abbrev pub width_of : ElementaryType → Width
width_of elementary.Dint = width.Dint
width_of elementary.Lint = width.Lint
width_of other = width.Int

-- the instruction of an operator on two values of a type
abbrev pub class_instr : OperatorClass → ElementaryType → Instr
class_instr (connects c) kind = Combine c
class_instr (computes o) kind = Compute o (width_of kind)
class_instr (compares c) kind = Compare c

-- the instructions after an operand or a parenthesis
abbrev pub operator_code : Operator → ElementaryType → Bool → List Instr
operator_code operator kind negated =
    negation_code negated ++ class_instr (class_of operator) kind ∷ []

-- ---- operations and parentheses

-- a store of the result, which stays on the stack
abbrev pub store_code : StoreKind → ℕ → List Instr
store_code store.Plain n = Slot Store n ∷ []
store_code store.Negated n = Not ∷ Slot Store n ∷ Not ∷ []
store_code store.Set n = Slot SetIf n ∷ []
store_code store.Reset n = Slot ResetIf n ∷ []

-- an operation, which acts on the top of the stack
abbrev pub operation_code : ℕ → SimpleOperation → List Instr
operation_code externals (op.Load negated x) =
    Drop ∷ push_operand externals x ∷ negation_code negated
operation_code externals (op.Store how s) = store_code how (slot_number externals s)
operation_code externals (op.Combine operator kind negated x) =
    push_operand externals x ∷ operator_code operator kind negated
operation_code externals op.Not = Not ∷ []
operation_code externals (op.Convert conversion) = Widen (widening_of conversion) ∷ []

-- pushes a cell for an unset result
abbrev pub push_unset : Instr
push_unset = Push (Truth false)

abbrev mutual
  pub entry_code : ℕ → Entry → List Instr
  entry_code externals (operation o) = operation_code externals o
  entry_code externals (block operator kind negated es) =
      push_unset ∷ entries_code externals es ++ operator_code operator kind negated

  pub entries_code : ℕ → Entries → List Instr
  entries_code externals no_entries = []
  entries_code externals (entry e es) = entry_code externals e ++ entries_code externals es

-- ---- jumps, returns and calls

-- the use of a timer that pops an input
abbrev pub input_use : Input → TimerUse
input_use In = SetInput
input_use Pt = SetPreset

-- an argument of a call: its operand, and the timer's input that pops it
abbrev pub argument_code : ℕ → ℕ → TypedArgument → List Instr
argument_code externals n a = push_operand externals a.operand ∷ Timer (input_use a.input) n ∷ []

-- the arguments, in the order of the text
abbrev pub arguments_code : ℕ → ℕ → TypedArguments → List Instr
arguments_code externals n arguments.None = []
arguments_code externals n (arguments.One a) = argument_code externals n a
arguments_code externals n (arguments.Two a b) =
    argument_code externals n a ++ argument_code externals n b

-- a jump, a return or a call; a jump or a return skips `distance` octets
abbrev pub transfer_code : ℕ → Transfer → ℕ → List Instr
transfer_code externals (go.Jump condition l) distance = Jump (when_of condition) distance ∷ []
transfer_code externals (go.Return condition) distance = Jump (when_of condition) distance ∷ []
transfer_code externals (go.Call n args) distance =
    arguments_code externals n args ++ Timer Run n ∷ []

-- ---- the items

-- the number of octets of instructions
abbrev pub octets : List Instr → ℕ
octets code = length (all_spelled code)

-- the number of octets of the items up to a label, or of all items if there is no such label; a
-- jump has the same number at each distance
abbrev pub octets_before : ℕ → ℕ → List ProgramItem → ℕ
octets_before externals l [] = 0
octets_before externals l (label n ∷ is) = if n == l then 0 else octets_before externals l is
octets_before externals l (transfer t ∷ is) =
    octets (transfer_code externals t 0) + octets_before externals l is
octets_before externals l (plain e ∷ is) =
    octets (entry_code externals e) + octets_before externals l is

-- the number of octets that a jump skips: those before its label, and for a return all octets after
-- it
abbrev pub distance : ℕ → Transfer → List ProgramItem → ℕ → ℕ
distance externals (go.Jump condition l) is behind = octets_before externals l is
distance externals (go.Return condition) is behind = behind
distance externals (go.Call n args) is behind = 0

-- the code of the items, one after the other
abbrev pub items_code : ℕ → List ProgramItem → List Instr
items_code externals [] = []
items_code externals (label n ∷ is) = items_code externals is
items_code externals (transfer t ∷ is) =
    transfer_code externals t (distance externals t is (octets (items_code externals is)))
    ++ items_code externals is
items_code externals (plain e ∷ is) = entry_code externals e ++ items_code externals is

-- the code of a program: it begins with a cell for the result, and ends with HALT
abbrev pub program_code : Checked → List Instr
program_code c = push_unset ∷ items_code (length c.externals) c.items ++ Halt ∷ []
