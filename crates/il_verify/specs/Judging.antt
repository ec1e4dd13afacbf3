-- The faults of one instruction by itself, on the kinds before it, in the order of the format.
use Rattle.std.specs.Prelude.{ℕ, Bool, false, not, List, length, nat_lt, slice_get, Option, Some, None, option_map, unwrap_or, if◌then◌else◌}
use Rattle.bay_base.specs.declared.types.ElementaryType.TheVariants as elementary
use Rattle.il_image.specs.declared.arithmetic.ArithmeticOperation.{ArithmeticOperation}
use Rattle.il_image.specs.declared.arithmetic.ArithmeticOperation.TheVariants.{Add}
use Rattle.il_image.specs.declared.arithmetic.Width.{Width}
use Rattle.il_image.specs.declared.instr.Instr.{Instr}
use Rattle.il_image.specs.declared.instr.Instr.TheVariants.{Halt, Push, Drop, Slot, Not, Combine, Compute, Compare, Widen, Jump, Timer}
use Rattle.il_image.specs.declared.kind.CellKind.{CellKind}
use Rattle.il_image.specs.declared.kind.CellKind.TheVariants.{Plain}
use Rattle.il_image.specs.declared.opcode.SlotUse.TheVariants.{Load, Store, SetIf, ResetIf}
use Rattle.il_image.specs.declared.opcode.When.TheVariants.{Always, IfTrue, IfFalse}
use Rattle.il_image.specs.declared.opcode.TimerUse.TheVariants.{SetInput, SetPreset, Run, LoadOutput, LoadElapsed}
use Rattle.il_image.specs.Arithmetic.{type_of_width}
use Rattle.il_image.specs.Effects.{kinds_after, second_kind, replace_two}
use Rattle.il_image.specs.Machine.{most_cells}
use Rattle.il_verify.specs.declared.fault.VerifyFault.{VerifyFault}
use Rattle.il_verify.specs.declared.fault.VerifyFault.TheVariants.{StackEmpty, StackFull, WrongKind, ZeroDivisor, NoSlot, NoTimer, BadBinding}
use Rattle.il_verify.specs.declared.slots.SlotType.{SlotType}
use Rattle.il_verify.specs.Slots.{types_of}

-- the fault of an instruction whose slot or timer does not exist, given the numbers of slots and
-- timers
abbrev pub missing_fault : ℕ → ℕ → Instr → Option VerifyFault
missing_fault slots timers (Slot slot_use n) = if nat_lt n slots then None else Some NoSlot
missing_fault slots timers (Timer timer_use n) = if nat_lt n timers then None else Some NoTimer
missing_fault slots timers other = None

-- the number of values that an instruction pops or reads
abbrev pub operands : Instr → ℕ
operands Halt = 0
operands (Push v) = 0
operands Drop = 1
operands (Slot Load n) = 0
operands (Slot Store n) = 1
operands (Slot SetIf n) = 1
operands (Slot ResetIf n) = 1
operands Not = 1
operands (Combine c) = 2
operands (Compute o w) = 2
operands (Compare c) = 2
operands (Widen w) = 1
operands (Jump Always distance) = 0
operands (Jump IfTrue distance) = 1
operands (Jump IfFalse distance) = 1
operands (Timer SetInput n) = 1
operands (Timer SetPreset n) = 1
operands (Timer Run n) = 0
operands (Timer LoadOutput n) = 0
operands (Timer LoadElapsed n) = 0

-- an instruction on the same operands that accepts any divisor
abbrev pub without_divisor : Instr → Instr
without_divisor (Compute o w) = Compute Add w
without_divisor other = other

-- the kinds after an instruction, if it is allowed on these
abbrev pub effect_on : List SlotType → ℕ → List CellKind → Instr → Option (List CellKind)
effect_on slots timers kinds i = kinds_after (types_of slots) timers i kinds

-- the fault of the operands: a wrong kind if the instruction that accepts any divisor is not
-- allowed either; otherwise a divisor that may be zero
abbrev pub operand_fault : Option (List CellKind) → Option (List CellKind) → Option VerifyFault
operand_fault None actual = Some WrongKind
operand_fault (Some with_any) None = Some ZeroDivisor
operand_fault (Some with_any) (Some actual) = None

-- the fault of the kinds that the instruction pops or reads
abbrev pub kind_fault : List SlotType → ℕ → Instr → List CellKind → Option VerifyFault
kind_fault slots timers i kinds =
    operand_fault (effect_on slots timers kinds (without_divisor i))
    (effect_on slots timers kinds i)

-- the kind of a BOOL
abbrev pub truth : CellKind
truth = Plain elementary.Bool

-- the kinds after an operation on two numbers of a width
abbrev pub computes : ArithmeticOperation → Width → List CellKind → Option (List CellKind)
computes o w kinds =
    replace_two (second_kind o w) (Plain (type_of_width w)) (Plain (type_of_width w)) kinds

-- whether the slot exists and may only be read
abbrev pub is_read_only : List SlotType → ℕ → Bool
is_read_only slots n = unwrap_or (option_map (λ s. not s.writable) (slice_get slots n)) false

-- whether the instruction writes a slot that may only be read
abbrev pub writes_read_only : List SlotType → Instr → Bool
writes_read_only slots (Slot Load n) = false
writes_read_only slots (Slot Store n) = is_read_only slots n
writes_read_only slots (Slot SetIf n) = is_read_only slots n
writes_read_only slots (Slot ResetIf n) = is_read_only slots n
writes_read_only slots other = false

-- whether more values are on the stack after the instruction than it may have
abbrev pub is_full : Option (List CellKind) → Bool
is_full None = false
is_full (Some kinds) = nat_lt most_cells (length kinds)

-- the first of two faults
infixr 5 ◌or_else◌
abbrev pub ◌or_else◌ : Option VerifyFault → Option VerifyFault → Option VerifyFault
None or_else other = other
(Some fault) or_else other = Some fault

-- the fault, if the test holds
abbrev pub fault_if : Bool → VerifyFault → Option VerifyFault
fault_if b fault = if b then Some fault else None

-- the first fault of an instruction on these kinds
unfoldable pub fault_of : List SlotType → ℕ → Instr → List CellKind → Option VerifyFault
fault_of slots timers i kinds =
    missing_fault (length slots) timers i
    or_else fault_if (nat_lt (length kinds) (operands i)) StackEmpty
    or_else kind_fault slots timers i kinds
    or_else fault_if (writes_read_only slots i) BadBinding
    or_else fault_if (is_full (effect_on slots timers kinds i)) StackFull
