-- The spelling of instructions: the octet of the opcode, and then the operand.
use Rattle.std.specs.Prelude.{ℕ, ◌<◌, ◌^◌, IsSome, List, [], ◌∷◌}
use Rattle.il_image.specs.declared.instr.Instr.{Instr}
use Rattle.il_image.specs.declared.instr.Instr.TheVariants.{Halt, Push, Drop, Slot, Not, Combine, Compute, Compare, Widen, Jump, Timer}
use Rattle.il_image.specs.declared.opcode.Opcode.{Opcode}
use Rattle.il_image.specs.declared.opcode.Opcode.TheVariants as opcode
use Rattle.il_image.specs.Octets.{number_octets, signed_octets, size_of}
use Rattle.il_image.specs.Opcodes.{octet_of, width_octet}
use Rattle.il_image.specs.Values.{number_of, type_of, value_of}

-- ---- own: the format of images (docs/IMAGE.md)

-- the opcode of an instruction
abbrev pub opcode_of_instr : Instr → Opcode
opcode_of_instr Halt = opcode.Halt
opcode_of_instr (Push v) = opcode.Push (type_of v)
opcode_of_instr Drop = opcode.Drop
opcode_of_instr (Slot use_of n) = opcode.Slot use_of
opcode_of_instr Not = opcode.Not
opcode_of_instr (Combine c) = opcode.Combine c
opcode_of_instr (Compute o w) = opcode.Compute o
opcode_of_instr (Compare c) = opcode.Compare c
opcode_of_instr (Widen w) = opcode.Widen w
opcode_of_instr (Jump when distance) = opcode.Jump when
opcode_of_instr (Timer use_of n) = opcode.Timer use_of

-- the octets after the first
abbrev pub operand_of : Instr → List ℕ
operand_of (Push v) = signed_octets (size_of (type_of v)) (number_of v)
operand_of (Slot use_of n) = number_octets n
operand_of (Compute o w) = width_octet w ∷ []
operand_of (Jump when distance) = number_octets distance
operand_of (Timer use_of n) = number_octets n
operand_of Halt = []
operand_of Drop = []
operand_of Not = []
operand_of (Combine c) = []
operand_of (Compare c) = []
operand_of (Widen w) = []

-- the octets of an instruction
abbrev pub spelling : Instr → List ℕ
spelling i = octet_of (opcode_of_instr i) ∷ operand_of i

-- The octets can represent the instruction: a value in the range of its type, a number of 16 bits.
abbrev pub IsInstr : Instr → Type 0
IsInstr (Push v) = IsSome (value_of (type_of v) (number_of v))
IsInstr (Slot use_of n) = n < 2 ^ 16
IsInstr (Jump when distance) = distance < 2 ^ 16
IsInstr (Timer use_of n) = n < 2 ^ 16
IsInstr Halt = Unit {0}
IsInstr Drop = Unit {0}
IsInstr Not = Unit {0}
IsInstr (Combine c) = Unit {0}
IsInstr (Compute o w) = Unit {0}
IsInstr (Compare c) = Unit {0}
IsInstr (Widen w) = Unit {0}
