-- Inner: the number of octets of an instruction, by its opcode.
use Rattle.std.specs.Prelude.{ℕ, suc}
use Rattle.il_image.specs.declared.opcode.Opcode.{Opcode}
use Rattle.il_image.specs.declared.opcode.Opcode.TheVariants.{Halt, Push, Drop, Slot, Not, Combine, Compute, Compare, Widen, Jump, Timer}
use Rattle.il_image.specs.Octets.{octet_count, size_of}

-- the number of octets, with the operand
abbrev pub size_of_opcode : Opcode → ℕ
size_of_opcode Halt = 1
size_of_opcode (Push t) = suc (octet_count (size_of t))
size_of_opcode Drop = 1
size_of_opcode (Slot slot_use) = 3
size_of_opcode Not = 1
size_of_opcode (Combine c) = 1
size_of_opcode (Compute o) = 2
size_of_opcode (Compare c) = 1
size_of_opcode (Widen w) = 1
size_of_opcode (Jump when) = 3
size_of_opcode (Timer timer_use) = 3
