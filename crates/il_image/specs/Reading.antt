-- Reading one item from the start of octets: the item and the octets after it, or the first fault
-- from the left. An offset counts octets of the code from 0.
use Rattle.std.specs.Prelude.{ℕ, ℤ, ◌≡◌, ◌+◌, ◌-◌, ◌≤◌, ◌++◌, List, [], ◌∷◌, length, drop, Option, Some, None, Result, Ok, Err, nat_lt, if◌then◌else◌}
use Rattle.std.specs.Int.{w16, cast_signed, from_be_bytes}
use Rattle.bay_base.specs.Results.{◌>>=◌}
use Rattle.bay_base.specs.declared.types.ElementaryType.{ElementaryType}
use Rattle.il_image.specs.declared.arithmetic.Width.{Width}
use Rattle.il_image.specs.declared.fault.ImageFault.{ImageFault}
use Rattle.il_image.specs.declared.fault.ImageFault.TheVariants.{BadOpcode, Truncated}
use Rattle.il_image.specs.declared.instr.Instr.{Instr}
use Rattle.il_image.specs.declared.instr.Instr.TheVariants as instr
use Rattle.il_image.specs.declared.opcode.Opcode.{Opcode}
use Rattle.il_image.specs.declared.opcode.Opcode.TheVariants.{Halt, Push, Drop, Slot, Not, Combine, Compute, Compare, Widen, Jump, Timer}
use Rattle.il_image.specs.declared.opcode.Version.{Version}
use Rattle.il_image.specs.declared.opcode.Version.TheVariants.{Two}
use Rattle.il_image.specs.declared.value.Value.{Value}
use Rattle.il_image.specs.declared.write.Size.{Size}
use Rattle.il_image.specs.Octets.{bits_of_size, octet_count, size_of}
use Rattle.il_image.specs.Opcodes.{is_known, opcode_of, width_of}
use Rattle.il_image.specs.Spelling.{IsInstr, spelling}
use Rattle.il_image.specs.Values.{value_of}

-- ---- own: the format of images (docs/IMAGE.md)

-- an item and the octets after it, or the first fault
abbrev pub Read : Type 0 → Type 0
Read A = Result (A × List ℕ) ImageFault

-- the value that an octet or a number encodes; a fault if there is none
abbrev pub known_value : {A : Type 0} → Option A → Result A ImageFault
known_value (Some x) = Ok x
known_value None = Err BadOpcode

-- one octet
abbrev pub octet_at : List ℕ → Read ℕ
octet_at [] = Err Truncated
octet_at (octet ∷ rest) = Ok (octet, rest)

-- a number of 16 bits without a sign
abbrev pub number_at : List ℕ → Read ℕ
number_at octets =
    if nat_lt (length octets) 2 then Err Truncated else Ok (from_be_bytes w16 octets, drop 2 octets)

-- a number in two's complement
abbrev pub signed_at : Size → List ℕ → Read ℤ
signed_at size octets =
    if nat_lt (length octets) (octet_count size) then Err Truncated
    else Ok (
      cast_signed (bits_of_size size) (from_be_bytes (bits_of_size size) octets),
      drop (octet_count size) octets,
    )

-- a value; its number must be in the range of its type
abbrev pub value_at : Size → ElementaryType → List ℕ → Read Value
value_at size t octets = do
  z ← signed_at size octets
  v ← known_value (value_of t z.0)
  Ok (v, z.1)

-- a width of the version
abbrev pub width_at : Version → List ℕ → Read Width
width_at version octets = do
  octet ← octet_at octets
  width ← known_value (width_of version octet.0)
  Ok (width, octet.1)

-- an instruction whose operand is a number of 16 bits
abbrev pub with_number : (ℕ → Instr) → List ℕ → Read Instr
with_number make octets = do
  n ← number_at octets
  Ok (make n.0, n.1)

-- the instruction of an opcode; the octets begin with its operand
abbrev pub operand_from : Version → Opcode → List ℕ → Read Instr
operand_from version Halt octets = Ok (instr.Halt, octets)
operand_from version (Push t) octets = do
  v ← value_at (size_of t) t octets
  Ok (instr.Push v.0, v.1)
operand_from version Drop octets = Ok (instr.Drop, octets)
operand_from version (Slot use_of) octets = with_number (λ n. instr.Slot use_of n) octets
operand_from version Not octets = Ok (instr.Not, octets)
operand_from version (Combine c) octets = Ok (instr.Combine c, octets)
operand_from version (Compute o) octets = do
  w ← width_at version octets
  Ok (instr.Compute o w.0, w.1)
operand_from version (Compare c) octets = Ok (instr.Compare c, octets)
operand_from version (Widen w) octets = Ok (instr.Widen w, octets)
operand_from version (Jump when) octets = with_number (λ n. instr.Jump when n) octets
operand_from version (Timer use_of) octets = with_number (λ n. instr.Timer use_of n) octets

-- the opcode of an octet, which the version must have
abbrev pub known_opcode : Version → Option Opcode → Result Opcode ImageFault
known_opcode version None = Err BadOpcode
known_opcode version (Some opcode) = if is_known version opcode then Ok opcode else Err BadOpcode

-- an instruction of the version
unfoldable pub instr_from : Version → List ℕ → Read Instr
instr_from version octets = do
  octet ← octet_at octets
  opcode ← known_opcode version (opcode_of octet.0)
  operand_from version opcode octet.1

-- the instruction that was read, and the offset after it in code of this length
abbrev pub with_next_offset : ℕ → Read Instr → Option (Instr × ℕ)
with_next_offset size (Ok r) = Some (r.0, size - length r.1)
with_next_offset size (Err e) = None

-- the instruction at an offset in the code, and the offset after it
unfoldable pub instr_at : List ℕ → ℕ → Option (Instr × ℕ)
instr_at code offset = with_next_offset (length code) (instr_from Two (drop offset code))

-- The code has the instruction at this offset, and the offset after it is `next`.
pub record HasInstructionAt (code : List ℕ) (offset : ℕ) (i : Instr) (next : ℕ) : Type 0 where
  pub is_instr : IsInstr i
  pub spelled : drop offset code ≡ spelling i ++ drop next code
  pub size : next ≡ offset + length (spelling i)
  pub within : next ≤ length code
