-- Where the instructions of code begin. An offset counts octets of the code from 0. The offset of
-- an instruction is that of its first octet.
use Rattle.std.specs.Prelude.{ℕ, zero, suc, ◌≡◌, ◌<◌, ◌==◌, ◌&&◌, ◌||◌, Bool, false, List, length, nat_lt, Option, Some, None, option_map, if◌then◌else◌}
use Rattle.il_image.specs.declared.instr.Instr.{Instr}
use Rattle.il_image.specs.Reading.{instr_at}

-- ---- own: offsets of instructions

-- the offset after the instruction at an offset
abbrev pub offset_after : List ℕ → Option ℕ → Option ℕ
offset_after code None = None
offset_after code (Some offset) = option_map (λ r. r.1) (instr_at code offset)

-- the offset of the n-th instruction, counted from 0: each begins where the one before it ends
abbrev pub offset_of : List ℕ → ℕ → Option ℕ
offset_of code zero = Some 0
offset_of code (suc n) = offset_after code (offset_of code n)

-- An instruction begins at the offset.
abbrev pub InstrBegins : List ℕ → ℕ → Type 0
InstrBegins code offset = (offset < length code) × ((n : ℕ) × (offset_of code n ≡ Some offset))

-- ---- own: offsets of instructions, as a test

-- whether the offset is this one
abbrev pub is_there : Option ℕ → ℕ → Bool
is_there None offset = false
is_there (Some start) offset = start == offset

-- whether one of the first n instructions begins at the offset
abbrev pub is_among : List ℕ → ℕ → ℕ → Bool
is_among code zero offset = false
is_among code (suc n) offset = is_there (offset_of code n) offset || is_among code n offset

-- whether an instruction begins at the offset; code has at most as many instructions as octets
unfoldable pub is_instruction_offset : List ℕ → ℕ → Bool
is_instruction_offset code offset =
    nat_lt offset (length code) && is_among code (length code) offset

-- the instruction that begins at an offset, and the offset after it; none if no instruction begins
-- there
abbrev pub aligned_instr : List ℕ → ℕ → Option (Instr × ℕ)
aligned_instr code offset = if is_instruction_offset code offset then instr_at code offset else None
