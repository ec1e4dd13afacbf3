-- Tables of the kinds on the stack before each instruction, and paths through the code. An offset
-- counts octets of the code from 0.
use Rattle.std.specs.Prelude.{ℕ, zero, suc, ◌≡◌, ◌≢◌, ◌+◌, ◌≤◌, List, [], ◌++◌, length, map, Option, Some, IsSome, ◌⊎◌, ◌↔◌}
use Rattle.bay_base.specs.declared.types.ElementaryType.{ElementaryType}
use Rattle.il_image.specs.declared.instr.Instr.{Instr}
use Rattle.il_image.specs.declared.instr.Instr.TheVariants.{Halt, Push, Drop, Slot, Not, Combine, Compute, Compare, Widen, Jump, Timer}
use Rattle.il_image.specs.declared.kind.CellKind.{CellKind}
use Rattle.il_image.specs.declared.opcode.When.TheVariants.{Always, IfTrue, IfFalse}
use Rattle.il_image.specs.Effects.{kinds_after}
use Rattle.il_image.specs.Images.{Image}
use Rattle.il_image.specs.Kinds.{AreWithin}
pub use Rattle.il_image.specs.Offsets.{offset_after, offset_of, InstrBegins}
use Rattle.il_image.specs.Reading.{instr_at}
use Rattle.il_image.specs.Values.{type_of}
use Rattle.il_image.specs.Machine.{most_cells}

-- ---- own: what the verifier knows of code

-- the types of the slots: the points, and then the variables
abbrev pub slot_types : Image → List ElementaryType
slot_types i = map (λ p. p.elementary) i.points ++ map type_of i.variables

-- ---- own: successors of an instruction

-- The instruction can continue at the offset `to`, if the offset after it is `next`.
abbrev pub LeadsTo : Instr → ℕ → ℕ → Type 0
LeadsTo Halt next to = ⊥
LeadsTo (Jump Always distance) next to = to ≡ next + distance
LeadsTo (Jump IfTrue distance) next to = (to ≡ next) ⊎ (to ≡ next + distance)
LeadsTo (Jump IfFalse distance) next to = (to ≡ next) ⊎ (to ≡ next + distance)
LeadsTo (Push v) next to = to ≡ next
LeadsTo Drop next to = to ≡ next
LeadsTo (Slot slot_use n) next to = to ≡ next
LeadsTo Not next to = to ≡ next
LeadsTo (Combine c) next to = to ≡ next
LeadsTo (Compute o w) next to = to ≡ next
LeadsTo (Compare c) next to = to ≡ next
LeadsTo (Widen w) next to = to ≡ next
LeadsTo (Timer timer_use n) next to = to ≡ next

-- The instruction at the first offset can continue at the other.
pub record IsSuccessor (code : List ℕ) (offset to : ℕ) : Type 0 where
  pub instr : Instr
  pub next : ℕ
  pub here : instr_at code offset ≡ Some (instr, next)
  pub leads : LeadsTo instr next to

-- ---- own: tables of kinds

-- the kinds on the operand stack before the instruction at each offset
abbrev pub Table : Type 0
Table = ℕ → Option (List CellKind)

-- The table has kinds at the offset, and the kinds of the list are within them, one by one.
abbrev pub FitsTable : Table → ℕ → List CellKind → Type 0
FitsTable table offset kinds =
    (most : List CellKind) × (table offset ≡ Some most) × AreWithin kinds most

-- The instruction at the offset is allowed on these kinds, and the kinds after it enter each of its
-- successors.
pub record IsAllowed (image : Image) (table : Table) (offset : ℕ) (kinds : List CellKind)
    : Type 0 where
  pub instr : Instr
  pub next : ℕ
  pub after : List CellKind
  pub here : instr_at image.code offset ≡ Some (instr, next)
  pub effect : kinds_after (slot_types image) (length image.timers) instr kinds ≡ Some after
  pub enters : (to : ℕ) → LeadsTo instr next to → FitsTable table to after

-- The table agrees with the code: it has kinds exactly at the offsets of instructions, no kinds on
-- the stack before the first, and never more than the stack has cells; each instruction is allowed
-- on its kinds; and each instruction but the first is a successor of one.
pub record Agrees (image : Image) (table : Table) : Type 0 where
  pub starts : table 0 ≡ Some []
  pub places : (offset : ℕ) → IsSome (table offset) ↔ InstrBegins image.code offset
  pub allowed : (offset : ℕ) (kinds : List CellKind) → table offset ≡ Some kinds
      → IsAllowed image table offset kinds
  pub room : (offset : ℕ) (kinds : List CellKind) → table offset ≡ Some kinds
      → length kinds ≤ most_cells
  pub reached : (offset : ℕ) → InstrBegins image.code offset → offset ≢ 0
      → (from : ℕ) × InstrBegins image.code from × IsSuccessor image.code from offset

-- Some table agrees with the image's code.
abbrev pub HasTable : Image → Type 0
HasTable image = (table : Table) × Agrees image table

-- ---- own: paths through code

-- a path of n offsets, from offset 0 to this one, each a successor of the one before
abbrev pub Path : List ℕ → ℕ → ℕ → Type 0
Path code zero offset = ⊥
Path code (suc zero) offset = offset ≡ 0
Path code (suc (suc n)) offset = (from : ℕ) × Path code (suc n) from × IsSuccessor code from offset

-- The instruction at the offset is HALT.
abbrev pub IsHalt : List ℕ → ℕ → Type 0
IsHalt code offset = (next : ℕ) × (instr_at code offset ≡ Some (Halt, next))

-- a path of n offsets that ends at a HALT
abbrev pub HaltPath : List ℕ → ℕ → Type 0
HaltPath code n = (offset : ℕ) × Path code n offset × IsHalt code offset
