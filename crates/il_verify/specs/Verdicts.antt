-- What holds of an accepted image.
use Rattle.std.specs.Prelude.{ℕ, ◌≡◌, ◌≤◌, true, false, List, length, Some}
use Rattle.bay_base.specs.declared.point.Point.{Point}
use Rattle.il_image.specs.declared.instr.Instr.{Instr}
use Rattle.il_image.specs.declared.kind.CellKind.{CellKind}
use Rattle.il_image.specs.Images.{Image}
use Rattle.il_image.specs.Reading.{instr_at}
use Rattle.il_image.specs.Tables.{Agrees, HaltPath, HasTable, InstrBegins, Table}
use Rattle.il_verify.specs.Binding.{fits}
use Rattle.il_verify.specs.Judging.{writes_read_only}
use Rattle.il_verify.specs.Slots.{slots_of}

-- No instruction of the code writes a point that may only be read.
abbrev pub WritesNoReadOnly : Image → Type 0
WritesNoReadOnly image = (place : ℕ) (instr : Instr) (next : ℕ) → InstrBegins image.code place
    → instr_at image.code place ≡ Some (instr, next)
    → writes_read_only (slots_of image) instr ≡ false

-- A table agrees with the code, and the code writes no point that may only be read.
pub record IsSafe (image : Image) : Type 0 where
  pub table : HasTable image
  pub writes : WritesNoReadOnly image

-- The number of instructions on a longest path that ends at a HALT.
pub record IsBudget (code : List ℕ) (budget : ℕ) : Type 0 where
  pub some : HaltPath code budget
  pub most : (n : ℕ) → HaltPath code n → n ≤ budget

-- The length of a longest list of the table.
pub record IsLongest (table : Table) (depth : ℕ) : Type 0 where
  pub some : (place : ℕ) × (kinds : List CellKind) × (table place ≡ Some kinds)
      × (length kinds ≡ depth)
  pub most : (place : ℕ) (kinds : List CellKind) → table place ≡ Some kinds → length kinds ≤ depth

-- Some table agrees with the code, and each table that does has a longest list of this length.
pub record IsDepth (image : Image) (depth : ℕ) : Type 0 where
  pub some : HasTable image
  pub each : (table : Table) → Agrees image table → IsLongest table depth

-- The image is safe, and these are its budget and its depth.
pub record IsMeasured (image : Image) (budget depth : ℕ) : Type 0 where
  pub safe : IsSafe image
  pub longest : IsBudget image.code budget
  pub deepest : IsDepth image depth

-- The image fits the bay, and its code can't go wrong.
pub record IsVerified (bay : List Point) (image : Image) : Type 0 where
  pub fits : fits bay image ≡ true
  pub safe : IsSafe image
