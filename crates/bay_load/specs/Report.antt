-- The size of a verified program, and the maximum cost of a scan.
use Rattle.std.specs.Prelude.{ℕ, ◌≡◌, List, length, Some}
use Rattle.il_image.specs.Images.{Image}
use Rattle.il_image.specs.Tables.{offset_of}
use Rattle.il_verify.specs.Verdicts.{IsBudget, IsDepth}
use Rattle.bay_load.specs.declared.report.Report.{Report}

-- The code has this number of instructions: it ends after the last of them.
abbrev pub IsCount : List ℕ → ℕ → Type 0
IsCount code count = offset_of code count ≡ Some (length code)

-- The number of instructions of the code, its maximum stack depth, and its budget.
pub record IsReport (image : Image) (report : Report) : Type 0 where
  pub instructions : IsCount image.code report.instructions
  pub depth : IsDepth image report.depth
  pub budget : IsBudget image.code report.budget
