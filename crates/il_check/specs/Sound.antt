-- What holds of each checked program: it is the result of checking some program without a fault,
-- its names differ, and it is well typed.
use Rattle.std.specs.Prelude.{◌≡◌, ℕ, ◌<◌, false, List, [], ◌++◌, length, map, slice_index_or, Ok}
use Rattle.bay_base.specs.Names.{same_name}
use Rattle.bay_base.specs.declared.point.Point.{Point}
use Rattle.il_text.specs.Listing as text
use Rattle.il_check.specs.Checking.{checked_of}
use Rattle.il_check.specs.Program.{Checked}
use Rattle.il_check.specs.TypedProgram.{IsTyped}

-- ---- own: what holds of each checked program

-- the names of the slots: of the externals, then of the variables
abbrev pub slot_names : Checked → List (List ℕ)
slot_names c = map (λ e. e.name) c.externals ++ map (λ v. v.name) c.variables

-- the name of a slot
abbrev pub name_at : List (List ℕ) → ℕ → List ℕ
name_at names slot = slice_index_or names slot []

-- No two names are the same, letters in either case.
abbrev pub AreDistinct : List (List ℕ) → Type 0
AreDistinct names =
    (i j : ℕ) → i < j → j < length names → same_name (name_at names i) (name_at names j) ≡ false

-- Some program has no fault with some points, and this is its checked program.
abbrev pub WasChecked : Checked → Type 0
WasChecked c =
    (points : List Point) × (program : text.PlainProgram) × (checked_of points program ≡ Ok c)

-- A checked program is the result of the checks, its names differ, and it is well typed.
pub record IsSound (c : Checked) : Type 0 where
  pub checked : WasChecked c
  pub distinct : AreDistinct (slot_names c)
  pub typed : IsTyped c
