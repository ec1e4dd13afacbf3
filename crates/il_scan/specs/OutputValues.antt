-- The value of a point that may be written.
use Rattle.std.specs.Prelude.{ℕ, ℤ, Bool, false, List, slice_get, Option, Some, None}
use Rattle.il_image.specs.declared.image.ImagePoint.{ImagePoint}
use Rattle.il_image.specs.declared.value.Value.{Value}
use Rattle.il_image.specs.declared.value.Value.TheVariants.{Truth}
use Rattle.il_scan.specs.Words.{slot_at, value_at}

-- the value that a word encodes at a point; FALSE if there is no point
abbrev pub point_value : Option ImagePoint → ℤ → Value
point_value None w = Truth false
point_value (Some p) w = value_at p.elementary w

-- the value of the point at an index
abbrev pub output_value : List ImagePoint → List ℤ → ℕ → Value
output_value points slots n = point_value (slice_get points n) (slot_at slots n)

-- whether there is a value, and it is TRUE
abbrev pub is_true : Option Value → Bool
is_true (Some (Truth b)) = b
is_true other = false
