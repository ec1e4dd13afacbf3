-- Compiled code verifies, with the points that the program was checked with.
use Rattle.std.specs.Prelude.{◌≡◌, List, Ok}
use Rattle.bay_base.specs.declared.point.Point.{Point}
use Rattle.il_image.specs.Images.{Image}
use Rattle.il_check.specs.Program.{Checked}
use Rattle.il_verify.specs.Verdicts.{IsVerified}
use Rattle.il_compile.specs.Compiled.{compiled_of}

-- The image of the program, if the program compiles, fits these points, and its code can't go
-- wrong.
abbrev pub Verifies : List Point → Checked → Type 0
Verifies points c = (image : Image) → compiled_of c ≡ Ok image → IsVerified points image
