-- The image of a program.
use Rattle.std.specs.Prelude.{ℕ, ◌+◌, List, [], ◌∷◌, length, map, nat_le, Result, Ok, Err, if◌then◌else◌}
use Rattle.il_image.specs.Images.{Image, all_spelled, image_octets}
use Rattle.il_image.specs.declared.image.ImagePoint.{ImagePoint}
use Rattle.il_image.specs.declared.opcode.Version.TheVariants.{Two}
use Rattle.il_check.specs.Program.{Checked}
use Rattle.il_check.specs.declared.typed.External.{External}
use Rattle.il_compile.specs.Code.{program_code}
use Rattle.il_compile.specs.declared.fault.CompileFault.{CompileFault}
use Rattle.il_compile.specs.declared.fault.CompileFault.TheVariants.{CodeTooLong}

-- the point of an external
abbrev pub point_of : External → ImagePoint
point_of e = record { name = e.name; elementary = e.kind; writable = e.writable }

-- the image of a program: the points are the externals; slots are the externals and then the
-- variables, in the order of their declarations
abbrev pub image_of : Checked → Image
image_of c = record {
  points = map point_of c.externals;
  variables = map (λ v. v.initial) c.variables;
  timers = map (λ t. t.kind) c.timers;
  code = all_spelled (program_code c);
}

-- the number of octets of points: type, access, length and name
abbrev pub points_octets : List External → ℕ
points_octets [] = 0
points_octets (e ∷ es) = 3 + length e.name + points_octets es

-- the number of octets of the encoded image
abbrev pub image_size : Checked → ℕ
image_size c = length (image_octets Two (image_of c))

-- the most octets of an image
abbrev pub most_octets : ℕ
most_octets = 65_535

-- the image, or `CodeTooLong` if it would have more octets than that
abbrev pub compiled_of : Checked → Result Image CompileFault
compiled_of c = if nat_le (image_size c) most_octets then Ok (image_of c) else Err CodeTooLong
