-- The slots of the code: the points, and then the variables.
use Rattle.std.specs.Prelude.{true, List, ◌++◌, map}
use Rattle.bay_base.specs.declared.types.ElementaryType.{ElementaryType}
use Rattle.il_image.specs.declared.image.ImagePoint.{ImagePoint}
use Rattle.il_image.specs.declared.value.Value.{Value}
use Rattle.il_image.specs.Images.{Image}
use Rattle.il_image.specs.Values.{type_of}
use Rattle.il_verify.specs.declared.slots.SlotType.{SlotType}

-- the slot of a point; the code may write it if it may write the point
abbrev pub point_slot : ImagePoint → SlotType
point_slot p = record { elementary = p.elementary; writable = p.writable }

-- the slot of a variable; the code may write it
abbrev pub variable_slot : Value → SlotType
variable_slot v = record { elementary = type_of v; writable = true }

-- the slots of an image, in the order of their numbers
unfoldable pub slots_of : Image → List SlotType
slots_of i = map point_slot i.points ++ map variable_slot i.variables

-- the types of slots
abbrev pub types_of : List SlotType → List ElementaryType
types_of slots = map (λ s. s.elementary) slots
