-- Images: their content, and their spelling in each version of the format.
use Rattle.std.specs.Prelude.{ℕ, ◌≡◌, ◌<◌, ◌≤◌, ◌&&◌, ◌||◌, ◌==◌, Bool, IsSome, IsTrue, List, [], ◌∷◌, ◌++◌, length, nat_le, if◌then◌else◌}
use Rattle.std.specs.List.{list_all}
use Rattle.bay_base.specs.declared.types.ElementaryType.{ElementaryType}
use Rattle.bay_base.specs.declared.types.ElementaryType.TheVariants as elementary
use Rattle.il_image.specs.declared.image.ImagePoint.{ImagePoint}
use Rattle.il_image.specs.declared.instr.Instr.{Instr}
use Rattle.il_image.specs.declared.opcode.Version.{Version}
use Rattle.il_image.specs.declared.opcode.Version.TheVariants.{One, Two}
use Rattle.bay_base.specs.declared.types.TimerKind.{TimerKind}
use Rattle.bay_base.specs.declared.types.TimerKind.TheVariants.{OnDelay, OffDelay}
use Rattle.il_image.specs.declared.value.Value.{Value}
use Rattle.il_image.specs.declared.write.Size.{Size}
use Rattle.il_image.specs.declared.write.Size.TheVariants as size
use Rattle.il_image.specs.Octets.{number_octets, signed_octets, most_counted}
use Rattle.il_image.specs.Spelling.{IsInstr, spelling}
use Rattle.il_image.specs.Values.{number_of, type_of, value_of}

-- ---- own: the format of images (docs/IMAGE.md)

-- the points that the code uses, its variables with their initial values, its timers, and its
-- octets; slots are the points and then the variables
pub record Image : Type 0 where
  pub points : List ImagePoint
  pub variables : List Value
  pub timers : List TimerKind
  pub code : List ℕ

-- ---- own: what the format can represent

-- Each item of the list has the property.
abbrev pub Each : {A : Type 0} → (A → Type 0) → List A → Type 0
Each P [] = Unit {0}
Each P (x ∷ xs) = P x × Each P xs

-- an upper-case letter, a digit or an underscore
abbrev pub is_name_octet : ℕ → Bool
is_name_octet octet =
    (nat_le 0x41 octet && nat_le octet 0x5A) || (nat_le 0x30 octet && nat_le octet 0x39)
    || (octet == 0x5F)

-- The name has 1 to 64 such octets.
pub record IsName (name : List ℕ) : Type 0 where
  pub some : 0 < length name
  pub few : length name ≤ 64
  pub octets : IsTrue (list_all is_name_octet name)

-- The point has a name of the format.
abbrev pub HasName : ImagePoint → Type 0
HasName p = IsName p.name

-- The value's number is in the range of its type.
abbrev pub IsValue : Value → Type 0
IsValue v = IsSome (value_of (type_of v) (number_of v))

-- the spellings of instructions, one after the other
abbrev pub all_spelled : List Instr → List ℕ
all_spelled [] = []
all_spelled (i ∷ is) = spelling i ++ all_spelled is

-- The octets are spellings of instructions, one after the other.
pub record IsCode (code : List ℕ) : Type 0 where
  pub instrs : List Instr
  pub are : Each IsInstr instrs
  pub spelled : code ≡ all_spelled instrs

-- The format can represent the image: counts of 16 bits, names, values in the range of their types,
-- and code of instructions.
pub record IsImage (i : Image) : Type 0 where
  pub points : length i.points ≤ most_counted
  pub variables : length i.variables ≤ most_counted
  pub timers : length i.timers ≤ most_counted
  pub size : length i.code ≤ most_counted
  pub names : Each HasName i.points
  pub values : Each IsValue i.variables
  pub code : IsCode i.code

-- ---- own: the spelling of an image

-- the octet of a type
abbrev pub type_octet : ElementaryType → ℕ
type_octet elementary.Bool = 0x01
type_octet elementary.Int = 0x02
type_octet elementary.Dint = 0x03
type_octet elementary.Time = 0x04
type_octet elementary.Lint = 0x05

-- a point: its type, whether code may write it, the length of its name, and its name
abbrev pub point_octets : ImagePoint → List ℕ
point_octets p =
    type_octet p.elementary ∷ (if p.writable then 0x01 else 0x00) ∷ length p.name ∷ p.name

-- the size of initial values in a version
abbrev pub value_size : Version → Size
value_size One = size.Four
value_size Two = size.Eight

-- a variable: its type and its initial value
abbrev pub variable_octets : Version → Value → List ℕ
variable_octets version v =
    type_octet (type_of v) ∷ signed_octets (value_size version) (number_of v)

-- a timer's kind; version 1 has no octet for it, since all its timers are TON
abbrev pub timer_octets : Version → TimerKind → List ℕ
timer_octets One kind = []
timer_octets Two OnDelay = 0x01 ∷ []
timer_octets Two OffDelay = 0x02 ∷ []

-- the octets of each item, one after the other
abbrev pub each_spelled : {A : Type 0} → (A → List ℕ) → List A → List ℕ
each_spelled spell [] = []
each_spelled spell (x ∷ xs) = spell x ++ each_spelled spell xs

-- the number of items, and then the items
abbrev pub count_and_items : {A : Type 0} → (A → List ℕ) → List A → List ℕ
count_and_items spell xs = number_octets (length xs) ++ each_spelled spell xs

-- ILBC in ASCII
abbrev pub mark : List ℕ
mark = 0x49 ∷ 0x4C ∷ 0x42 ∷ 0x43 ∷ []

-- the octet of a version
abbrev pub version_octet : Version → ℕ
version_octet One = 0x01
version_octet Two = 0x02

-- the octets of an image in a version of the format
unfoldable pub image_octets : Version → Image → List ℕ
image_octets version i =
    mark ++ (version_octet version
    ∷ (count_and_items point_octets i.points
    ++ (count_and_items (variable_octets version) i.variables ++
    (count_and_items (timer_octets version) i.timers
    ++ (number_octets (length i.code) ++ i.code)))))
