-- Version 1 of the format of images, in its own words (docs/IMAGE.md): it has no LINT, and its
-- timers are TON.
use Rattle.std.specs.Prelude.{◌≡◌, ◌≢◌, ℕ, ℤ, ◌≤◌, List, [], ◌∷◌, ◌++◌, length, if◌then◌else◌, Ok}
use Rattle.std.specs.Int.{w16, w32, cast_unsigned, to_be_bytes}
use Rattle.std.specs.List.{flat_map}
use Rattle.bay_base.specs.declared.types.ElementaryType.{ElementaryType}
use Rattle.bay_base.specs.declared.types.ElementaryType.TheVariants.{Bool, Int, Dint, Lint, Time}
use Rattle.bay_base.specs.declared.types.TimerKind.TheVariants.{OnDelay}
use Rattle.il_image.specs.Decoding.{decoded_image}
use Rattle.il_image.specs.Images.{Each, HasName, Image, IsValue, all_spelled}
use Rattle.il_image.specs.Octets.{AreOctets}
use Rattle.il_image.specs.Spelling.{IsInstr}
use Rattle.il_image.specs.Values.{number_of, type_of}
use Rattle.il_image.specs.declared.arithmetic.ArithmeticOperation.{ArithmeticOperation}
use Rattle.il_image.specs.declared.arithmetic.ArithmeticOperation.TheVariants.{Add, Sub, Mul, Div, Mod}
use Rattle.il_image.specs.declared.arithmetic.Comparison.TheVariants.{Gt, Ge, Eq, Ne, Le, Lt}
use Rattle.il_image.specs.declared.arithmetic.Width.{Width}
use Rattle.il_image.specs.declared.arithmetic.Width.TheVariants as width
use Rattle.il_image.specs.declared.image.ImagePoint.{ImagePoint}
use Rattle.il_image.specs.declared.instr.Instr.{Instr}
use Rattle.il_image.specs.declared.instr.Instr.TheVariants.{Halt, Push, Drop, Slot, Not, Combine, Compute, Compare, Widen, Jump, Timer}
use Rattle.il_image.specs.declared.opcode.Connective.TheVariants.{And, Or, Xor}
use Rattle.il_image.specs.declared.opcode.SlotUse.TheVariants.{Load, Store, SetIf, ResetIf}
use Rattle.il_image.specs.declared.opcode.TimerUse.TheVariants.{SetInput, SetPreset, Run, LoadOutput, LoadElapsed}
use Rattle.il_image.specs.declared.opcode.When.TheVariants.{Always, IfTrue, IfFalse}
use Rattle.il_image.specs.declared.opcode.Widening.TheVariants.{IntToDint, DintToLint}
use Rattle.il_image.specs.declared.value.Value.{Value}
use Rattle.il_image.specs.declared.value.Value.TheVariants.{Truth, Short, Long, Wide, Span}

-- ---- what version 1 can represent

-- The instruction has no LINT.
abbrev pub HasNoLint : Instr → Type 0
HasNoLint (Push v) = type_of v ≢ Lint
HasNoLint (Compute o w) = w ≢ width.Lint
HasNoLint (Widen IntToDint) = Unit {0}
HasNoLint (Widen DintToLint) = ⊥
HasNoLint Halt = Unit {0}
HasNoLint Drop = Unit {0}
HasNoLint (Slot use_of n) = Unit {0}
HasNoLint Not = Unit {0}
HasNoLint (Combine c) = Unit {0}
HasNoLint (Compare c) = Unit {0}
HasNoLint (Jump when distance) = Unit {0}
HasNoLint (Timer use_of n) = Unit {0}

-- ---- its octets

-- the octet of a type
abbrev pub type_number : ElementaryType → ℕ
type_number Bool = 1
type_number Int = 2
type_number Dint = 3
type_number Time = 4
type_number Lint = 0

-- a number of 16 bits, and a whole number in 32 bits, in two's complement; the highest octet first
abbrev pub two_octets : ℕ → List ℕ
two_octets n = to_be_bytes w16 n

abbrev pub four_octets : ℤ → List ℕ
four_octets z = to_be_bytes w32 (cast_unsigned w32 z)

-- a point: its type, whether the program may write it, the length of its name, and its name
abbrev pub point_of_one : ImagePoint → List ℕ
point_of_one p =
    type_number p.elementary ∷ (if p.writable then 1 else 0) ∷ length p.name ∷ p.name

-- a variable: its type and its initial value
abbrev pub variable_of_one : Value → List ℕ
variable_of_one v = type_number (type_of v) ∷ four_octets (number_of v)

-- the octet of a width
abbrev pub width_number : Width → ℕ
width_number width.Int = 2
width_number width.Dint = 3
width_number width.Lint = 0

-- the octet of an operation on numbers
abbrev pub operation_number : ArithmeticOperation → ℕ
operation_number Add = 0x0F
operation_number Sub = 0x10
operation_number Mul = 0x11
operation_number Div = 0x12
operation_number Mod = 0x13

-- an instruction; one with LINT has no octets
abbrev pub instr_of_one : Instr → List ℕ
instr_of_one Halt = 0x01 ∷ []
instr_of_one (Push (Truth b)) = 0x02 ∷ (if b then 1 else 0) ∷ []
instr_of_one (Push (Short z)) = 0x03 ∷ to_be_bytes w16 (cast_unsigned w16 z)
instr_of_one (Push (Long z)) = 0x04 ∷ four_octets z
instr_of_one (Push (Span n)) = 0x05 ∷ to_be_bytes w32 n
instr_of_one (Push (Wide z)) = []
instr_of_one Drop = 0x06 ∷ []
instr_of_one (Slot Load n) = 0x07 ∷ two_octets n
instr_of_one (Slot Store n) = 0x08 ∷ two_octets n
instr_of_one (Slot SetIf n) = 0x09 ∷ two_octets n
instr_of_one (Slot ResetIf n) = 0x0A ∷ two_octets n
instr_of_one Not = 0x0B ∷ []
instr_of_one (Combine And) = 0x0C ∷ []
instr_of_one (Combine Or) = 0x0D ∷ []
instr_of_one (Combine Xor) = 0x0E ∷ []
instr_of_one (Compute o w) = operation_number o ∷ width_number w ∷ []
instr_of_one (Compare Gt) = 0x14 ∷ []
instr_of_one (Compare Ge) = 0x15 ∷ []
instr_of_one (Compare Eq) = 0x16 ∷ []
instr_of_one (Compare Ne) = 0x17 ∷ []
instr_of_one (Compare Le) = 0x18 ∷ []
instr_of_one (Compare Lt) = 0x19 ∷ []
instr_of_one (Widen IntToDint) = 0x1A ∷ []
instr_of_one (Widen DintToLint) = []
instr_of_one (Jump Always n) = 0x1B ∷ two_octets n
instr_of_one (Jump IfTrue n) = 0x1C ∷ two_octets n
instr_of_one (Jump IfFalse n) = 0x1D ∷ two_octets n
instr_of_one (Timer SetInput n) = 0x1E ∷ two_octets n
instr_of_one (Timer SetPreset n) = 0x1F ∷ two_octets n
instr_of_one (Timer Run n) = 0x20 ∷ two_octets n
instr_of_one (Timer LoadOutput n) = 0x21 ∷ two_octets n
instr_of_one (Timer LoadElapsed n) = 0x22 ∷ two_octets n

-- the octets of an image: ILBC, the version, the points, the variables, the number of the timers
-- and the code, each list after the number of its items
abbrev pub image_of_one : Image → List ℕ
image_of_one i =
    0x49 ∷ 0x4C ∷ 0x42 ∷ 0x43 ∷ 0x01
    ∷ (two_octets (length i.points) ++ (flat_map point_of_one i.points
    ++ (two_octets (length i.variables) ++ (flat_map variable_of_one i.variables
    ++ (two_octets (length i.timers)
    ++ (two_octets (length i.code) ++ i.code))))))

-- ---- the law

-- Version 1 can represent the image, whose code is these instructions: counts of 16 bits, names,
-- values in the range of their types, no LINT, and no timer but TON.
pub record IsOfVersionOne (i : Image) (code : List Instr) : Type 0 where
  pub points : length i.points ≤ 65535
  pub variables : length i.variables ≤ 65535
  pub timers : length i.timers ≤ 65535
  pub size : length i.code ≤ 65535
  pub names : Each HasName i.points
  pub types : Each (λ (p : ImagePoint). p.elementary ≢ Lint) i.points
  pub values : Each IsValue i.variables
  pub kinds : Each (λ (v : Value). type_of v ≢ Lint) i.variables
  pub delays : Each (λ k. k ≡ OnDelay) i.timers
  pub instrs : Each IsInstr code
  pub short : Each HasNoLint code
  pub spelled : i.code ≡ flat_map instr_of_one code

-- The octets of version 1 are read as the image.
abbrev pub VersionOneIsRead : Type 0
VersionOneIsRead =
    (i : Image) (code : List Instr) → IsOfVersionOne i code
    → decoded_image (image_of_one i) ≡ Ok i

-- ---- what is never read of version 1

-- The code consists of instructions without LINT.
pub record IsCodeWithoutLint (code : List ℕ) : Type 0 where
  pub instrs : List Instr
  pub are : Each IsInstr instrs
  pub short : Each HasNoLint instrs
  pub spelled : code ≡ all_spelled instrs

-- The image has no LINT, and no timer but TON.
pub record HasNothingNewer (i : Image) : Type 0 where
  pub types : Each (λ (p : ImagePoint). p.elementary ≢ Lint) i.points
  pub kinds : Each (λ (v : Value). type_of v ≢ Lint) i.variables
  pub delays : Each (λ k. k ≡ OnDelay) i.timers
  pub code : IsCodeWithoutLint i.code

-- What octets of version 1 are read as has no LINT, and no timer but TON.
abbrev pub VersionOneHasNothingNewer : Type 0
VersionOneHasNothingNewer =
    (rest : List ℕ) (i : Image) → AreOctets rest
    → decoded_image (0x49 ∷ 0x4C ∷ 0x42 ∷ 0x43 ∷ 0x01 ∷ rest) ≡ Ok i
    → HasNothingNewer i
