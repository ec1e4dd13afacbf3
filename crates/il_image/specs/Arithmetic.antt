-- Arithmetic and comparisons of the integer types (IEC 61131-3:2003, tables 24 and 28), once for
-- all widths.
use Rattle.std.specs.Prelude.{ℤ, pos, ◌≡◌, ◌+ℤ◌, ◌-ℤ◌, ◌*ℤ◌, ◌&&◌, ◌||◌, Bool, not, int_div, int_lt, int_le, Option, Some, None, if◌then◌else◌}
use Rattle.std.specs.Int.{Width as Bits, w16, w32, w64, int_wrap}
use Rattle.std.specs.Ordering.{int_eq}
use Rattle.il_image.specs.declared.arithmetic.Width.{Width}
use Rattle.il_image.specs.declared.arithmetic.Width.TheVariants as width
use Rattle.il_image.specs.declared.arithmetic.ArithmeticOperation.{ArithmeticOperation}
use Rattle.il_image.specs.declared.arithmetic.ArithmeticOperation.TheVariants.{Add, Sub, Mul, Div, Mod}
use Rattle.il_image.specs.declared.arithmetic.Comparison.{Comparison}
use Rattle.il_image.specs.declared.arithmetic.Comparison.TheVariants.{Gt, Ge, Eq, Ne, Le, Lt}
use Rattle.bay_base.specs.declared.types.ElementaryType.{ElementaryType}
use Rattle.bay_base.specs.declared.types.ElementaryType.TheVariants as elementary
use Rattle.il_image.specs.declared.opcode.Connective.{Connective}
use Rattle.il_image.specs.declared.opcode.Connective.TheVariants.{And, Or, Xor}
use Rattle.il_image.specs.declared.opcode.Widening.{Widening}
use Rattle.il_image.specs.declared.opcode.Widening.TheVariants.{IntToDint, DintToLint}
use Rattle.il_image.specs.declared.value.Value.{Value}
use Rattle.il_image.specs.declared.value.Value.TheVariants.{Short, Long, Wide}

-- ---- own: widths, and numbers wrapped to a width

-- the elementary type of a width
abbrev pub type_of_width : Width → ElementaryType
type_of_width width.Int = elementary.Int
type_of_width width.Dint = elementary.Dint
type_of_width width.Lint = elementary.Lint

-- the number of bits of a width
abbrev pub bits_of : Width → Bits
bits_of width.Int = w16
bits_of width.Dint = w32
bits_of width.Lint = w64

-- an integer wrapped to the width, in two's complement
abbrev pub wrap_to : Width → ℤ → ℤ
wrap_to width z = int_wrap (bits_of width) z

-- ---- IEC 61131-3 table 24: arithmetic

-- the integer result: DIV rounds toward zero, and a MOD b is a - (a DIV b) * b
abbrev pub exact_result : ArithmeticOperation → ℤ → ℤ → ℤ
exact_result Add a b = a +ℤ b
exact_result Sub a b = a -ℤ b
exact_result Mul a b = a *ℤ b
exact_result Div a b = int_div a b
exact_result Mod a b = a -ℤ (int_div a b *ℤ b)

-- the result of an operation: the exact integer, wrapped to the width (own)
abbrev pub computation_of : ArithmeticOperation → Width → ℤ → ℤ → ℤ
computation_of operation width a b = wrap_to width (exact_result operation a b)

-- The operation accepts this second operand: a divisor must not be 0.
abbrev pub DividesBy : ArithmeticOperation → ℤ → Type 0
DividesBy Add b = Unit {0}
DividesBy Sub b = Unit {0}
DividesBy Mul b = Unit {0}
DividesBy Div b = b ≡ pos 0 → ⊥
DividesBy Mod b = b ≡ pos 0 → ⊥

-- ---- IEC 61131-3 table 28: comparisons

-- whether the comparison of two numbers holds
abbrev pub comparison_holds : Comparison → ℤ → ℤ → Bool
comparison_holds Gt a b = int_lt b a
comparison_holds Ge a b = int_le b a
comparison_holds Eq a b = int_eq a b
comparison_holds Ne a b = not (int_eq a b)
comparison_holds Le a b = int_le a b
comparison_holds Lt a b = int_lt a b

-- ---- IEC 61131-3 table 26: logic

-- AND, OR and XOR of two BOOLs
abbrev pub logic_of : Connective → Bool → Bool → Bool
logic_of And a b = a && b
logic_of Or a b = a || b
logic_of Xor a b = if a then not b else b

-- ---- IEC 61131-3 table 22: conversions

-- the value of the next wider type with the same number, if this value can be widened so
abbrev pub wider_value : Widening → Value → Option Value
wider_value IntToDint (Short z) = Some (Long z)
wider_value DintToLint (Long z) = Some (Wide z)
wider_value widening v = None
