-- Values of the elementary types, and their numbers.
use Rattle.std.specs.Prelude.{ℤ, pos, negsuc, ◌&&◌, ◌==◌, Bool, true, false, int_le, Option, Some, None, if◌then◌else◌}
use Rattle.bay_base.specs.declared.types.ElementaryType.{ElementaryType}
use Rattle.bay_base.specs.declared.types.ElementaryType.TheVariants as elementary
use Rattle.il_image.specs.declared.value.Value.{Value}
use Rattle.il_image.specs.declared.value.Value.TheVariants.{Truth, Short, Long, Wide, Span}

-- ---- IEC 61131-3 table 10: elementary types

-- the type of a value
abbrev pub type_of : Value → ElementaryType
type_of (Truth b) = elementary.Bool
type_of (Short z) = elementary.Int
type_of (Long z) = elementary.Dint
type_of (Wide z) = elementary.Lint
type_of (Span n) = elementary.Time

-- the number of a value: FALSE is 0, TRUE is 1, and a TIME is its milliseconds (own)
abbrev pub number_of : Value → ℤ
number_of (Truth b) = pos (if b then 1 else 0)
number_of (Short z) = z
number_of (Long z) = z
number_of (Wide z) = z
number_of (Span n) = pos n

-- the default value of a type: FALSE, 0, or T#0ms (IEC 61131-3, table 13)
abbrev pub default_value : ElementaryType → Value
default_value elementary.Bool = Truth false
default_value elementary.Int = Short (pos 0)
default_value elementary.Dint = Long (pos 0)
default_value elementary.Lint = Wide (pos 0)
default_value elementary.Time = Span 0

-- whether the number is in the range, both ends included (own)
abbrev pub is_between : ℤ → ℤ → ℤ → Bool
is_between low high z = int_le low z && int_le z high

-- the BOOL with this number, if there is one
abbrev pub truth_of : ℤ → Option Value
truth_of (pos n) =
    if n == 0 then Some (Truth false) else (if n == 1 then Some (Truth true) else None)
truth_of (negsuc n) = None

-- the TIME of 0 to 2,147,483,647 milliseconds with this number, if there is one (own)
abbrev pub span_of : ℤ → Option Value
span_of (pos n) = if is_between (pos 0) (pos 0x7FFF_FFFF) (pos n) then Some (Span n) else None
span_of (negsuc n) = None

-- the value of a type with this number, if there is one
abbrev pub value_of : ElementaryType → ℤ → Option Value
value_of elementary.Bool z = truth_of z
value_of elementary.Int z =
    if is_between (negsuc 0x7FFF) (pos 0x7FFF) z then Some (Short z) else None
value_of elementary.Dint z =
    if is_between (negsuc 0x7FFF_FFFF) (pos 0x7FFF_FFFF) z then Some (Long z) else None
value_of elementary.Lint z =
    if is_between (negsuc 0x7FFF_FFFF_FFFF_FFFF) (pos 0x7FFF_FFFF_FFFF_FFFF) z then Some (Wide z)
    else None
value_of elementary.Time z = span_of z
