-- The types of instructions, beside the table of operators (IEC 61131-3:2003, 2.2, 2.5.1 and tables
-- 10 and 52).
use Rattle.std.specs.Prelude.{◌≡◌, ℤ, pos, negsuc, ◌≤ℤ◌, Bool as Truth, true, false, Option, Some}
use Rattle.bay_base.specs.declared.types.ElementaryType.{ElementaryType}
use Rattle.bay_base.specs.declared.types.ElementaryType.TheVariants.{Bool, Int, Dint, Lint, Time}
use Rattle.il_text.specs.declared.program.Condition.{Condition}
use Rattle.il_text.specs.declared.program.Condition.TheVariants.{Always, IfTrue, IfFalse}
use Rattle.il_text.specs.declared.program.StoreKind.{StoreKind}
use Rattle.il_text.specs.declared.program.StoreKind.TheVariants.{Plain, Negated, Set, Reset}

-- N after an operator negates the operand, which is a BOOL.
abbrev pub MayNegate : Truth → ElementaryType → Type 0
MayNegate false kind = Unit {0}
MayNegate true kind = kind ≡ Bool

-- ST stores a result into a target of its type; STN, S and R are for BOOLs.
abbrev pub Stores : StoreKind → ElementaryType → ElementaryType → Type 0
Stores Plain result target = target ≡ result
Stores Negated result target = (result ≡ Bool) × (target ≡ Bool)
Stores Set result target = (result ≡ Bool) × (target ≡ Bool)
Stores Reset result target = (result ≡ Bool) × (target ≡ Bool)

-- A conditional jump or return tests a result, which is a BOOL.
abbrev pub Tests : Condition → Option ElementaryType → Type 0
Tests Always result = Unit {0}
Tests IfTrue result = result ≡ Some Bool
Tests IfFalse result = result ≡ Some Bool

-- ---- numbers

-- The number is that of a value of the type: a TIME has its milliseconds, FALSE 0 and TRUE 1.
-- `negsuc n` is -(n + 1).
abbrev pub IsNumberOf : ElementaryType → ℤ → Type 0
IsNumberOf Bool z = (pos 0 ≤ℤ z) × (z ≤ℤ pos 1)
IsNumberOf Int z = (negsuc 32_767 ≤ℤ z) × (z ≤ℤ pos 32_767)
IsNumberOf Dint z = (negsuc 2_147_483_647 ≤ℤ z) × (z ≤ℤ pos 2_147_483_647)
IsNumberOf Lint z =
    (negsuc 9_223_372_036_854_775_807 ≤ℤ z) × (z ≤ℤ pos 9_223_372_036_854_775_807)
IsNumberOf Time z = (pos 0 ≤ℤ z) × (z ≤ℤ pos 2_147_483_647)

-- The type is the first of INT, DINT and LINT that the number fits.
abbrev pub IsFirstFit : ℤ → ElementaryType → Type 0
IsFirstFit z Bool = ⊥
IsFirstFit z Int = IsNumberOf Int z
IsFirstFit z Dint = IsNumberOf Dint z × (IsNumberOf Int z → ⊥)
IsFirstFit z Lint = IsNumberOf Lint z × (IsNumberOf Dint z → ⊥)
IsFirstFit z Time = ⊥
