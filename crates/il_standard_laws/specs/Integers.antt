-- The results of operators on integers (IEC 61131-3:2003, tables 10, 24, 26 and 28).
use Rattle.std.specs.Prelude.{◌≡◌, ℕ, ◌*◌, ◌≤◌, ℤ, pos, negsuc, ◌+ℤ◌, ◌-ℤ◌, ◌*ℤ◌, ◌<ℤ◌, ◌≤ℤ◌, ◌⊎◌, ◌↔◌, unsigned_abs, Bool as Truth, true, false, Option, Some}
use Rattle.bay_base.specs.declared.types.ElementaryType.{ElementaryType}
use Rattle.bay_base.specs.declared.types.ElementaryType.TheVariants.{Bool, Int, Dint, Lint, Time}
use Rattle.il_text.specs.declared.program.Conversion.{Conversion}
use Rattle.il_text.specs.declared.program.Operator.{Operator}
use Rattle.il_text.specs.declared.program.Operator.TheVariants.{And, Or, Xor, Add, Sub, Mul, Div, Mod, Gt, Ge, Eq, Ne, Le, Lt}
use Rattle.il_image.specs.Values.{number_of, type_of}
use Rattle.il_image.specs.declared.value.Value.{Value}
use Rattle.il_check.specs.Operators.{result_type}
use Rattle.il_check.specs.Rules.{converted_from, converted_to}
use Rattle.il_standard_laws.specs.Table.{IsNumberOf}

-- the number of values of a type
abbrev pub value_count : ElementaryType → ℕ
value_count Bool = 2
value_count Int = 65_536
value_count Dint = 4_294_967_296
value_count Lint = 18_446_744_073_709_551_616
value_count Time = 2_147_483_648

-- The number is the one of the type that differs from the integer by a multiple of the number of
-- the type's values.
abbrev pub IsReduced : ElementaryType → ℤ → ℤ → Type 0
IsReduced kind exact z =
    IsNumberOf kind z × ((times : ℤ) × (exact ≡ z +ℤ times *ℤ pos (value_count kind)))

-- A quotient is not negative if both have one sign, and not positive if their signs differ.
abbrev pub HasSign : ℤ → ℤ → ℤ → Type 0
HasSign (pos a) (pos b) q = pos 0 ≤ℤ q
HasSign (pos a) (negsuc b) q = q ≤ℤ pos 0
HasSign (negsuc a) (pos b) q = q ≤ℤ pos 0
HasSign (negsuc a) (negsuc b) q = pos 0 ≤ℤ q

-- The quotient rounded toward zero: its absolute value is the greatest number that, times that of
-- the divisor, is not above that of the dividend. There is none for a divisor of 0.
pub record IsQuotient (a b q : ℤ) : Type 0 where
  pub below : unsigned_abs q * unsigned_abs b ≤ unsigned_abs a
  pub greatest : (n : ℕ) → n * unsigned_abs b ≤ unsigned_abs a → n ≤ unsigned_abs q
  pub sign : HasSign a b q

-- The number of an operator's result on two numbers of this type; FALSE is 0 and TRUE is 1.
abbrev pub IsOutcome : Operator → ElementaryType → ℤ → ℤ → ℤ → Type 0
IsOutcome And kind a b z = (z ≡ pos 1) ↔ ((a ≡ pos 1) × (b ≡ pos 1))
IsOutcome Or kind a b z = (z ≡ pos 1) ↔ ((a ≡ pos 1) ⊎ (b ≡ pos 1))
IsOutcome Xor kind a b z = (z ≡ pos 1) ↔ (a ≡ b → ⊥)
IsOutcome Add kind a b z = IsReduced kind (a +ℤ b) z
IsOutcome Sub kind a b z = IsReduced kind (a -ℤ b) z
IsOutcome Mul kind a b z = IsReduced kind (a *ℤ b) z
IsOutcome Div kind a b z = (q : ℤ) × IsQuotient a b q × IsReduced kind q z
IsOutcome Mod kind a b z = (q : ℤ) × IsQuotient a b q × IsReduced kind (a -ℤ (q *ℤ b)) z
IsOutcome Gt kind a b z = (z ≡ pos 1) ↔ (b <ℤ a)
IsOutcome Ge kind a b z = (z ≡ pos 1) ↔ (b ≤ℤ a)
IsOutcome Eq kind a b z = (z ≡ pos 1) ↔ (a ≡ b)
IsOutcome Ne kind a b z = (z ≡ pos 1) ↔ (a ≡ b → ⊥)
IsOutcome Le kind a b z = (z ≡ pos 1) ↔ (a ≤ℤ b)
IsOutcome Lt kind a b z = (z ≡ pos 1) ↔ (a <ℤ b)

-- The value is an operator's result on two values: the table has a row for their types, with the
-- type of the result, and the number of the result is that of the operator on their numbers.
pub record IsMadeOf (operator : Operator) (a b v : Value) : Type 0 where
  pub typed : result_type operator (type_of a) (type_of b) ≡ Some (type_of v)
  pub number : IsOutcome operator (type_of a) (number_of a) (number_of b) (number_of v)

-- The conversion of a value: the value of the wider type with the same number.
abbrev pub IsConverted : Conversion → Value → Value → Type 0
IsConverted conversion v w =
    (type_of v ≡ converted_from conversion) × (type_of w ≡ converted_to conversion)
    × (number_of w ≡ number_of v)

-- NOT of FALSE is TRUE, and NOT of TRUE is FALSE.
abbrev pub IsInverted : Value → Value → Type 0
IsInverted v w =
    (type_of v ≡ Bool) × (type_of w ≡ Bool) × ((number_of w ≡ pos 1) ↔ (number_of v ≡ pos 0))

-- A value, negated if the flag is true.
abbrev pub IsNegatedIf : Truth → Value → Value → Type 0
IsNegatedIf false v w = w ≡ v
IsNegatedIf true v w = IsInverted v w

-- An operator, which may negate its operand first, is applied to the current result before it and
-- to the operand, and leaves the result after it; none is an unset result.
pub record IsApplied (operator : Operator) (negated : Truth) (before operand after : Option Value)
    : Type 0 where
  pub first : Value
  pub given : Value
  pub second : Value
  pub new : Value
  pub result : before ≡ Some first
  pub read : operand ≡ Some given
  pub negation : IsNegatedIf negated given second
  pub made : IsMadeOf operator first second new
  pub leaves : after ≡ Some new
