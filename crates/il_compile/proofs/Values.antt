-- What operators make of values of the types that they take.
use Rattle.std.proofs.lemmas.Grind.{common_steps}
use Rattle.std.proofs.Common.{◌≡◌, ℤ, pos, ◌&&◌, ◌||◌, Bool, true, false, not, Option, Some, None, refl, sym, ◌∙◌, arith, if◌then◌else◌}
use Rattle.std.specs.Ordering.{int_eq}
use Rattle.bay_base.specs.Types.{same_type}
use Rattle.bay_base.specs.declared.types.ElementaryType.{ElementaryType}
use Rattle.bay_base.specs.declared.types.ElementaryType.TheVariants as elementary
use Rattle.il_text.specs.declared.program.Conversion.{Conversion}
use Rattle.il_text.specs.declared.program.Conversion.TheVariants.{IntToDint, DintToLint}
use Rattle.il_text.specs.declared.program.Operator.{Operator}
use Rattle.il_image.specs.Arithmetic.{comparison_holds, computation_of, logic_of, wider_value}
use Rattle.il_image.specs.Machine.{divides, is_equality_test, value_of_width}
use Rattle.il_image.specs.Values.{number_of, type_of}
use Rattle.il_image.specs.declared.arithmetic.Comparison.{Comparison}
use Rattle.il_image.specs.declared.arithmetic.ArithmeticOperation.{ArithmeticOperation}
use Rattle.il_image.specs.declared.arithmetic.Width.{Width}
use Rattle.il_image.specs.declared.arithmetic.Width.TheVariants as width
use Rattle.il_image.specs.declared.value.Value.{Value}
use Rattle.il_image.specs.declared.value.Value.TheVariants.{Truth, Short, Long, Wide, Span}
use Rattle.il_check.specs.Rules as rules
use Rattle.il_compile.specs.Meaning.{combination_of, inverse}
use Rattle.il_compile.specs.OperatorClasses.{OperatorClass, connects, computes, compares, class_of, widening_of}

-- ---- operators by what they do

abbrev pub sense_takes : OperatorClass → ElementaryType → Bool
sense_takes (connects c) kind = rules.is_boolean kind
sense_takes (computes o) kind = rules.is_number kind
sense_takes (compares c) kind = is_equality_test c || not (rules.is_boolean kind)

abbrev pub sense_gives : OperatorClass → ElementaryType → ElementaryType
sense_gives (connects c) kind = kind
sense_gives (computes o) kind = kind
sense_gives (compares c) kind = elementary.Bool

abbrev pub sense_divides : OperatorClass → Bool
sense_divides (connects c) = false
sense_divides (computes o) = divides o
sense_divides (compares c) = false

pub record Same (o : Operator) : Type 0 where
  pub takes : (kind : ElementaryType) → rules.accepts_type o kind ≡ sense_takes (class_of o) kind
  pub gives : (kind : ElementaryType) → rules.type_of_result o kind ≡ sense_gives (class_of o) kind
  pub divides : rules.divides o ≡ sense_divides (class_of o)

pub same-sense : (o : Operator) → Same o
same-sense o = record {
  takes = λ k. grind (arith, common_steps);
  gives = λ k. grind (arith, common_steps);
  divides = grind (arith, common_steps);
}

-- ---- values

pub type-self : (k : ElementaryType) → same_type k k ≡ true
type-self elementary.Bool = refl
type-self elementary.Int = refl
type-self elementary.Dint = refl
type-self elementary.Lint = refl
type-self elementary.Time = refl

-- a BOOL
pub truth-is : (v : Value) → type_of v ≡ elementary.Bool → (b : Bool) × (v ≡ Truth b)
truth-is (Truth b) e = (b, refl)
truth-is v e = absurd cc

pub boolean-is : (k : ElementaryType) → rules.is_boolean k ≡ true → k ≡ elementary.Bool
boolean-is elementary.Bool h = refl
boolean-is kind h = absurd cc

-- a value that something makes, of a type
pub record Made (made : Option Value) (kind : ElementaryType) : Type 0 where
  pub value : Value
  pub is : made ≡ Some value
  pub type : type_of value ≡ kind

pub inverse-made : (v : Value) (kind : ElementaryType) → type_of v ≡ kind
    → rules.is_boolean kind ≡ true → Made (inverse v) kind
inverse-made (Truth b) kind e h = record { value = Truth (not b); is = refl; type = e }
inverse-made (Short z) kind e h =
    absurd (let f : elementary.Int ≡ elementary.Bool = e ∙ boolean-is kind h in cc)
inverse-made (Long z) kind e h =
    absurd (let f : elementary.Dint ≡ elementary.Bool = e ∙ boolean-is kind h in cc)
inverse-made (Wide z) kind e h =
    absurd (let f : elementary.Lint ≡ elementary.Bool = e ∙ boolean-is kind h in cc)
inverse-made (Span n) kind e h =
    absurd (let f : elementary.Time ≡ elementary.Bool = e ∙ boolean-is kind h in cc)

computed-made : (o : ArithmeticOperation) (w : Width) (a b : ℤ) (zero : Bool)
    (kind : ElementaryType)
    → type_of (value_of_width w (computation_of o w a b)) ≡ kind → zero ≡ false
    → Made (if zero then None else Some (value_of_width w (computation_of o w a b))) kind
computed-made o w a b true kind t z = absurd cc
computed-made o w a b false kind t z =
    record { value = value_of_width w (computation_of o w a b); is = refl; type = t }

compared-made : (c : Comparison) (a b : Value) (fits : Bool) → fits ≡ true
    → Made (if fits then Some (Truth (comparison_holds c (number_of a) (number_of b))) else None)
    elementary.Bool
compared-made c a b true h =
    record {
      value = Truth (comparison_holds c (number_of a) (number_of b));
      is = refl;
      type = refl;
    }
compared-made c a b false h = absurd cc

comparable : (c : Comparison) (k l : ElementaryType) → k ≡ l
    → is_equality_test c || not (rules.is_boolean k) ≡ true
    → same_type k l && (not (same_type k elementary.Bool) || is_equality_test c) ≡ true
comparable c elementary.Bool l e h =
    elim (is_equality_test c) as
    (λ x. x || false ≡ true → same_type elementary.Bool l && (false || x) ≡ true)
    [ true ↦ (λ g. rw (sym e) refl) | false ↦ (λ g. absurd cc) ] h
comparable c elementary.Int l e h = rw (sym e) refl
comparable c elementary.Dint l e h = rw (sym e) refl
comparable c elementary.Lint l e h = rw (sym e) refl
comparable c elementary.Time l e h = rw (sym e) refl

-- an operator makes a value of two of a type that it takes, of which the second is not 0 where it
-- divides
pub combined-made : (sense : OperatorClass) (a b : Value) → type_of b ≡ type_of a
    → sense_takes sense (type_of a) ≡ true
    → sense_divides sense && int_eq (number_of b) (pos 0) ≡ false
    → Made (combination_of sense a b) (sense_gives sense (type_of a))
combined-made (connects x) (Truth a) (Truth b) e h z =
    record { value = Truth (logic_of x a b); is = refl; type = refl }
combined-made (connects x) a b e h z = absurd cc
combined-made (computes o) (Short a) (Short b) e h z =
    computed-made o width.Int a b _ elementary.Int refl z
combined-made (computes o) (Long a) (Long b) e h z =
    computed-made o width.Dint a b _ elementary.Dint refl z
combined-made (computes o) (Wide a) (Wide b) e h z =
    computed-made o width.Lint a b _ elementary.Lint refl z
combined-made (computes o) a b e h z = absurd cc
combined-made (compares c) a b e h z =
    compared-made c a b _ (comparable c (type_of a) (type_of b) (sym e) h)

pub widened-made : (c : Conversion) (v : Value) → type_of v ≡ rules.converted_from c
    → Made (wider_value (widening_of c) v) (rules.converted_to c)
widened-made IntToDint (Short z) e = record { value = Long z; is = refl; type = refl }
widened-made DintToLint (Long z) e = record { value = Wide z; is = refl; type = refl }
widened-made x v e = absurd cc
