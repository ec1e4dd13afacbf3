-- The rules that the checks go by are the language's tables.
use Rattle.std.proofs.lemmas.Grind.{common_steps}
use Rattle.std.proofs.Common.{◌≡◌, Bool as Truth, true, false, is_some, ◌↔◌, Option, Some, None, refl, sym, ap, subst, ◌∙◌, arith}
use Rattle.bay_base.specs.declared.types.ElementaryType.{ElementaryType}
use Rattle.bay_base.specs.declared.types.ElementaryType.TheVariants.{Bool}
use Rattle.il_text.specs.declared.program.Operator.{Operator}
use Rattle.il_image.proofs.KindLemmas.{same-is}
use Rattle.il_check.specs.Rules.{type_of_result, is_boolean, may_negate, or_same, accepts_type}
use Rattle.il_check.specs.Operators.{result_type}
use Rattle.il_standard_laws.specs.Table.{MayNegate}

-- ---- operators

-- each row of the tables has one type on both sides
one-type : (o : Operator) (t u v : ElementaryType) → result_type o t u ≡ Some v → u ≡ t
one-type o t u v e = grind (arith, common_steps)

there : (kind : ElementaryType) (r : Option ElementaryType) → is_some r ≡ true
    → r ≡ Some (or_same kind r)
there kind None e = absurd (cc)
there kind (Some k) e = refl

-- the row of an operator with two operands of one type
pub row : (o : Operator) (t : ElementaryType) → accepts_type o t ≡ true
    → result_type o t t ≡ Some (type_of_result o t)
row o t e = there t (result_type o t t) e

-- the table has a row for the types that an operator takes, and no other
pub table : (o : Operator) (t u v : ElementaryType) → (result_type o t u ≡ Some v)
    ↔ ((accepts_type o t ≡ true) × (u ≡ t) × (v ≡ type_of_result o t))
table o t u v = (
  λ e. let same = one-type o t u v e in
      let here : result_type o t t ≡ Some v =
      subst (λ (k : ElementaryType). result_type o t k ≡ Some v) same e in
      (ap is_some here, same, sym (ap (or_same t) here)),
  λ h. ap (result_type o t) h.1 ∙ row o t h.0 ∙ ap Some (sym h.2),
)

-- ---- the other rules

-- the modifier N is taken where the table has it
pub negation : (n : Truth) (kind : ElementaryType) → (may_negate n kind ≡ true) ↔ MayNegate n kind
negation false kind = (λ e. tt, λ h. refl)
negation true kind = (
  λ e. sym (same-is Bool kind e),
  λ h. subst (λ (t : ElementaryType). is_boolean t ≡ true) (sym h) refl,
)
