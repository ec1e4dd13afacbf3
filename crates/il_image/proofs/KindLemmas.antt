-- The order of the kinds.
use Rattle.std.proofs.Common.{arith}
use Rattle.std.proofs.lemmas.Grind.{common_steps}
use Rattle.std.proofs.Common.{◌≡◌, Bool, true, false, cond, refl, sym, subst, ◌∙◌}
use Rattle.bay_base.specs.declared.types.ElementaryType.{ElementaryType}
use Rattle.bay_base.specs.Types.{same_type}
use Rattle.il_image.specs.declared.kind.CellKind.{CellKind}
use Rattle.il_image.specs.declared.kind.CellKind.TheVariants.{Any, Plain, NotZero}
use Rattle.il_image.specs.declared.value.Value.{Value}
use Rattle.il_image.specs.Arithmetic.{type_of_width}
use Rattle.il_image.specs.Kinds.{HasKind, is_within, join}

pub same-self : (t : ElementaryType) → same_type t t ≡ true
same-self t = grind (arith, common_steps)

pub same-is : (t u : ElementaryType) → same_type t u ≡ true → t ≡ u
same-is t u h = grind (arith, common_steps)

-- two types that are one with a third
same-both : (t u v : ElementaryType) → same_type t v ≡ true → same_type u v ≡ true
    → same_type t u ≡ true
same-both t u v e f =
    subst (λ (x : ElementaryType). same_type t x ≡ true) (same-is t v e ∙ sym (same-is u v f))
    (same-self t)

same-along : (t u v : ElementaryType) → same_type t u ≡ true → same_type u v ≡ true
    → same_type t v ≡ true
same-along t u v e f = subst (λ (x : ElementaryType). same_type t x ≡ true) (same-is u v f) e

not-both : (b : Bool) → b ≡ true → b ≡ false → ⊥
not-both b e f = absurd cc

pub within-self : (a : CellKind) → is_within a a ≡ true
within-self Any = refl
within-self (Plain t) = same-self t
within-self (NotZero w) = same-self (type_of_width w)

pub within-any : (a : CellKind) → is_within a Any ≡ true
within-any Any = refl
within-any (Plain t) = refl
within-any (NotZero w) = refl

pub within-along : (a b c : CellKind) → is_within a b ≡ true → is_within b c ≡ true
    → is_within a c ≡ true
within-along a b c h g = grind (arith, common_steps)

-- ---- the join

over : (a b : CellKind) (p q : Bool) → is_within a b ≡ p → is_within b a ≡ q
    → (is_within a (cond p b (cond q a Any)) ≡ true)
    × (is_within b (cond p b (cond q a Any)) ≡ true)
over a b true q e f = (e, within-self b)
over a b false true e f = (within-self a, f)
over a b false false e f = (within-any a, within-any b)

pub join-over : (a b : CellKind) → (is_within a (join a b) ≡ true) × (is_within b (join a b) ≡ true)
join-over a b = over a b (is_within a b) (is_within b a) refl refl

-- Two kinds below one that is not any are one below the other.
compared : (a b top : CellKind) → is_within a top ≡ true → is_within b top ≡ true
    → is_within a b ≡ false → is_within b a ≡ false → is_within Any top ≡ true
compared a b top h g e k = grind (arith, common_steps)

least : (a b top : CellKind) (p q : Bool) → is_within a b ≡ p → is_within b a ≡ q
    → is_within a top ≡ true → is_within b top ≡ true
    → is_within (cond p b (cond q a Any)) top ≡ true
least a b top true q g h e f = f
least a b top false true g h e f = e
least a b top false false g h e f = compared a b top e f g h

pub join-least : (a b top : CellKind) → is_within a top ≡ true → is_within b top ≡ true
    → is_within (join a b) top ≡ true
join-least a b top e f = least a b top (is_within a b) (is_within b a) refl refl e f

-- ---- the values of a kind

pub kind-above : (v : Value) (a b : CellKind) → is_within a b ≡ true → HasKind v a → HasKind v b
kind-above v a b h g = grind (arith, common_steps)
