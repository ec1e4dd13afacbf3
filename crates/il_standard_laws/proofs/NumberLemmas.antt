-- Tests of numbers, and the numbers of types.
use Rattle.std.proofs.Common.{◌≡◌, ◌↔◌, ℕ, ◌≤◌, ℤ, pos, negsuc, ◌≤ℤ◌, ◌<ℤ◌, int_lt, int_le, Bool as Truth, true, false, not, cond, T, eqb, ◌&&◌, is_some, Some, None, refl, ap, ◌∙◌, arith}
use Rattle.std.specs.Ordering.{int_eq}
use Rattle.std.proofs.lemmas.Bool.{and_parts, eq-eqb, eqb-true}
use Rattle.std.proofs.lemmas.Bool.Decides.{Decides-int_eq}
use Rattle.std.proofs.lemmas.Int.{ints}
use Rattle.bay_base.specs.declared.types.ElementaryType.{ElementaryType}
use Rattle.bay_base.specs.declared.types.ElementaryType.TheVariants.{Bool, Int, Dint, Lint, Time}
use Rattle.il_image.specs.Values.{is_between, value_of}
use Rattle.il_image.specs.declared.value.Value.TheVariants as value
use Rattle.il_check.specs.Rules.{typed_number, own_type}
use Rattle.il_standard_laws.specs.Table.{IsFirstFit, IsNumberOf}

-- ---- tests

holds : (b : Truth) → T b → b ≡ true
holds true t = refl
holds false t = absurd t

held : (b : Truth) → b ≡ true → T b
held true e = tt
held false e = absurd (cc)

pub not-true : (b : Truth) → (b ≡ true → ⊥) → b ≡ false
not-true true h = absurd (h refl)
not-true false h = refl

pub is-less : (a b : ℤ) → (int_lt a b ≡ true) ↔ (a <ℤ b)
is-less a b = (λ e. record { lt = held (int_lt a b) e }, λ h. holds (int_lt a b) h.lt)

pub is-at-most : (a b : ℤ) → (int_le a b ≡ true) ↔ (a ≤ℤ b)
is-at-most a b = (λ e. record { le = held (int_le a b) e }, λ h. holds (int_le a b) h.le)

pub is-equal : (a b : ℤ) → (int_eq a b ≡ true) ↔ (a ≡ b)
is-equal a b = Decides-int_eq a b

pub not-same : (b : Truth) (P : Type 0) → ((b ≡ true) ↔ P) → (not b ≡ true) ↔ (P → ⊥)
not-same true P h = (λ e. absurd (cc), λ no. absurd (no (h.0 refl)))
not-same false P h = (λ e p. absurd (let k = h.1 p in cc), λ no. refl)

pub is-between : (low high z : ℤ) → (is_between low high z ≡ true)
    ↔ ((low ≤ℤ z) × (z ≤ℤ high))
is-between low high z = (
  λ e. let both = and_parts (int_le low z) (int_le z high) e in
      ((is-at-most low z).0 both.0, (is-at-most z high).0 both.1),
  λ h. ap (λ (b : Truth). b && int_le z high) ((is-at-most low z).1 h.0)
      ∙ (is-at-most z high).1 h.1,
)

-- ---- the numbers of a type

pub there-where : {A : Type 0} (b : Truth) (x : A) (P : Type 0) → ((b ≡ true) ↔ P)
    → (is_some (cond b (Some x) None) ≡ true) ↔ P
there-where true x P h = h
there-where false x P h = h

truth-case : (n : ℕ) (a b : Truth) → eqb n 0 ≡ a → eqb n 1 ≡ b
    → (is_some (cond a (Some (value.Truth false)) (cond b (Some (value.Truth true)) None)) ≡ true)
    ↔ IsNumberOf Bool (pos n)
truth-case n true b e f = (
  λ t. let zero : n ≡ 0 = eqb-true n 0 e in (omega (arith, ints), omega (arith, ints)),
  λ h. refl,
)
truth-case n false true e f = (
  λ t. let one : n ≡ 1 = eqb-true n 1 f in (omega (arith, ints), omega (arith, ints)),
  λ h. refl,
)
truth-case n false false e f = (
  λ t. absurd (cc),
  λ h. let zero : n ≡ 0 → ⊥ = λ is. (let k = eq-eqb n 0 is in cc) in
      let one : n ≡ 1 → ⊥ = λ is. (let k = eq-eqb n 1 is in cc) in
      let few : n ≤ 1 = omega (arith, ints, h.1) in
      absurd (omega (arith, zero, one)),
)

-- a type has a value for each of its numbers
pub has-value : (kind : ElementaryType) (z : ℤ) → (is_some (value_of kind z) ≡ true)
    ↔ IsNumberOf kind z
has-value Bool (pos n) = truth-case n (eqb n 0) (eqb n 1) refl refl
has-value Bool (negsuc n) = (λ e. absurd (cc), λ h. absurd h.0.le)
has-value Int z = there-where _ (value.Short z) _ (is-between (negsuc 0x7FFF) (pos 0x7FFF) z)
has-value Dint z =
    there-where _ (value.Long z) _ (is-between (negsuc 0x7FFF_FFFF) (pos 0x7FFF_FFFF) z)
has-value Lint z =
    there-where _ (value.Wide z) _
    (is-between (negsuc 0x7FFF_FFFF_FFFF_FFFF) (pos 0x7FFF_FFFF_FFFF_FFFF) z)
has-value Time (pos n) =
    there-where _ (value.Span n) _ (is-between (pos 0) (pos 0x7FFF_FFFF) (pos n))
has-value Time (negsuc n) = (λ e. absurd (cc), λ h. absurd h.0.le)

-- a number of a type is one of LINT
pub in-lint : (kind : ElementaryType) (z : ℤ) → IsNumberOf kind z → IsNumberOf Lint z
in-lint Bool z h = (omega (arith, ints, h), omega (arith, ints, h))
in-lint Int z h = (omega (arith, ints, h), omega (arith, ints, h))
in-lint Dint z h = (omega (arith, ints, h), omega (arith, ints, h))
in-lint Lint z h = h
in-lint Time z h = (omega (arith, ints, h), omega (arith, ints, h))

in-dint : (z : ℤ) → IsNumberOf Int z → IsNumberOf Dint z
in-dint z h = (omega (arith, ints, h), omega (arith, ints, h))

-- ---- the first type of a number

first-case : (z : ℤ) (short long : Truth) → is_some (value_of Int z) ≡ short
    → is_some (value_of Dint z) ≡ long → IsNumberOf Lint z
    → IsFirstFit z (cond short Int (cond long Dint Lint))
first-case z true long e f h = (has-value Int z).0 e
first-case z false true e f h =
    ((has-value Dint z).0 f, λ k. absurd (let t = (has-value Int z).1 k in cc))
first-case z false false e f h = (h, λ k. absurd (let t = (has-value Dint z).1 k in cc))

pub own-first : (z : ℤ) → IsNumberOf Lint z → IsFirstFit z (own_type z)
own-first z h = first-case z _ _ refl refl h

pub first-own : (z : ℤ) (kind : ElementaryType) → IsFirstFit z kind → own_type z ≡ kind
first-own z Int h =
    ap (λ (b : Truth). cond b Int (cond (is_some (typed_number Dint z)) Dint Lint))
    ((has-value Int z).1 h)
first-own z Dint h =
    ap (λ (b : Truth). cond b Int (cond (is_some (typed_number Dint z)) Dint Lint))
    (not-true _ (λ e. h.1 ((has-value Int z).0 e)))
    ∙ ap (λ (b : Truth). cond b Dint Lint) ((has-value Dint z).1 h.0)
first-own z Lint h =
    ap (λ (b : Truth). cond b Int (cond (is_some (typed_number Dint z)) Dint Lint))
    (not-true _ (λ e. h.1 (in-dint z ((has-value Int z).0 e))))
    ∙ ap (λ (b : Truth). cond b Dint Lint) (not-true _ (λ e. h.1 ((has-value Dint z).0 e)))
first-own z Bool h = absurd h
first-own z Time h = absurd h

pub first-in-lint : (z : ℤ) (kind : ElementaryType) → IsFirstFit z kind → IsNumberOf Lint z
first-in-lint z Int h = in-lint Int z h
first-in-lint z Dint h = in-lint Dint z h.0
first-in-lint z Lint h = h.0
first-in-lint z Bool h = absurd h
first-in-lint z Time h = absurd h
