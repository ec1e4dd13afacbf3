-- Values, their words, and what arithmetic makes of them.
use Rattle.std.proofs.lemmas.Grind.{common_steps}
use Rattle.std.proofs.Common.{◌≡◌, ℕ, suc, ◌<◌, ◌≤◌, ◌^◌, ℤ, pos, negsuc, FitsSigned, Bool, true, false, cond, leb, refl, sym, ap, ◌∙◌, arith, Option, Some, None}
use Rattle.std.specs.Prelude.{IsSome, unwrap_or}
use Rattle.std.specs.Int.{Width as Bits, w16, w32, w64, int_wrap}
use Rattle.std.specs.Ordering.{int_eq}
use mir.Val.{hbits}
use Rattle.std.proofs.lemmas.Bool.{le-leb, leb-true, and_parts}
use Rattle.std.proofs.lemmas.Bool.Decides.{Decides-int_eq}
use Rattle.std.proofs.lemmas.Int.{SFits-int_wrap}
use Rattle.bay_base.specs.declared.types.ElementaryType.{ElementaryType}
use Rattle.bay_base.specs.declared.types.ElementaryType.TheVariants as elementary
use Rattle.il_image.specs.declared.arithmetic.Width.{Width}
use Rattle.il_image.specs.declared.arithmetic.Width.TheVariants as width
use Rattle.il_image.specs.declared.kind.CellKind.TheVariants.{Plain, NotZero}
use Rattle.il_image.specs.declared.opcode.Connective.{Connective}
use Rattle.il_image.specs.declared.value.Value.{Value}
use Rattle.il_image.specs.declared.value.Value.TheVariants.{Truth, Short, Long, Wide, Span}
use Rattle.il_image.specs.Arithmetic.{logic_of, type_of_width, wrap_to}
use Rattle.il_image.specs.Effects.{kind_of, kind_of_number}
use Rattle.il_image.specs.Images.{IsValue}
use Rattle.il_image.specs.Kinds.{HasKind}
use Rattle.il_image.specs.Machine.{value_of_width}
use Rattle.il_image.specs.Values.{number_of, type_of, value_of, is_between}
use Rattle.il_image.proofs.ValueLemmas.{value-back}
use Rattle.il_scan.specs.Words.{value_at}
use Rattle.il_scan.specs.WordEffects.{logic_word, word_of}

pub truth-word : (b : Bool) → number_of (Truth b) ≡ word_of b
truth-word true = refl
truth-word false = refl

pub truth-value : (b : Bool) → IsValue (Truth b)
truth-value true = refl
truth-value false = refl

-- the value of a type that its number stands for
pub value-again : (t : ElementaryType) (v : Value) → type_of v ≡ t → IsValue v
    → value_at t (number_of v) ≡ v
value-again t v e is =
    let back : value_of t (number_of v) ≡ Some v =
    ap (λ (s : ElementaryType). value_of s (number_of v)) (sym e) ∙ value-back v is in
    ap (λ (o : Option Value). unwrap_or o (Truth false)) back

-- ---- ranges

between : (w : Bits) (m : ℕ) (z : ℤ) → 2 ^ hbits w ≡ suc m → FitsSigned w z
    → is_between (negsuc m) (pos m) z ≡ true
between w m (pos n) size fits = let h : n < 2 ^ hbits w = fits.sfits in le-leb n m (omega arith)
between w m (negsuc n) size fits =
    let h : n < 2 ^ hbits w = fits.sfits in
    let e : leb n m ≡ true = le-leb n m (omega arith) in
    rw e refl

some-value : {A : Type 0} (b : Bool) (x : A) → b ≡ true → IsSome (cond b (Some x) None)
some-value true x e = refl
some-value false x e = absurd cc

pub wrapped-value : (w : Width) (z : ℤ) → IsValue (value_of_width w (wrap_to w z))
wrapped-value width.Int z =
    some-value _ (Short (int_wrap w16 z))
    (between w16 0x7FFF (int_wrap w16 z) refl (SFits-int_wrap w16 z))
wrapped-value width.Dint z =
    some-value _ (Long (int_wrap w32 z))
    (between w32 0x7FFF_FFFF (int_wrap w32 z) refl (SFits-int_wrap w32 z))
wrapped-value width.Lint z =
    some-value _ (Wide (int_wrap w64 z))
    (between w64 0x7FFF_FFFF_FFFF_FFFF (int_wrap w64 z) refl (SFits-int_wrap w64 z))

pub number_in : (w : Width) (z : ℤ) → number_of (value_of_width w z) ≡ z
number_in width.Int z = refl
number_in width.Dint z = refl
number_in width.Lint z = refl

pub type-in : (w : Width) (z : ℤ) → type_of (value_of_width w z) ≡ type_of_width w
type-in width.Int z = refl
type-in width.Dint z = refl
type-in width.Lint z = refl

pub span-value : (n : ℕ) → n ≤ 0x7FFF_FFFF → IsValue (Span n)
span-value n h =
    some-value _ (Span n) (let z : leb 0 n ≡ true = le-leb 0 n (omega arith) in
    let e : leb n 0x7FFF_FFFF ≡ true = le-leb n 0x7FFF_FFFF h in rw (z, e) refl)

some-test : {A : Type 0} (b : Bool) (x : A) → IsSome (cond b (Some x) None) → b ≡ true
some-test true x h = refl
some-test false x h = h

pub span-within : (n : ℕ) → IsValue (Span n) → n ≤ 0x7FFF_FFFF
span-within n is =
    leb-true n 0x7FFF_FFFF (and_parts (leb 0 n) (leb n 0x7FFF_FFFF)
    (some-test (is_between (pos 0) (pos 0x7FFF_FFFF) (pos n)) (Span n) is)).1

wider : (m k : ℕ) (z : ℤ) → m ≤ k → is_between (negsuc m) (pos m) z ≡ true
    → is_between (negsuc k) (pos k) z ≡ true
wider m k (pos n) h e = let g : n ≤ m = leb-true n m e in le-leb n k (omega arith)
wider m k (negsuc n) h e = let g : n ≤ m = leb-true n m (and_parts (leb n m) true e).0 in
    let f : leb n k ≡ true = le-leb n k (omega arith) in rw f refl

-- widening keeps the number in range
pub widened-short : (z : ℤ) → IsValue (Short z) → IsValue (Long z)
widened-short z is =
    some-value _ (Long z) (wider 0x7FFF 0x7FFF_FFFF z (omega arith)
    (some-test (is_between (negsuc 0x7FFF) (pos 0x7FFF) z) (Short z) is))

pub widened-long : (z : ℤ) → IsValue (Long z) → IsValue (Wide z)
widened-long z is =
    some-value _ (Wide z) (wider 0x7FFF_FFFF 0x7FFF_FFFF_FFFF_FFFF z (omega arith)
    (some-test (is_between (negsuc 0x7FFF_FFFF) (pos 0x7FFF_FFFF) z) (Long z) is))

-- ---- kinds of values

kind-case : (w : Width) (v : Value) (z : ℤ) (b : Bool) → int_eq z (pos 0) ≡ b
    → type_of v ≡ type_of_width w → number_of v ≡ z
    → HasKind v (cond b (Plain (type_of_width w)) (NotZero w))
kind-case w v z true e t n = t
kind-case w v z false e t n = (
  t,
  λ zero. let yes : int_eq z (pos 0) ≡ true = (Decides-int_eq z (pos 0)).1 (sym n ∙ zero) in
      let no : false ≡ true = sym e ∙ yes in cc,
)

kind-number : (w : Width) (v : Value) (z : ℤ) → type_of v ≡ type_of_width w → number_of v ≡ z
    → HasKind v (kind_of_number w z)
kind-number w v z t n = kind-case w v z (int_eq z (pos 0)) refl t n

pub kind-there : (v : Value) → HasKind v (kind_of v)
kind-there (Truth b) = refl
kind-there (Short z) = kind-number width.Int (Short z) z refl refl
kind-there (Long z) = kind-number width.Dint (Long z) z refl refl
kind-there (Wide z) = kind-number width.Lint (Wide z) z refl refl
kind-there (Span n) = refl

-- ---- values by their types

pub truth-there : (v : Value) → type_of v ≡ elementary.Bool → (b : Bool) × (v ≡ Truth b)
truth-there (Truth b) e = (b, refl)
truth-there i e = absurd cc

pub span-there : (v : Value) → type_of v ≡ elementary.Time → (n : ℕ) × (v ≡ Span n)
span-there (Span n) e = (n, refl)
span-there i e = absurd cc

pub number-there : (w : Width) (v : Value) → type_of v ≡ type_of_width w
    → v ≡ value_of_width w (number_of v)
number-there w v h = grind (arith, common_steps)

pub combined-is : (c : Connective) (a b : Bool)
    → logic_word c (number_of (Truth a)) (number_of (Truth b)) ≡ number_of (Truth (logic_of c a b))
combined-is c a b = grind (arith, common_steps)
