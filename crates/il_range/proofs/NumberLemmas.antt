-- Sums and differences of numbers in ranges.
use Rattle.std.proofs.Common.{◌≡◌, ℤ, pos, negsuc, ◌+ℤ◌, ◌-ℤ◌, Bool, true, false, cond, refl, sym, subst, arith, FitsSigned, Option, Some, None}
use Rattle.std.proofs.lemmas.Bool.{and_left, and_right}
use Rattle.std.specs.Prelude.{◌≤ℤ◌, ◌&&◌, SomeIff}
use Rattle.std.specs.Int.{w64}
use Rattle.std.proofs.lemmas.Grind.{common_steps}
use Rattle.std.proofs.lemmas.Int.{ints, int_wrap_fits, SFits-int_wrap}
use Rattle.il_image.specs.declared.arithmetic.ArithmeticOperation.{ArithmeticOperation}
use Rattle.il_image.specs.declared.arithmetic.ArithmeticOperation.TheVariants.{Add, Sub}
use Rattle.il_image.specs.declared.arithmetic.Width.{Width}
use Rattle.il_image.specs.declared.arithmetic.Width.TheVariants as width
use Rattle.il_image.specs.declared.value.Value.{Value}
use Rattle.il_image.specs.Arithmetic.{bits_of, computation_of, exact_result, wrap_to}
use Rattle.il_image.specs.Machine.{value_of_width}
use Rattle.il_image.specs.Values.{number_of}
use Rattle.il_range.specs.declared.range.Range.{Range}
use Rattle.il_range.specs.declared.range.Range.TheVariants.{Between}
use Rattle.il_range.specs.Effects.{full_range, compute_range, fits_in, greatest_of, least_of, wrap_range, wrapped_of}
use Rattle.il_range.specs.Ranges.{IsIn, Setting}

number-of-width : (w : Width) (z : ℤ) → number_of (value_of_width w z) ≡ z
number-of-width width.Int z = refl
number-of-width width.Dint z = refl
number-of-width width.Lint z = refl

in-between : (ps : Setting) (w : Width) (low high z : ℤ) → low ≤ℤ z → z ≤ℤ high
    → IsIn ps (value_of_width w z) (Between low high)
in-between ps w low high z h k =
    subst (λ (n : ℤ). (low ≤ℤ n) × (n ≤ℤ high)) (sym (number-of-width w z)) (h, k)

-- ---- the numbers of a width

bounds : (w : Width) (z : ℤ) → FitsSigned (bits_of w) z
    → (least_of w ≤ℤ z) × (z ≤ℤ greatest_of w)
bounds width.Int z f = (omega (arith, ints), omega (arith, ints))
bounds width.Dint z f = (omega (arith, ints), omega (arith, ints))
bounds width.Lint z f = (omega (arith, ints), omega (arith, ints))

fits-by : (w : Width) (z : ℤ) → least_of w ≤ℤ z → z ≤ℤ greatest_of w → FitsSigned (bits_of w) z
fits-by width.Int z h k = omega (arith, ints)
fits-by width.Dint z h k = omega (arith, ints)
fits-by width.Lint z h k = omega (arith, ints)

wrap-in : (ps : Setting) (w : Width) (z : ℤ)
    → IsIn ps (value_of_width w (wrap_to w z)) (full_range w)
wrap-in ps w z =
    let within = bounds w (wrap_to w z) (SFits-int_wrap (bits_of w) z) in
    in-between ps w (least_of w) (greatest_of w) (wrap_to w z) within.0 within.1

fit-bounds : (w : Width) (z : ℤ) → fits_in w z ≡ true → (least_of w ≤ℤ z) × (z ≤ℤ greatest_of w)
fit-bounds w z e = (grind (arith, ints, common_steps), grind (arith, ints, common_steps))

wrapped-in : (ps : Setting) (w : Width) (low high z : ℤ) → low ≤ℤ z → z ≤ℤ high
    → IsIn ps (value_of_width w (wrap_to w z)) (wrap_range w low high)
wrapped-in ps w low high z h k = go (fits_in w low) (fits_in w high) refl refl
  where
    go : (b c : Bool) → fits_in w low ≡ b → fits_in w high ≡ c
        → IsIn ps (value_of_width w (wrap_to w z)) (cond (b && c) (Between low high) (full_range w))
    go true true e f =
        let least : least_of w ≤ℤ low = (fit-bounds w low e).0 in
        let most : high ≤ℤ greatest_of w = (fit-bounds w high f).1 in
        let above : least_of w ≤ℤ z = omega (arith, ints) in
        let below : z ≤ℤ greatest_of w = omega (arith, ints) in
        subst (λ (n : ℤ). IsIn ps (value_of_width w n) (Between low high))
        (sym (int_wrap_fits (bits_of w) z (fits-by w z above below)))
        (in-between ps w low high z h k)
    go true false e f = wrap-in ps w z
    go false c e f = wrap-in ps w z

pub of-computed : (ps : Setting) (o : ArithmeticOperation) (w : Width) (v u : Value) (a b : ℤ)
    (r s : Range)
    → number_of v ≡ a → number_of u ≡ b → IsIn ps v r → IsIn ps u s
    → IsIn ps (value_of_width w (computation_of o w a b)) (compute_range o w r s)
of-computed ps Add w v u a b (Between l m) (Between c d) e f h k =
    let least : l ≤ℤ number_of v = h.0 in let most : number_of v ≤ℤ m = h.1 in
    let lower : c ≤ℤ number_of u = k.0 in let upper : number_of u ≤ℤ d = k.1 in
    wrapped-in ps w (l +ℤ c) (m +ℤ d) (a +ℤ b) (omega (arith, ints)) (omega (arith, ints))
of-computed ps Sub w v u a b (Between l m) (Between c d) e f h k =
    let least : l ≤ℤ number_of v = h.0 in let most : number_of v ≤ℤ m = h.1 in
    let lower : c ≤ℤ number_of u = k.0 in let upper : number_of u ≤ℤ d = k.1 in
    wrapped-in ps w (l -ℤ d) (m -ℤ c) (a -ℤ b) (omega (arith, ints)) (omega (arith, ints))
of-computed ps o w v u a b r s e f h k = wrap-in ps w (exact_result o a b)

-- ---- numbers that 64 bits may not hold

-- a number of a width is one of 64 bits
wide : (w : Width) (z : ℤ) → (least_of w ≤ℤ z) × (z ≤ℤ greatest_of w) → FitsSigned w64 z
wide width.Int z b = let h : negsuc 0x7FFF ≤ℤ z = b.0 in let k : z ≤ℤ pos 0x7FFF = b.1 in
    omega (arith, ints)
wide width.Dint z b = let h : negsuc 0x7FFF_FFFF ≤ℤ z = b.0 in
    let k : z ≤ℤ pos 0x7FFF_FFFF = b.1 in omega (arith, ints)
wide width.Lint z b = fits-by width.Lint z b.0 b.1

out-of : (w : Width) (z : ℤ) → (FitsSigned w64 z → ⊥) → fits_in w z ≡ false
out-of w z no_fit = go (fits_in w z) refl
  where
    go : (b : Bool) → fits_in w z ≡ b → b ≡ false
    go false e = refl
    go true e = absurd (no_fit (wide w z (fit-bounds w z e)))

unwrapped : (b c : Bool) (w : Width) (low high : ℤ) → (b && c) ≡ false
    → full_range w ≡ cond (b && c) (Between low high) (full_range w)
unwrapped b c w low high e = grind (arith, common_steps)

pub wrapped-by : (w : Width) (low high : Option ℤ) (x y : ℤ) → SomeIff low (FitsSigned w64 x) x
    → SomeIff high (FitsSigned w64 y) y → wrapped_of w low high ≡ wrap_range w x y
wrapped-by w (Some a) (Some b) x y h k =
    let left : a ≡ x = h.1 in let right : b ≡ y = k.1 in cc
wrapped-by w (Some a) None x y h k =
    unwrapped (fits_in w x) (fits_in w y) w x y
    (and_right (fits_in w x) (fits_in w y) (out-of w y k))
wrapped-by w None high x y h k =
    unwrapped (fits_in w x) (fits_in w y) w x y
    (and_left (fits_in w x) (fits_in w y) (out-of w x h))
