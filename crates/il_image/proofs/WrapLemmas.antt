-- Numbers reduced into a width.
use Rattle.std.proofs.Common.{◌≡◌, ℕ, zero, suc, ◌%◌, ◌^◌, ◌<◌, ◌≤◌, ℤ, pos, negsuc, ◌+ℤ◌, ◌-ℤ◌, ◌*ℤ◌, neg_ℤ, unsigned_abs, FitsSigned, refl, ap, ◌∙◌, arith, int_div, int_rem}
use Rattle.std.specs.Int.{w16, w32, w64, int_wrap, int_rem_euclid, cast_signed, cast_unsigned, int_wrapping_add, int_wrapping_sub, int_wrapping_mul, int_wrapping_div}
use Rattle.std.proofs.lemmas.Int.{ints, of_z-to_z, int_wrap_fits, SFits-int_wrap, wrapping_add_is, wrapping_sub_is, wrapping_mul_is, quot-rem}
use Rattle.std.proofs.Math.Nat.{div-le_self}
use Rattle.il_image.specs.declared.arithmetic.Width.{Width}
use Rattle.il_image.specs.declared.arithmetic.Width.TheVariants as width
use Rattle.il_image.specs.Arithmetic.{wrap_to}

-- the rest of a number of 64 bits
rest-short : (z : ℤ) → FitsSigned w64 z
    → int_rem_euclid z (pos (2 ^ 16)) ≡ pos (cast_unsigned w64 z % 2 ^ 16)
rest-short (pos a) fits = refl
rest-short (negsuc a) fits = let h : a < 2 ^ 63 = fits.sfits in ap pos (omega arith)

rest-long : (z : ℤ) → FitsSigned w64 z
    → int_rem_euclid z (pos (2 ^ 32)) ≡ pos (cast_unsigned w64 z % 2 ^ 32)
rest-long (pos a) fits = refl
rest-long (negsuc a) fits = let h : a < 2 ^ 63 = fits.sfits in ap pos (omega arith)

pub wrap-short : (z : ℤ) → FitsSigned w64 z
    → wrap_to width.Int z ≡ cast_signed w16 (cast_unsigned w64 z % 2 ^ 16)
unfolding int_wrap
wrap-short z fits = ap (λ (x : ℤ). cast_signed w16 (unsigned_abs x)) (rest-short z fits)

pub wrap-long : (z : ℤ) → FitsSigned w64 z
    → wrap_to width.Dint z ≡ cast_signed w32 (cast_unsigned w64 z % 2 ^ 32)
unfolding int_wrap
wrap-long z fits = ap (λ (x : ℤ). cast_signed w32 (unsigned_abs x)) (rest-long z fits)

pub wrap-wide : (z : ℤ) → FitsSigned w64 z → wrap_to width.Lint z ≡ z
wrap-wide z fits = int_wrap_fits w64 z fits

-- ---- to wrap at 64 bits on the way changes nothing

under-short : (z : ℤ) → unsigned_abs (int_rem_euclid z (pos (2 ^ 64))) % 2 ^ 16
    ≡ unsigned_abs (int_rem_euclid z (pos (2 ^ 16)))
under-short (pos a) = omega arith
under-short (negsuc a) = omega arith

under-long : (z : ℤ) → unsigned_abs (int_rem_euclid z (pos (2 ^ 64))) % 2 ^ 32
    ≡ unsigned_abs (int_rem_euclid z (pos (2 ^ 32)))
under-long (pos a) = omega arith
under-long (negsuc a) = omega arith

below : (z : ℤ) → unsigned_abs (int_rem_euclid z (pos (2 ^ 64))) < 2 ^ 64
below (pos a) = omega arith
below (negsuc a) = omega arith

bits-left : (z : ℤ) → cast_unsigned w64 (int_wrap w64 z)
    ≡ unsigned_abs (int_rem_euclid z (pos (2 ^ 64)))
unfolding int_wrap
bits-left z = of_z-to_z w64 (unsigned_abs (int_rem_euclid z (pos (2 ^ 64)))) (below z)

pub wrap-wrap : (w : Width) (z : ℤ) → wrap_to w (int_wrap w64 z) ≡ wrap_to w z
unfolding int_wrap
wrap-wrap width.Int z =
    wrap-short (int_wrap w64 z) (SFits-int_wrap w64 z)
    ∙ ap (λ (m : ℕ). cast_signed w16 (m % 2 ^ 16)) (bits-left z)
    ∙ ap (cast_signed w16) (under-short z)
wrap-wrap width.Dint z =
    wrap-long (int_wrap w64 z) (SFits-int_wrap w64 z)
    ∙ ap (λ (m : ℕ). cast_signed w32 (m % 2 ^ 32)) (bits-left z)
    ∙ ap (cast_signed w32) (under-long z)
wrap-wrap width.Lint z = wrap-wide (int_wrap w64 z) (SFits-int_wrap w64 z)

-- ---- the operations

pub wrap-sum : (w : Width) (a b : ℤ) → FitsSigned w64 a → FitsSigned w64 b
    → wrap_to w (int_wrapping_add w64 a b) ≡ wrap_to w (a +ℤ b)
wrap-sum w a b f g = ap (wrap_to w) (wrapping_add_is w64 a b f g) ∙ wrap-wrap w (a +ℤ b)

pub wrap-difference : (w : Width) (a b : ℤ) → FitsSigned w64 a → FitsSigned w64 b
    → wrap_to w (int_wrapping_sub w64 a b) ≡ wrap_to w (a -ℤ b)
wrap-difference w a b f g = ap (wrap_to w) (wrapping_sub_is w64 a b f g) ∙ wrap-wrap w (a -ℤ b)

pub wrap-product : (w : Width) (a b : ℤ) → FitsSigned w64 a → FitsSigned w64 b
    → wrap_to w (int_wrapping_mul w64 a b) ≡ wrap_to w (a *ℤ b)
wrap-product w a b f g = ap (wrap_to w) (wrapping_mul_is w64 a b f g) ∙ wrap-wrap w (a *ℤ b)

-- a number of at most 64 bits in two's complement or without a sign
around : (z : ℤ) → unsigned_abs z ≤ 2 ^ 63 → cast_signed w64 (cast_unsigned w64 z) ≡ int_wrap w64 z
unfolding int_wrap
around (pos a) h = ap (cast_signed w64) (omega arith)
around (negsuc a) h = ap (cast_signed w64) (omega arith)

abs-neg : (n : ℕ) → unsigned_abs (neg_ℤ (pos n)) ≡ n
abs-neg zero = refl
abs-neg (suc n) = refl

quotient-within : (a b : ℤ) → FitsSigned w64 a → unsigned_abs (int_div a b) ≤ 2 ^ 63
quotient-within (pos a) (pos b) f = let h : a < 2 ^ 63 = f.sfits in omega (arith, div-le_self a b)
quotient-within (pos a) (negsuc b) f = let h : a < 2 ^ 63 =
    f.sfits in rw abs-neg (omega (arith, div-le_self a (suc b)))
quotient-within (negsuc a) (pos b) f = let h : a < 2 ^ 63 =
    f.sfits in rw abs-neg (omega (arith, div-le_self (suc a) b))
quotient-within (negsuc a) (negsuc b) f = let h : a < 2 ^ 63 =
    f.sfits in omega (arith, div-le_self (suc a) (suc b))

pub wrap-quotient : (w : Width) (a b : ℤ) → FitsSigned w64 a
    → wrap_to w (int_wrapping_div w64 a b) ≡ wrap_to w (int_div a b)
wrap-quotient w a b f =
    ap (wrap_to w) (around (int_div a b) (quotient-within a b f)) ∙ wrap-wrap w (int_div a b)

pub rest-is : (a b : ℤ) → int_rem a b ≡ a -ℤ (int_div a b *ℤ b)
rest-is a b = let e = quot-rem a b in omega (arith, ints, e)
