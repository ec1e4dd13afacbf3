-- The machine's arithmetic and comparisons are those of the integers.
use Rattle.std.proofs.Common.{◌≡◌, ◌↔◌, ◌⊎◌, ℕ, zero, suc, ◌+◌, ◌-◌, ◌*◌, ◌/◌, ◌%◌, ◌^◌, ◌<◌, ◌≤◌, ℤ, pos, negsuc, ◌+ℤ◌, ◌-ℤ◌, ◌*ℤ◌, ◌≤ℤ◌, neg_ℤ, unsigned_abs, int_div, Bool as Truth, true, false, ltb, inl, inr, refl, sym, ap, subst, ◌∙◌, arith}
use Rattle.std.specs.Int.{int_rem_euclid, int_wrap}
use Rattle.std.proofs.lemmas.Int.{ints}
use Rattle.std.proofs.Math.Nat.{div-add-mod', div-mul-le_self, le-div_iff_mul-le, mod-lt}
use mir.Val.{sel}
use Rattle.il_text.specs.declared.program.Operator.{Operator}
use Rattle.il_text.specs.declared.program.Operator.TheVariants as operator
use Rattle.il_image.specs.Arithmetic.{DividesBy, computation_of, type_of_width, wrap_to}
use Rattle.il_image.specs.declared.arithmetic.ArithmeticOperation.{ArithmeticOperation}
use Rattle.il_image.specs.declared.arithmetic.ArithmeticOperation.TheVariants.{Add, Sub, Mul, Div, Mod}
use Rattle.il_image.specs.declared.arithmetic.Width.{Width}
use Rattle.il_image.specs.declared.arithmetic.Width.TheVariants.{Int, Dint, Lint}
use Rattle.il_compile.specs.OperatorClasses.{computes, class_of}
use Rattle.il_standard_laws.specs.Integers.{HasSign, IsOutcome, IsQuotient, IsReduced, value_count}
use Rattle.il_standard_laws.specs.Table.{IsNumberOf}

-- ---- reduced into a type

-- what two's complement makes of a number below m is this number, or m less
near : (b : Truth) (n m : ℕ) → n < m
    → (pos n ≡ sel b (pos n) (negsuc (m - suc n)))
    ⊎ (pos n ≡ sel b (pos n) (negsuc (m - suc n)) +ℤ pos m)
near true n m lt = inl refl
near false n m lt = inr (omega (arith, ints))

above : (a m : ℕ) (r : ℤ) → (pos (a % m) ≡ r) ⊎ (pos (a % m) ≡ r +ℤ pos m)
    → (times : ℤ) × (pos a ≡ r +ℤ times *ℤ pos m)
above a m r (inl e) = (pos (a / m), omega (arith, ints, div-add-mod' a m))
above a m r (inr e) = (pos (a / m + 1), omega (arith, ints, div-add-mod' a m))

below : (a q rest m : ℕ) (r : ℤ) → q * m + rest ≡ a → rest < m
    → (pos (m - 1 - rest) ≡ r) ⊎ (pos (m - 1 - rest) ≡ r +ℤ pos m)
    → (times : ℤ) × (negsuc a ≡ r +ℤ times *ℤ pos m)
below a q rest m r is lt (inl e) = (negsuc q, omega (arith, ints))
below a zero rest m r is lt (inr e) = (pos 0, omega (arith, ints))
below a (suc q) rest m r is lt (inr e) = (negsuc q, omega (arith, ints))

differs : (b : ℕ → Truth) (m : ℕ) (z : ℤ) → 0 < m →
    let n = unsigned_abs (int_rem_euclid z (pos m)) in
    (times : ℤ) × (z ≡ sel (b n) (pos n) (negsuc (m - suc n)) +ℤ times *ℤ pos m)
differs b m (pos a) some = above a m _ (near (b (a % m)) (a % m) m (mod-lt a some))
differs b m (negsuc a) some =
    let lt : a % m < m = mod-lt a some in
    below a (a / m) (a % m) m _ (div-add-mod' a m) lt
    (near (b (m - 1 - a % m)) (m - 1 - a % m) m (omega arith))

wrapped-within : (w : Width) (z : ℤ) → IsNumberOf (type_of_width w) (wrap_to w z)
unfolding int_wrap
wrapped-within Int (pos a) = (omega (arith, ints), omega (arith, ints))
wrapped-within Int (negsuc a) = (omega (arith, ints), omega (arith, ints))
wrapped-within Dint (pos a) = (omega (arith, ints), omega (arith, ints))
wrapped-within Dint (negsuc a) = (omega (arith, ints), omega (arith, ints))
wrapped-within Lint (pos a) = (omega (arith, ints), omega (arith, ints))
wrapped-within Lint (negsuc a) = (omega (arith, ints), omega (arith, ints))

wrapped-differs : (w : Width) (z : ℤ)
    → (times : ℤ) × (z ≡ wrap_to w z +ℤ times *ℤ pos (value_count (type_of_width w)))
unfolding int_wrap
wrapped-differs Int z = differs (λ n. ltb n (2 ^ 15)) 65_536 z (omega arith)
wrapped-differs Dint z = differs (λ n. ltb n (2 ^ 31)) 4_294_967_296 z (omega arith)
wrapped-differs Lint z = differs (λ n. ltb n (2 ^ 63)) 18_446_744_073_709_551_616 z (omega arith)

-- two numbers of a type that differ by a multiple of how many it has are one
reduced-once : (w : Width) (exact y z : ℤ) → IsReduced (type_of_width w) exact y
    → IsReduced (type_of_width w) exact z → y ≡ z
reduced-once Int exact y z h k =
    let e = h.1.1 in let f = k.1.1 in omega (arith, ints, h.0, k.0, e, f)
reduced-once Dint exact y z h k =
    let e = h.1.1 in let f = k.1.1 in omega (arith, ints, h.0, k.0, e, f)
reduced-once Lint exact y z h k =
    let e = h.1.1 in let f = k.1.1 in omega (arith, ints, h.0, k.0, e, f)

pub wraps : (w : Width) (exact z : ℤ)
    → (wrap_to w exact ≡ z) ↔ IsReduced (type_of_width w) exact z
wraps w exact z =
    let here : IsReduced (type_of_width w) exact (wrap_to w exact) =
    (wrapped-within w exact, wrapped-differs w exact) in (
      λ e. subst (IsReduced (type_of_width w) exact) e here,
      λ h. reduced-once w exact (wrap_to w exact) z here h,
    )

-- ---- quotients

-- how often one number is in another
times-in : (a b n : ℕ) → 0 < b → n * b ≤ a → ((m : ℕ) → m * b ≤ a → m ≤ n) → n ≡ a / b
times-in a b n some le most =
    let low : a / b ≤ n = most (a / b) (div-mul-le_self a b) in
    let high : n ≤ a / b = (le-div_iff_mul-le some).1 le in
    omega arith

some-divisor : (b : ℤ) → (b ≡ pos 0 → ⊥) → 0 < unsigned_abs b
some-divisor (pos zero) h = absurd (h refl)
some-divisor (pos (suc b)) h = omega arith
some-divisor (negsuc b) h = omega arith

not-negative : (q : ℤ) → pos 0 ≤ℤ q → q ≡ pos (unsigned_abs q)
not-negative (pos n) h = refl
not-negative (negsuc n) h = absurd h.le

not-positive : (q : ℤ) → q ≤ℤ pos 0 → q ≡ neg_ℤ (pos (unsigned_abs q))
not-positive (pos zero) h = refl
not-positive (pos (suc n)) h = absurd (omega (arith, ints))
not-positive (negsuc n) h = refl

quotient-only : (a b q : ℤ) → (b ≡ pos 0 → ⊥) → IsQuotient a b q → int_div a b ≡ q
quotient-only (pos a) (pos b) q some h =
    ap pos (sym (times-in a b (unsigned_abs q) (some-divisor (pos b) some) h.below h.greatest))
    ∙ sym (not-negative q h.sign)
quotient-only (pos a) (negsuc b) q some h =
    ap (λ n. neg_ℤ (pos n))
    (sym (times-in a (suc b) (unsigned_abs q) (omega arith) h.below h.greatest))
    ∙ sym (not-positive q h.sign)
quotient-only (negsuc a) (pos b) q some h =
    ap (λ n. neg_ℤ (pos n))
    (sym (times-in (suc a) b (unsigned_abs q) (some-divisor (pos b) some) h.below h.greatest))
    ∙ sym (not-positive q h.sign)
quotient-only (negsuc a) (negsuc b) q some h =
    ap pos (sym (times-in (suc a) (suc b) (unsigned_abs q) (omega arith) h.below h.greatest))
    ∙ sym (not-negative q h.sign)

abs-neg : (n : ℕ) → unsigned_abs (neg_ℤ (pos n)) ≡ n
abs-neg zero = refl
abs-neg (suc n) = refl

neg-below : (n : ℕ) → neg_ℤ (pos n) ≤ℤ pos 0
neg-below zero = record { le = tt }
neg-below (suc n) = record { le = tt }

quotient-by : (a b q : ℤ) → 0 < unsigned_abs b
    → unsigned_abs q ≡ unsigned_abs a / unsigned_abs b → HasSign a b q → IsQuotient a b q
quotient-by a b q some e sign = record {
  below = rw e (div-mul-le_self (unsigned_abs a) (unsigned_abs b));
  greatest = λ m le. rw e ((le-div_iff_mul-le some).1 le);
  sign = sign;
}

quotient-of : (a b : ℤ) → (b ≡ pos 0 → ⊥) → IsQuotient a b (int_div a b)
quotient-of (pos a) (pos b) some =
    quotient-by (pos a) (pos b) (pos (a / b)) (some-divisor (pos b) some) refl
    (omega (arith, ints))
quotient-of (pos a) (negsuc b) some =
    quotient-by (pos a) (negsuc b) (neg_ℤ (pos (a / suc b))) (omega arith) (abs-neg _)
    (neg-below _)
quotient-of (negsuc a) (pos b) some =
    quotient-by (negsuc a) (pos b) (neg_ℤ (pos (suc a / b))) (some-divisor (pos b) some)
    (abs-neg _) (neg-below _)
quotient-of (negsuc a) (negsuc b) some =
    quotient-by (negsuc a) (negsuc b) (pos (suc a / suc b)) (omega arith) refl
    (omega (arith, ints))

pub no-quotient : (a q : ℤ) → IsQuotient a (pos 0) q → ⊥
no-quotient a q h = let e = h.greatest (unsigned_abs q + 1) (omega arith) in omega arith

-- ---- the operations

-- the machine's arithmetic is that of the standard
pub computed : (operator : Operator) (o : ArithmeticOperation) (w : Width) (a b z : ℤ)
    → class_of operator ≡ computes o → DividesBy o b
    → (computation_of o w a b ≡ z) ↔ IsOutcome operator (type_of_width w) a b z
computed operator.Add Add w a b z e d = wraps w (a +ℤ b) z
computed operator.Sub Sub w a b z e d = wraps w (a -ℤ b) z
computed operator.Mul Mul w a b z e d = wraps w (a *ℤ b) z
computed operator.Div Div w a b z e d = (
  λ f. (int_div a b, quotient-of a b d, (wraps w (int_div a b) z).0 f),
  λ h. ap (wrap_to w) (quotient-only a b h.0 d h.1) ∙ (wraps w h.0 z).1 h.2,
)
computed operator.Mod Mod w a b z e d = (
  λ f. (int_div a b, quotient-of a b d, (wraps w (a -ℤ (int_div a b *ℤ b)) z).0 f),
  λ h. ap (λ q. wrap_to w (a -ℤ (q *ℤ b))) (quotient-only a b h.0 d h.1)
      ∙ (wraps w (a -ℤ (h.0 *ℤ b)) z).1 h.2,
)
computed operator o w a b z e d = absurd (cc)
