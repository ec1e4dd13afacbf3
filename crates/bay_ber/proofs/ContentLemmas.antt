-- The contents of the simple types.
use Rattle.std.proofs.Common.{◌≡◌, ℕ, ℤ, ◌+◌, ◌*◌, ◌^◌, ◌<◌, ◌≤◌, ◌-◌, pos, negsuc, ◌-ℤ◌, true, FitsSigned, Some, None, option_map, List, [], ◌∷◌, length, get_or, take, drop, Result, Ok, Err, IfOk, refl, sym, ap, subst, ◌∙◌, arith}
use Rattle.std.specs.Prelude.{IfErr, IsOkAnd}
use Rattle.std.specs.Int.{w64}
use Rattle.std.specs.Result.{result_ok}
use Rattle.std.proofs.lemmas.Int.{ints}
use Rattle.std.proofs.lemmas.Bool.{lt-ltb, le-ltb, ltb-true, cond-true, cond-false, false_from_ne_true, and_parts}
use Rattle.std.proofs.lemmas.List.{take_rest}
use Rattle.bay_ber.specs.declared.fault.BerFault.{BerFault}
use Rattle.bay_ber.specs.declared.fault.BerFault.TheVariants.{BadContent}
use Rattle.bay_ber.specs.declared.content.Bits.{Bits}
use Rattle.bay_ber.specs.Octets.{number_of}
use Rattle.bay_ber.specs.Content.{signed_of, IsInteger, HasBits, IsBits, BitString, bit_string_view, fits_64_bits, is_integer, integer_in, is_unused_count, bits_in}

-- octets whose first is below 128 are not negative
pub signed_of-low : (octets : List ℕ) → 0 < length octets → get_or octets 0 0 < 128
    → signed_of octets ≡ pos (number_of octets)
signed_of-low [] some low = absurd (omega arith)
signed_of-low (first ∷ octets) some low = rw (lt-ltb first 128 low) refl

pub signed_of-high : (octets : List ℕ) → 0 < length octets → 128 ≤ get_or octets 0 0
    → signed_of octets ≡ pos (number_of octets) -ℤ pos (256 ^ length octets)
signed_of-high [] some high = absurd (omega arith)
signed_of-high (first ∷ octets) some high = rw (le-ltb first 128 high) refl

pub whole-content : (content : List ℕ) → 1 ≤ length content
    → content ≡ get_or content 0 0 ∷ take (length content - 1) (drop 1 content)
whole-content [] some = absurd (omega arith)
whole-content (first ∷ octets) some =
    ap (λ (xs : List ℕ). first ∷ xs) (sym (take_rest (first ∷ octets) 1))

-- the bits behind the first octet are those of the content
pub bits-only : (content : List ℕ) (unused : ℕ) (behind : List ℕ) (result : Result Bits BerFault)
    → content ≡ unused ∷ behind
    → IfOk result (λ bits. (bits.octets.now ≡ behind) × HasBits unused behind bits.count)
    → IfErr result (λ fault. (fault ≡ BadContent) × ((count : ℕ) → HasBits unused behind count → ⊥))
    → (b : BitString) → IsBits content b.octets b.count
    → IsOkAnd result (λ bits. bit_string_view bits ≡ b)
bits-only content unused behind (Ok bits) whole ok err b is =
    let at : IsBits (unused ∷ behind) b.octets b.count =
    subst (λ (xs : List ℕ). IsBits xs b.octets b.count) whole is in
    let octets : bits.octets.now ≡ b.octets = ok.0 ∙ sym at.0 in
    let count : bits.count ≡ b.count = omega (arith, ok.1.filled, at.1.filled) in
    rw (octets, count) refl
bits-only content unused behind (Err fault) whole ok err b is =
    let at : IsBits (unused ∷ behind) b.octets b.count =
    subst (λ (xs : List ℕ). IsBits xs b.octets b.count) whole is in
    absurd (err.1 b.count at.1)

pub bits-err : (content : List ℕ) (unused : ℕ) (behind : List ℕ) (result : Result Bits BerFault)
    → content ≡ unused ∷ behind
    → IfErr result (λ fault. (fault ≡ BadContent) × ((count : ℕ) → HasBits unused behind count → ⊥))
    → IfErr result (λ fault. (fault ≡ BadContent)
    × ((octets : List ℕ) (count : ℕ) → IsBits content octets count → ⊥))
bits-err content unused behind (Ok bits) whole err = tt
bits-err content unused behind (Err fault) whole err = (
  err.0,
  λ octets count is. err.1 count
      (let at : IsBits (unused ∷ behind) octets count =
      subst (λ (xs : List ℕ). IsBits xs octets count) whole is in at.1),
)

-- ---- the functions are the relations

long-yes : (z : ℤ) → FitsSigned w64 z → fits_64_bits z ≡ true
long-yes (pos n) fits = lt-ltb _ _ (omega (arith, ints))
long-yes (negsuc n) fits = lt-ltb _ _ (omega (arith, ints))

long_is : (z : ℤ) → fits_64_bits z ≡ true → FitsSigned w64 z
long_is (pos n) e = let b : n < 9223372036854775808 = ltb-true _ _ e in omega (arith, ints)
long_is (negsuc n) e = let b : n < 9223372036854775808 = ltb-true _ _ e in omega (arith, ints)

integer-yes : (content : List ℕ) (value : ℤ) → IsInteger content value → is_integer content ≡ true
unfolding is_integer
integer-yes content value is =
    let fits : FitsSigned w64 (signed_of content) = subst (FitsSigned w64) is.is is.fits in
    rw (
      lt-ltb 0 (length content) is.some,
      lt-ltb (length content) 10 (let f = is.few in omega arith),
      long-yes (signed_of content) fits,
    ) refl

pub integer-is : (content : List ℕ) → is_integer content ≡ true
    → IsInteger content (signed_of content)
unfolding is_integer
integer-is content e =
    let a = and_parts _ _ e in
    let b = and_parts _ _ a.1 in
    record {
      some = ltb-true _ _ a.0;
      few = (let f : length content < 10 = ltb-true _ _ b.0 in omega arith);
      is = refl;
      fits = long_is (signed_of content) b.1;
    }

pub integer-again : (content : List ℕ) (value : ℤ) → IsInteger content value
    → integer_in content ≡ Some value
integer-again content value is =
    cond-true (is_integer content) (Some (signed_of content)) None (integer-yes content value is)
    ∙ ap Some (sym is.is)

pub integer-exact : (content : List ℕ) (result : Result ℤ BerFault)
    → IfOk result (λ value. IsInteger content value)
    → IfErr result (λ fault. (fault ≡ BadContent) × ((value : ℤ) → IsInteger content value → ⊥))
    → result_ok result ≡ integer_in content
integer-exact content (Ok value) ok err =
    sym (cond-true (is_integer content) (Some (signed_of content)) None
    (integer-yes content value ok) ∙ ap Some (sym ok.is))
integer-exact content (Err fault) ok err =
    sym (cond-false (is_integer content) (Some (signed_of content)) None
    (false_from_ne_true (is_integer content)
    (λ e. err.1 (signed_of content) (integer-is content e))))

pub unused-yes : (unused : ℕ) (octets : List ℕ) (count : ℕ) → HasBits unused octets count
    → is_unused_count unused octets ≡ true
unfolding is_unused_count
unused-yes unused octets count h =
    rw (
      lt-ltb unused 8 (let f = h.few in omega arith),
      lt-ltb unused (8 * length octets + 1) (let f = h.filled in omega arith),
      lt-ltb (length octets) 2305843009213693952 (let f = h.within in omega arith),
    ) refl

pub unused-is : (unused : ℕ) (octets : List ℕ) → is_unused_count unused octets ≡ true
    → HasBits unused octets (8 * length octets - unused)
unfolding is_unused_count
unused-is unused octets e =
    let a = and_parts _ _ e in
    let b = and_parts _ _ a.1 in
    let few : unused < 8 = ltb-true _ _ a.0 in
    let filled : unused < 8 * length octets + 1 = ltb-true _ _ b.0 in
    let within : length octets < 2305843009213693952 = ltb-true _ _ b.1 in
    record { few = omega arith; filled = omega arith; within = omega arith }

bits-at : (unused : ℕ) (behind : List ℕ) (result : Result Bits BerFault)
    → IfOk result (λ bits. (bits.octets.now ≡ behind) × HasBits unused behind bits.count)
    → IfErr result (λ fault. (fault ≡ BadContent) × ((count : ℕ) → HasBits unused behind count → ⊥))
    → option_map bit_string_view (result_ok result) ≡ bits_in (unused ∷ behind)
bits-at unused behind (Ok bits) ok err =
    let count : bits.count ≡ 8 * length behind - unused = (let f = ok.1.filled in omega arith) in
    let same : bit_string_view bits
    ≡ record { octets = behind; count = 8 * length behind - unused } =
    rw (ok.0, count) refl in
    ap Some same ∙ sym (cond-true (is_unused_count unused behind)
    (Some (record { octets = behind; count = 8 * length behind - unused })) None
    (unused-yes unused behind bits.count ok.1))
bits-at unused behind (Err fault) ok err =
    sym (cond-false (is_unused_count unused behind)
    (Some (record { octets = behind; count = 8 * length behind - unused })) None
    (false_from_ne_true (is_unused_count unused behind)
    (λ e. err.1 (8 * length behind - unused) (unused-is unused behind e))))

pub bits-exact : (content : List ℕ) (unused : ℕ) (behind : List ℕ) (result : Result Bits BerFault)
    → content ≡ unused ∷ behind
    → IfOk result (λ bits. (bits.octets.now ≡ behind) × HasBits unused behind bits.count)
    → IfErr result (λ fault. (fault ≡ BadContent) × ((count : ℕ) → HasBits unused behind count → ⊥))
    → option_map bit_string_view (result_ok result) ≡ bits_in content
bits-exact content unused behind result whole ok err =
    bits-at unused behind result ok err ∙ ap bits_in (sym whole)
