-- What is written is spelled, and no spelling is shorter.
use Rattle.std.proofs.Common.{◌≡◌, ℕ, suc, ◌+◌, ◌-◌, ◌*◌, ◌/◌, ◌%◌, ◌^◌, ◌<◌, ◌≤◌, ℤ, pos, negsuc, ◌-ℤ◌, FitsSigned, Bool, true, false, cond, eqb, ltb, List, [], ◌∷◌, ◌++◌, length, get_or, take, fold, refl, sym, ap, ◌∙◌, arith, inl, inr}
use Rattle.std.specs.Int.{w64, bytes_high_first, to_be_bytes, from_be_bytes, cast_unsigned}
use Rattle.std.proofs.lemmas.Bool.{cases_lt, ltb-true, ltb-false, lt-ltb, le-ltb, eqb-true, eqb-false}
use Rattle.std.proofs.lemmas.Int.{ints}
use Rattle.std.proofs.lemmas.List.{length-append, length-take-le}
use Rattle.std.proofs.lemmas.Nat.{from_be_bytes-to_be_bytes_8, mul-add-lt}
use Rattle.std.proofs.Math.Nat.{pow-suc}
use Rattle.bay_ber.specs.declared.tag.Tag.{Tag}
use Rattle.bay_ber.specs.Octets.{number_of}
use Rattle.bay_ber.specs.Spelling.{octet_of, IsLength, Spells}
use Rattle.bay_ber.specs.Reading.{BeginsWithTlv}
use Rattle.bay_ber.specs.Content.{signed_of, IsInteger, HasBits, IsBits, IsTruth}
use Rattle.bay_ber.specs.Writing.{octets_needed, length_octets, element, truth_octets, is_needless, without_needless, integer_octets, with_unused_clear, bit_octets, bit_string_octets}
use Rattle.bay_ber.proofs.ContentLemmas.{signed_of-low, signed_of-high}
use Rattle.bay_ber.proofs.ReadLemmas.{IsBytes, chosen}

-- ---- lengths

pub octets_needed-1 : (n : ℕ) → n < 256 → octets_needed n ≡ 1
octets_needed-1 n lt = rw (lt-ltb n 256 lt) refl

pub octets_needed-2 : (n : ℕ) → 256 ≤ n → n < 65536 → octets_needed n ≡ 2
octets_needed-2 n ge lt = rw (le-ltb n 256 ge, lt-ltb n 65536 lt) refl

pub octets_needed-3 : (n : ℕ) → 65536 ≤ n → n < 16777216 → octets_needed n ≡ 3
octets_needed-3 n ge lt =
    rw (le-ltb n 256 (omega arith), le-ltb n 65536 ge, lt-ltb n 16777216 lt) refl

pub octets_needed-4 : (n : ℕ) → 16777216 ≤ n → octets_needed n ≡ 4
octets_needed-4 n ge =
    rw (le-ltb n 256 (omega arith), le-ltb n 65536 (omega arith), le-ltb n 16777216 ge) refl

pub long_is : (n k : ℕ) → octets_needed n ≡ k → 128 ≤ n
    → length_octets n ≡ (128 + k) ∷ bytes_high_first k n
unfolding length_octets
long_is n k needed ge = rw (le-ltb n 128 ge, needed) refl

is_long : (n k : ℕ) → octets_needed n ≡ k → 128 ≤ n → IsLength ((128 + k) ∷ bytes_high_first k n) n
    → IsLength (length_octets n) n
is_long n k needed ge is = rw (long_is n k needed ge) is

pub length-is : (n : ℕ) → n < 2 ^ 32 → IsLength (length_octets n) n
unfolding length_octets
length-is n lt =
    elim (cases_lt n 128) [
      | inl small ↦ rw (lt-ltb n 128 small) (small, refl)
      | inr ge ↦ elim (cases_lt n 256) [
        | inl a ↦ is_long n 1 (octets_needed-1 n a) ge (refl, omega arith, omega arith)
        | inr a ↦ elim (cases_lt n 65536) [
          | inl b ↦ is_long n 2 (octets_needed-2 n a b) ge (refl, omega arith, omega arith)
          | inr b ↦ elim (cases_lt n 16777216) [
            | inl d ↦ is_long n 3 (octets_needed-3 n b d) ge (refl, omega arith, omega arith)
            | inr d ↦ is_long n 4 (octets_needed-4 n d) ge (refl, omega arith, omega arith)
          ]
        ]
      ]
    ]

-- ---- values

pub element-spells : (tag : Tag) (content : List ℕ) → tag.number < 31 → length content < 2 ^ 32
    → Spells (element tag content) tag content
unfolding element
element-spells tag content low short = record {
  front = octet_of tag ∷ [];
  len = length_octets (length content);
  is_tag = (low, refl);
  is_length = length-is (length content) short;
  parts = refl;
}

pub element-begins : (tag : Tag) (content rest : List ℕ) → tag.number < 31 → length content < 2 ^ 32
    → BeginsWithTlv (element tag content ++ rest)
    (record { tag = tag; content = content; rest = rest })
element-begins tag content rest low short = record {
  front = element tag content;
  spelled = element-spells tag content low short;
  parts = refl;
}

-- ---- truth values

pub truth-is : (value : Bool) → IsTruth (truth_octets value) value
truth-is true = omega arith
truth-is false = refl

-- ---- integers

abbrev step : ℕ → ℕ → ℕ
step high octet = high * 256 + octet

carried : (h x p n : ℕ) → (h * 256 + x) * p + n ≡ h * (p * 256) + ((0 * 256 + x) * p + n)
carried h x p n = grind arith

-- octets behind a number
number_from : (h : ℕ) (octets : List ℕ)
    → fold step h octets ≡ h * 256 ^ length octets + number_of octets
number_from h [] = omega arith
number_from h (x ∷ octets) =
    let a = number_from (h * 256 + x) octets in
    let b = number_from (0 * 256 + x) octets in
    a ∙ carried h x (256 ^ length octets) (number_of octets)
    ∙ rw (← pow-suc 256 (length octets), ← b) refl

pub number_of-cons : (x : ℕ) (octets : List ℕ)
    → number_of (x ∷ octets) ≡ x * 256 ^ length octets + number_of octets
number_of-cons x octets =
    number_from (0 * 256 + x) octets ∙ rw (let e : 0 * 256 + x ≡ x = omega arith in e) refl

pub number_of-below : (octets : List ℕ) → IsBytes octets → number_of octets < 256 ^ length octets
number_of-below [] fits = omega arith
number_of-below (x ∷ octets) fits =
    let rest = number_of-below octets (λ i. fits (suc i)) in
    rw (number_of-cons x octets, pow-suc 256 (length octets))
    (mul-add-lt x (256 ^ length octets) (number_of octets) 256 (fits 0) rest)

-- a needless octet changes nothing
needless-same : (first second : ℕ) (octets : List ℕ) → is_needless first second ≡ true
    → signed_of (first ∷ second ∷ octets) ≡ signed_of (second ∷ octets)
needless-same first second octets needless =
    let p = 256 ^ length (second ∷ octets) in
    let n = number_of (second ∷ octets) in
    elim (chosen (ltb second 128) (eqb first 0) (eqb first 255) true needless) [
      | inl low ↦
          let zero : first ≡ 0 = eqb-true first 0 low.1 in
          let whole : number_of (first ∷ second ∷ octets) ≡ n =
          number_of-cons first (second ∷ octets) ∙ rw zero (omega arith) in
          signed_of-low (first ∷ second ∷ octets) (omega arith) (omega arith) ∙ ap pos whole
          ∙ sym (signed_of-low (second ∷ octets) (omega arith) (ltb-true _ _ low.0))
      | inr high ↦
          let ones : first ≡ 255 = eqb-true first 255 high.1 in
          let whole : number_of (first ∷ second ∷ octets) ≡ 255 * p + n =
          number_of-cons first (second ∷ octets) ∙ rw ones refl in
          let size : 256 ^ length (first ∷ second ∷ octets) ≡ p * 256 =
          pow-suc 256 (length (second ∷ octets)) in
          signed_of-high (first ∷ second ∷ octets) (omega arith) (omega arith)
          ∙ rw (whole, size) (omega (arith, ints))
          ∙ sym (signed_of-high (second ∷ octets) (omega arith) (ltb-false _ _ high.0))
    ]

needless-either : (b : Bool) (first second : ℕ) (octets tight : List ℕ)
    → is_needless first second ≡ b → signed_of tight ≡ signed_of (second ∷ octets)
    → signed_of (cond b tight (first ∷ second ∷ octets)) ≡ signed_of (first ∷ second ∷ octets)
needless-either true first second octets tight is same =
    same ∙ sym (needless-same first second octets is)
needless-either false first second octets tight is same = refl

without_needless-same : (octets : List ℕ) → signed_of (without_needless octets) ≡ signed_of octets
without_needless-same [] = refl
without_needless-same (first ∷ []) = refl
without_needless-same (first ∷ second ∷ octets) =
    needless-either (is_needless first second) first second octets
    (without_needless (second ∷ octets)) refl (without_needless-same (second ∷ octets))

length-either : (b : Bool) (first second : ℕ) (octets tight : List ℕ)
    → (0 < length tight) × (length tight ≤ length (second ∷ octets))
    → (0 < length (cond b tight (first ∷ second ∷ octets)))
    × (length (cond b tight (first ∷ second ∷ octets)) ≤ length (first ∷ second ∷ octets))
length-either true first second octets tight h = (h.0, omega (arith, h.1))
length-either false first second octets tight h = (omega arith, omega arith)

pub length-without_needless : (octets : List ℕ) → 0 < length octets
    → (0 < length (without_needless octets)) × (length (without_needless octets) ≤ length octets)
length-without_needless [] some = absurd (omega arith)
length-without_needless (first ∷ []) some = (omega arith, omega arith)
length-without_needless (first ∷ second ∷ octets) some =
    length-either (is_needless first second) first second octets
    (without_needless (second ∷ octets)) (length-without_needless (second ∷ octets) (omega arith))

eight : (a b c d e f g h : ℕ)
    → number_of (a ∷ b ∷ c ∷ d ∷ e ∷ f ∷ g ∷ h ∷ [])
    ≡ from_be_bytes w64 (a ∷ b ∷ c ∷ d ∷ e ∷ f ∷ g ∷ h ∷ [])
eight a b c d e f g h = omega arith

number_of-bytes : (n : ℕ) → n < 2 ^ 64 → number_of (to_be_bytes w64 n) ≡ n
number_of-bytes n lt = eight _ _ _ _ _ _ _ _ ∙ from_be_bytes-to_be_bytes_8 n lt

below-zero : (m n p : ℕ) → m + suc n ≡ p → pos m -ℤ pos p ≡ negsuc n
below-zero m n p is = omega (arith, ints)

signed_of-bytes : (value : ℤ) → FitsSigned w64 value
    → signed_of (to_be_bytes w64 (cast_unsigned w64 value)) ≡ value
signed_of-bytes (pos n) fits =
    let small : n < 2 ^ 63 = fits.sfits in
    signed_of-low (to_be_bytes w64 n) (omega arith) (omega arith)
    ∙ ap pos (number_of-bytes n (omega arith))
signed_of-bytes (negsuc n) fits =
    let small : n < 2 ^ 63 = fits.sfits in
    let m = 2 ^ 64 - suc n in
    signed_of-high (to_be_bytes w64 m) (omega arith) (omega arith)
    ∙ below-zero (number_of (to_be_bytes w64 m)) n (2 ^ 64)
    (rw (number_of-bytes m (omega arith)) (omega arith))

pub integer-is : (value : ℤ) → FitsSigned w64 value → IsInteger (integer_octets value) value
integer-is value fits =
    let all = to_be_bytes w64 (cast_unsigned w64 value) in
    let size = length-without_needless all (omega arith) in
    record {
      some = size.0;
      few = omega (arith, size.1);
      is = sym (without_needless-same all ∙ signed_of-bytes value fits);
      fits = fits;
    }

-- ---- bit strings

held : (octets : List ℕ) (count whole left : ℕ) → whole ≡ count / 8 → left ≡ count % 8
    → count ≤ 8 * length octets → count < 2 ^ 35 → (b : Bool) → eqb left 0 ≡ b
    → HasBits (cond b 0 (8 - left))
    (cond b (take whole octets)
    (take whole octets ++ with_unused_clear (8 - left) (get_or octets whole 0) ∷ [])) count
held octets count whole left w l enough short true is =
    let none : left ≡ 0 = eqb-true left 0 is in
    let size : length (take whole octets) ≡ whole = length-take-le whole octets (omega arith) in
    record { few = omega arith; filled = omega arith; within = omega arith }
held octets count whole left w l enough short false is =
    let other : (left ≡ 0) → ⊥ = eqb-false left 0 is in
    let size : length (take whole octets) ≡ whole = length-take-le whole octets (omega arith) in
    let all : length (take whole octets
    ++ with_unused_clear (8 - left) (get_or octets whole 0) ∷ [])
    ≡ length (take whole octets) + 1 =
    length-append (take whole octets) (with_unused_clear (8 - left) (get_or octets whole 0) ∷ []) in
    record { few = omega arith; filled = omega arith; within = omega arith }

pub bit-string-is : (octets : List ℕ) (count : ℕ) → count ≤ 8 * length octets → count < 2 ^ 35
    → IsBits (bit_string_octets octets count) (bit_octets octets count) count
bit-string-is octets count enough short = (
  refl,
  held octets count (count / 8) (count % 8) refl refl enough short (eqb (count % 8) 0)
      refl,
)

-- ---- nesting in place
