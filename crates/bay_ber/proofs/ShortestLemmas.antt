-- No spelling is shorter than the canonical one.
use Rattle.std.proofs.Common.{◌≡◌, ℕ, zero, suc, ◌+◌, ◌*◌, ◌^◌, ◌<◌, ◌≤◌, ℤ, pos, neg_ℤ, ◌-ℤ◌, ◌≤ℤ◌, ◌<ℤ◌, Bool, true, false, cond, eqb, ltb, List, [], ◌∷◌, ◌++◌, length, refl, sym, ap, subst, ◌∙◌, arith, ◌⊎◌, inl, inr}
use Rattle.std.specs.Int.{w64, byte_at, bytes_high_first, to_be_bytes, cast_unsigned}
use Rattle.std.proofs.lemmas.Bool.{cases_lt, ltb-true, ltb-false, lt-ltb, eqb-false}
use Rattle.std.proofs.lemmas.Int.{ints}
use Rattle.std.proofs.lemmas.List.{length-append, get_or_append_left, get_or-append-add, get_or_past}
use Rattle.std.proofs.lemmas.Nat.{mul-add-lt, mul-le}
use Rattle.std.proofs.Math.Nat.{pow-suc}
use Rattle.bay_ber.specs.declared.tag.Tag.{Tag}
use Rattle.bay_ber.specs.Octets.{number_of}
use Rattle.bay_ber.specs.Spelling.{IsLength, Spells}
use Rattle.bay_ber.specs.Content.{signed_of, IsInteger}
use Rattle.bay_ber.specs.Writing.{octets_needed, length_octets, element, is_needless, without_needless, integer_octets}
use Rattle.bay_ber.proofs.ContentLemmas.{signed_of-low, signed_of-high}
use Rattle.bay_ber.proofs.OctetLemmas.{pow-within}
use Rattle.bay_ber.proofs.ReadLemmas.{IsBytes, chosen, tag-some}
use Rattle.bay_ber.proofs.WriteLemmas.{octets_needed-1, octets_needed-2, octets_needed-3, octets_needed-4, long_is, number_of-cons, number_of-below, integer-is}

-- ---- lengths and values

pub few-needed : (n : ℕ) → octets_needed n ≤ 4
few-needed n =
    elim (cases_lt n 256) [
      | inl a ↦ omega (arith, octets_needed-1 n a)
      | inr a ↦ elim (cases_lt n 65536) [
        | inl b ↦ omega (arith, octets_needed-2 n a b)
        | inr b ↦ elim (cases_lt n 16777216) [
          | inl d ↦ omega (arith, octets_needed-3 n b d)
          | inr d ↦ omega (arith, octets_needed-4 n d)
        ]
      ]
    ]

needed-within : (n k : ℕ) → 0 < k → k ≤ 4 → n < 256 ^ k → octets_needed n ≤ k
needed-within n zero some few lt = absurd (omega arith)
needed-within n (suc zero) some few lt = omega (arith, octets_needed-1 n (omega arith))
needed-within n (suc (suc zero)) some few lt =
    elim (cases_lt n 256) [
      | inl a ↦ omega (arith, octets_needed-1 n a)
      | inr a ↦ omega (arith, octets_needed-2 n a (omega arith))
    ]
needed-within n (suc (suc (suc zero))) some few lt =
    elim (cases_lt n 256) [
      | inl a ↦ omega (arith, octets_needed-1 n a)
      | inr a ↦ elim (cases_lt n 65536) [
        | inl b ↦ omega (arith, octets_needed-2 n a b)
        | inr b ↦ omega (arith, octets_needed-3 n b (omega arith))
      ]
    ]
needed-within n (suc (suc (suc (suc k)))) some few lt = omega (arith, few-needed n)

length-bytes_high_first : (k n : ℕ) → length (bytes_high_first k n) ≡ k
length-bytes_high_first zero n = refl
length-bytes_high_first (suc k) n = ap suc (length-bytes_high_first k n)

pub length-short : (n : ℕ) → n < 128 → length (length_octets n) ≡ 1
unfolding length_octets
length-short n lt = rw (lt-ltb n 128 lt) refl

pub length-long : (n : ℕ) → 128 ≤ n → length (length_octets n) ≡ suc (octets_needed n)
length-long n ge =
    rw (long_is n (octets_needed n) refl ge) (ap suc (length-bytes_high_first (octets_needed n) n))

length-shortest : (len : List ℕ) (n : ℕ) → IsBytes len → IsLength len n
    → length (length_octets n) ≤ length len
length-shortest [] n fits is = absurd is
length-shortest (first ∷ []) n fits is = omega (arith, length-short n (omega (arith, is.0, is.1)))
length-shortest (first ∷ second ∷ octets) n fits is =
    let below : n < 256 ^ length (second ∷ octets) =
    rw is.2 (number_of-below (second ∷ octets) (λ i. fits (suc i))) in
    elim (cases_lt n 128) [
      | inl small ↦ omega (arith, length-short n small)
      | inr ge ↦ omega (
        arith,
        length-long n ge,
        needed-within n (length (second ∷ octets)) (omega arith) is.1 below,
      )
    ]

bytes-within : (front middle back : List ℕ) → IsBytes (front ++ (middle ++ back)) → IsBytes middle
bytes-within front middle back fits i =
    elim (cases_lt i (length middle)) [
      | inl lt ↦ rw (
        ← get_or_append_left middle back 0 i lt,
        ← get_or-append-add front (middle ++ back) i 0,
      ) (fits (length front + i))
      | inr le ↦ rw (get_or_past middle i 0 le) (omega arith)
    ]

pub element-shortest : (octets content : List ℕ) (tag : Tag) → IsBytes octets
    → Spells octets tag content → length (element tag content) ≤ length octets
unfolding element
element-shortest octets content tag fits s =
    let fits_len = bytes-within s.front s.len content (subst IsBytes s.parts fits) in
    let short = length-shortest s.len (length content) fits_len s.is_length in
    let some = tag-some s.front tag s.is_tag in
    let whole : length octets ≡ length s.front + (length s.len + length content) =
    rw s.parts (simp length-append) in
    omega (arith, length-append (length_octets (length content)) content)

-- ---- integers

-- what octets in two's complement can spell, where those behind the first can spell so many numbers
abbrev Within : ℕ → ℤ → Type 0
Within q s = (neg_ℤ (pos (128 * q)) ≤ℤ s) × (s <ℤ pos (128 * q))

-- what they cannot
abbrev Beyond : ℕ → ℤ → Type 0
Beyond r s = (s <ℤ neg_ℤ (pos (128 * r))) ⊎ (pos (128 * r) ≤ℤ s)

not-both : (q r : ℕ) (s : ℤ) → q ≤ r → Within q s → Beyond r s → ⊥
not-both q r s le within (inl low) = omega (arith, ints, within.0, within.1)
not-both q r s le within (inr high) = omega (arith, ints, within.0, within.1)

not-negative : (n q : ℕ) → n < q * 128 → Within q (pos n)
not-negative n q lt = (omega (arith, ints), omega (arith, ints))

negative : (n q p : ℕ) → p ≡ q * 256 → 128 * q ≤ n → n < q * 256 → Within q (pos n -ℤ pos p)
negative n q p size ge lt = (omega (arith, ints), omega (arith, ints))

within-range : (first : ℕ) (octets : List ℕ) → IsBytes (first ∷ octets)
    → Within (256 ^ length octets) (signed_of (first ∷ octets))
within-range first octets fits =
    let q = 256 ^ length octets in
    let n = number_of octets in
    let below : n < q = number_of-below octets (λ i. fits (suc i)) in
    let whole = number_of-cons first octets in
    elim (cases_lt first 128) [
      | inl low ↦
          let top = mul-add-lt first q n 128 low below in
          rw (signed_of-low (first ∷ octets) (omega arith) low)
          (not-negative (number_of (first ∷ octets)) q (omega (arith, whole, top)))
      | inr high ↦
          let top = mul-add-lt first q n 256 (fits 0) below in
          let bottom : 128 * q ≤ first * q = mul-le 128 q first q high (omega arith) in
          rw (signed_of-high (first ∷ octets) (omega arith) high)
          (negative (number_of (first ∷ octets)) q (256 ^ length (first ∷ octets))
          (pow-suc 256 (length octets)) (omega (arith, whole, bottom))
          (omega (arith, whole, top)))
    ]

beyond-high : (r n : ℕ) → 128 * r ≤ n → Beyond r (pos n)
beyond-high r n ge = inr (omega (arith, ints))

beyond-low : (r n p : ℕ) → p ≡ r * 256 * 256 → n + 128 * r < p → Beyond r (pos n -ℤ pos p)
beyond-low r n p size lt = inl (omega (arith, ints))

not-needless : (first second : ℕ) → is_needless first second ≡ false → first < 256
    → ((second < 128) × (0 < first)) ⊎ ((128 ≤ second) × (first < 255))
not-needless first second is octet =
    elim (chosen (ltb second 128) (eqb first 0) (eqb first 255) false is) [
      | inl low ↦ inl (
        ltb-true _ _ low.0,
        let other : (first ≡ 0) → ⊥ = eqb-false first 0 low.1 in
            omega arith,
      )
      | inr high ↦ inr (
        ltb-false _ _ high.0,
        let other : (first ≡ 255)
            → ⊥ = eqb-false first 255 high.1 in omega arith,
      )
    ]

beyond-range : (first second : ℕ) (octets : List ℕ) → IsBytes (first ∷ second ∷ octets)
    → is_needless first second ≡ false
    → Beyond (256 ^ length octets) (signed_of (first ∷ second ∷ octets))
beyond-range first second octets fits is =
    let r = 256 ^ length octets in
    let n = number_of octets in
    let below : n < r = number_of-below octets (λ i. fits (suc (suc i))) in
    let size1 : 256 ^ length (second ∷ octets) ≡ r * 256 = pow-suc 256 (length octets) in
    let size2 : 256 ^ length (first ∷ second ∷ octets) ≡ r * 256 * 256 =
    pow-suc 256 (length (second ∷ octets)) ∙ ap (λ (p : ℕ). p * 256) size1 in
    let whole : number_of (first ∷ second ∷ octets) ≡ first * (r * 256) + (second * r + n) =
    number_of-cons first (second ∷ octets) ∙ rw (size1, number_of-cons second octets) refl in
    elim (cases_lt first 128) [
      | inl low ↦ rw (signed_of-low (first ∷ second ∷ octets) (omega arith) low)
          (elim (not-needless first second is (fits 0)) [
            | inl a ↦ beyond-high r (number_of (first ∷ second ∷ octets))
                (let m : 1 * (r * 256) ≤ first * (r * 256) =
                mul-le 1 (r * 256) first (r * 256) a.1 (omega arith) in omega (arith, whole))
            | inr a ↦ beyond-high r (number_of (first ∷ second ∷ octets))
                (let m : 128 * r ≤ second * r = mul-le 128 r second r a.0 (omega arith) in
                omega (arith, whole))
          ])
      | inr high ↦ rw (signed_of-high (first ∷ second ∷ octets) (omega arith) high)
          (elim (not-needless first second is (fits 0)) [
            | inl a ↦
                let m : first * (r * 256) ≤ 255 * (r * 256) =
                mul-le first (r * 256) 255 (r * 256) (omega (arith, fits 0)) (omega arith) in
                let top = mul-add-lt second r n 128 a.0 below in
                beyond-low r (number_of (first ∷ second ∷ octets))
                (256 ^ length (first ∷ second ∷ octets)) size2 (omega (arith, whole, size2))
            | inr a ↦
                let m : first * (r * 256) ≤ 254 * (r * 256) =
                mul-le first (r * 256) 254 (r * 256) (omega (arith, a.1)) (omega arith) in
                let top = mul-add-lt second r n 256 (fits 1) below in
                beyond-low r (number_of (first ∷ second ∷ octets))
                (256 ^ length (first ∷ second ∷ octets)) size2 (omega (arith, whole, size2))
          ])
    ]

abbrev IsTight : List ℕ → Type 0
IsTight [] = Unit {0}
IsTight (first ∷ []) = Unit {0}
IsTight (first ∷ second ∷ octets) = is_needless first second ≡ false

tight-either : (b : Bool) (first second : ℕ) (octets tight : List ℕ) → is_needless first second ≡ b
    → IsTight tight → IsTight (cond b tight (first ∷ second ∷ octets))
tight-either true first second octets tight is h = h
tight-either false first second octets tight is h = is

without_needless-tight : (octets : List ℕ) → IsTight (without_needless octets)
without_needless-tight [] = tt
without_needless-tight (first ∷ []) = tt
without_needless-tight (first ∷ second ∷ octets) =
    tight-either (is_needless first second) first second octets (without_needless (second ∷ octets))
    refl (without_needless-tight (second ∷ octets))

bytes-either : (b : Bool) (tight octets : List ℕ) → IsBytes tight → IsBytes octets
    → IsBytes (cond b tight octets)
bytes-either true tight octets h k = h
bytes-either false tight octets h k = k

without_needless-bytes : (octets : List ℕ) → IsBytes octets → IsBytes (without_needless octets)
without_needless-bytes [] fits = fits
without_needless-bytes (first ∷ []) fits = fits
without_needless-bytes (first ∷ second ∷ octets) fits =
    bytes-either (is_needless first second) (without_needless (second ∷ octets))
    (first ∷ second ∷ octets) (without_needless-bytes (second ∷ octets) (λ i. fits (suc i))) fits

byte_at-below : (k n : ℕ) → byte_at k n < 256
byte_at-below zero n = omega arith
byte_at-below (suc k) n = omega arith

bytes_high_first-bytes : (k n : ℕ) → IsBytes (bytes_high_first k n)
bytes_high_first-bytes zero n i = omega arith
bytes_high_first-bytes (suc k) n zero = byte_at-below k n
bytes_high_first-bytes (suc k) n (suc i) = bytes_high_first-bytes k n i

tight-shorter : (tight content : List ℕ) → IsBytes tight → IsBytes content → IsTight tight
    → 0 < length content → signed_of tight ≡ signed_of content → length tight ≤ length content
tight-shorter [] content fits more h some same = omega arith
tight-shorter (first ∷ []) content fits more h some same = omega arith
tight-shorter (first ∷ second ∷ octets) [] fits more h some same = absurd (omega arith)
tight-shorter (first ∷ second ∷ octets) (c ∷ content) fits more h some same =
    elim (cases_lt (length octets) (length content)) [
      | inl enough ↦ omega arith
      | inr short ↦ absurd (not-both (256 ^ length content) (256 ^ length octets)
          (signed_of (c ∷ content)) (pow-within (length content) (length octets) short)
          (within-range c content more)
          (subst (Beyond (256 ^ length octets)) same (beyond-range first second octets fits h)))
    ]

pub integer-shortest : (content : List ℕ) (value : ℤ) → IsBytes content → IsInteger content value
    → length (integer_octets value) ≤ length content
integer-shortest content value fits is =
    let all = to_be_bytes w64 (cast_unsigned w64 value) in
    tight-shorter (integer_octets value) content
    (without_needless-bytes all (bytes_high_first-bytes 8 (cast_unsigned w64 value))) fits
    (without_needless-tight all) is.some (sym (integer-is value is.fits).is ∙ is.is)
