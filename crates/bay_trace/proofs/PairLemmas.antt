-- The octets that pairs of digits encode.
use Rattle.std.proofs.Common.{◌≡◌, ℕ, ◌+◌, ◌*◌, ◌<◌, zero, suc, true, List, [], ◌∷◌, length, get_or, Option, Some, None, is_some, Result, Ok, Err, refl, ap, sym, ◌∙◌, arith}
use Rattle.std.specs.Result.{result_unwrap_or}
use Rattle.hex.specs.Hex.{decode_pairs, digit_or_error, hex_digit_value, is_hex_digit, pair_value, value_at, ◌>>=◌}
use Rattle.hex.specs.declared.error.FromHexError.{FromHexError}
use Rattle.hex.proofs.HexLemmas.{decode_of-even}
use Rattle.bay_trace.specs.Digits.{octets_or_empty, octets_of}
use Rattle.bay_trace.proofs.DigitLemmas.{octets-known, octets-twice, known-decode}

-- what an `Ok` after two steps shows
both-steps : {A B : Type 0} (r : Result A FromHexError) (f : A → Result B FromHexError) (y : B)
    → (r >>= f) ≡ Ok y → (x : A) × (r ≡ Ok x) × (f x ≡ Ok y)
both-steps (Ok x) f y h = (x, refl, h)
both-steps (Err e) f y h = cc h

digit-known : (c i : ℕ) (o : Option ℕ) (v : ℕ) → digit_or_error c i o ≡ Ok v → o ≡ Some v
digit-known c i (Some w) v h = ap Some (ap (λ (r : Result ℕ FromHexError). result_unwrap_or r 0) h)
digit-known c i None v h = cc h

-- an octet and the two digits that encode it
pub record IsPair (h l octet : ℕ) : Type 0 where
  pub high : ℕ
  pub low : ℕ
  pub high_is : hex_digit_value h ≡ Some high
  pub low_is : hex_digit_value l ≡ Some low
  pub octet_is : octet ≡ high * 16 + low

pairs-at : (j i : ℕ) (s octets : List ℕ) → decode_pairs j s ≡ Ok octets → i < length octets
    → IsPair (get_or s (2 * i) 0) (get_or s (2 * i + 1) 0) (get_or octets i 0)
unfolding decode_pairs
pairs-at j i [] octets e few =
    let none : [] ≡ octets = ap (λ (r : Result (List ℕ) FromHexError). result_unwrap_or r []) e in
    absurd (omega (arith, few, ap length none))
pairs-at j i (a ∷ []) octets e few = cc e
pairs-at j i (a ∷ b ∷ rest) octets e few =
    let p0 = both-steps (pair_value a b j) _ octets e in
    let p1 = both-steps (value_at a j) _ p0.0 p0.1 in
    let p2 = both-steps (value_at b (j + 1)) _ p0.0 p1.2 in
    let p3 = both-steps (decode_pairs (j + 2) rest) _ octets p0.2 in
    let all : p0.0 ∷ p3.0 ≡ octets =
    ap (λ (r : Result (List ℕ) FromHexError). result_unwrap_or r []) p3.2 in
    let octet : p1.0 * 16 + p2.0 ≡ p0.0 =
    ap (λ (r : Result ℕ FromHexError). result_unwrap_or r 0) p2.2 in
    let first : IsPair a b p0.0 = record {
      high = p1.0;
      low = p2.0;
      high_is = digit-known a j (hex_digit_value a) p1.0 p1.1;
      low_is = digit-known b (j + 1) (hex_digit_value b) p2.0 p2.1;
      octet_is = sym octet;
    } in
    rw (← all) (by-place p3.0 p0.0 first (λ k less. pairs-at (j + 2) k rest p3.0 p3.1 less) i
    (omega (arith, few, ap length all)))
  where
    by-place : (later : List ℕ) (octet : ℕ) → IsPair a b octet
        → ((k : ℕ) → k < length later
        → IsPair (get_or rest (2 * k) 0) (get_or rest (2 * k + 1) 0) (get_or later k 0))
        → (i : ℕ) → i < suc (length later)
        → IsPair (get_or (a ∷ b ∷ rest) (2 * i) 0) (get_or (a ∷ b ∷ rest) (2 * i + 1) 0)
        (get_or (octet ∷ later) i 0)
    by-place later octet first more zero less = first
    by-place later octet first more (suc k) less =
        let even : 2 * suc k ≡ suc (suc (2 * k)) = omega arith in
        let odd : 2 * suc k + 1 ≡ suc (suc (2 * k + 1)) = omega arith in
        let high : get_or (a ∷ b ∷ rest) (2 * suc k) 0 ≡ get_or rest (2 * k) 0 =
        ap (λ n. get_or (a ∷ b ∷ rest) n 0) even in
        let low : get_or (a ∷ b ∷ rest) (2 * suc k + 1) 0 ≡ get_or rest (2 * k + 1) 0 =
        ap (λ n. get_or (a ∷ b ∷ rest) n 0) odd in
        let pair = more k (omega (arith, less)) in
        record {
          high = pair.high;
          low = pair.low;
          high_is = ap hex_digit_value high ∙ pair.high_is;
          low_is = ap hex_digit_value low ∙ pair.low_is;
          octet_is = pair.octet_is;
        }

-- the digits of a word that encodes octets, and the octet of the i-th pair
pub pair-at : (word : List ℕ) (i : ℕ) → is_some (octets_of word) ≡ true
    → i < length (octets_or_empty word)
    → IsPair (get_or word (2 * i) 0) (get_or word (2 * i + 1) 0) (get_or (octets_or_empty word) i 0)
pair-at word i known less =
    let twice = octets-twice word known in
    pairs-at 0 i word (octets_or_empty word)
    (sym (decode_of-even word (omega (arith, twice)))
    ∙ known-decode word (octets_or_empty word) (octets-known word known)) less

-- a digit that has a value is one
pub is-digit : (c v : ℕ) → hex_digit_value c ≡ Some v → is_hex_digit c ≡ true
is-digit c v e = ap is_some e
