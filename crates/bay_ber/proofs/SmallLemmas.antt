-- Integers that are spelled in few octets.
use Rattle.std.proofs.Common.{◌≡◌, ℕ, suc, pos, ◌/◌, ◌%◌, ◌<◌, ◌^◌, [], ◌∷◌, refl, ap, ◌∙◌, arith}
use Rattle.std.specs.Int.{byte_at, bytes_high_first}
use Rattle.std.proofs.lemmas.Bool.{lt-ltb}
use Rattle.std.proofs.Math.Nat.{div-eq_of_lt}
use Rattle.bay_ber.specs.declared.tag.Tag.{Tag}
use Rattle.bay_ber.specs.Spelling.{octet_of}
use Rattle.bay_ber.specs.Writing.{element, length_octets, without_needless, integer_octets}

no-byte : (k n : ℕ) → n < 256 ^ suc k → byte_at (suc k) n ≡ 0
no-byte k n few = rw (div-eq_of_lt few) refl

pub eight-bytes : (n : ℕ) → n < 65536
    → bytes_high_first 8 n ≡ 0 ∷ 0 ∷ 0 ∷ 0 ∷ 0 ∷ 0 ∷ n / 256 ∷ n % 256 ∷ []
eight-bytes n few =
    let high : byte_at 1 n ≡ n / 256 = omega arith in
    rw (
      no-byte 6 n (omega arith),
      no-byte 5 n (omega arith),
      no-byte 4 n (omega arith),
      no-byte 3 n (omega arith),
      no-byte 2 n (omega arith),
      no-byte 1 n (omega arith),
      high,
    ) refl

pub id-one : (n : ℕ) → n < 128 → integer_octets (pos n) ≡ n ∷ []
id-one n few =
    let high : n / 256 ≡ 0 = omega arith in
    let low : n % 256 ≡ n = omega arith in
    ap without_needless (eight-bytes n (omega arith)) ∙ rw (high, low, lt-ltb n 128 few) refl

-- a number below 128 takes three octets
pub small_is : (tag : Tag) (n : ℕ) → n < 128
    → element tag (integer_octets (pos n)) ≡ octet_of tag ∷ 1 ∷ n ∷ []
unfolding element length_octets
small_is tag n few = rw (id-one n few) refl
