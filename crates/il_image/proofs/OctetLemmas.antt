-- Numbers in octets: what is written is read, and what is read is written so.
use Rattle.std.proofs.Common.{◌≡◌, ℕ, ◌+◌, ◌*◌, ◌/◌, ◌%◌, ◌^◌, ◌<◌, ℤ, pos, negsuc, FitsSigned, List, [], ◌∷◌, ◌++◌, length, ltb, false, inl, inr, get_or, refl, ap, ◌∙◌, arith}
use Rattle.std.specs.Int.{w8, w16, w32, w64, cast_signed, cast_unsigned, from_be_bytes, bytes_high_first}
use Rattle.std.proofs.lemmas.Int.{of_z-to_z, to_z-of_z, to_z_pos}
use Rattle.std.proofs.lemmas.Nat.{be_bytes_2, be_bytes_4, be_bytes_8, from_be_bytes-to_be_bytes_2, from_be_bytes-to_be_bytes_8}
use Rattle.std.proofs.lemmas.Bool.{cases_lt, le-ltb}
use Rattle.il_image.specs.Octets.{AreOctets, octet_count, bits_of_size, number_octets, signed_octets}
use Rattle.il_image.specs.declared.write.Size.{Size}
use Rattle.il_image.specs.declared.write.Size.TheVariants.{One, Two, Four, Eight}

-- ---- the lowest octets of a number

lowest-2 : (n : ℕ) → bytes_high_first 2 n ≡ bytes_high_first 2 (n % 2 ^ 16)
lowest-2 n =
    let a : n / 256 % 256 ≡ (n % 2 ^ 16) / 256 % 256 = omega arith in
    let b : n % 256 ≡ (n % 2 ^ 16) % 256 = omega arith in
    cc

lowest-4 : (n : ℕ) → bytes_high_first 4 n ≡ bytes_high_first 4 (n % 2 ^ 32)
lowest-4 n =
    let a : n / 256 ^ 3 % 256 ≡ (n % 2 ^ 32) / 256 ^ 3 % 256 = omega arith in
    let b : n / 256 ^ 2 % 256 ≡ (n % 2 ^ 32) / 256 ^ 2 % 256 = omega arith in
    let d : n / 256 % 256 ≡ (n % 2 ^ 32) / 256 % 256 = omega arith in
    let e : n % 256 ≡ (n % 2 ^ 32) % 256 = omega arith in
    cc

-- ---- written and read

-- the lowest bits of a number that fits are those of the smaller width
low-1 : (z : ℤ) → FitsSigned w8 z → cast_unsigned w64 z % 256 ≡ cast_unsigned w8 z
low-1 (pos n) fits = let h : n < 2 ^ 7 = fits.sfits in omega arith
low-1 (negsuc n) fits = let h : n < 2 ^ 7 = fits.sfits in omega arith

low-2 : (z : ℤ) → FitsSigned w16 z → cast_unsigned w64 z % 2 ^ 16 ≡ cast_unsigned w16 z
low-2 (pos n) fits = let h : n < 2 ^ 15 = fits.sfits in omega arith
low-2 (negsuc n) fits = let h : n < 2 ^ 15 = fits.sfits in omega arith

low-4 : (z : ℤ) → FitsSigned w32 z → cast_unsigned w64 z % 2 ^ 32 ≡ cast_unsigned w32 z
low-4 (pos n) fits = let h : n < 2 ^ 31 = fits.sfits in omega arith
low-4 (negsuc n) fits = let h : n < 2 ^ 31 = fits.sfits in omega arith

joined-2 : (u : ℕ) → u / 256 % 256 * 256 + u % 256 ≡ u % 2 ^ 16
joined-2 u = omega arith

joined-4 : (u : ℕ) → u / 16777216 % 256 * 16777216 + u / 65536 % 256 * 65536 + u / 256 % 256 * 256
    + u % 256 ≡ u % 2 ^ 32
joined-4 u = omega arith

below-64 : (z : ℤ) → FitsSigned w64 z → cast_unsigned w64 z < 2 ^ 64
below-64 (pos n) fits = let h : n < 2 ^ 63 = fits.sfits in omega arith
below-64 (negsuc n) fits = omega arith

pub written-number : (n : ℕ) (rest : List ℕ) → n < 2 ^ 16
    → from_be_bytes w16 (number_octets n ++ rest) ≡ n
written-number n rest small = from_be_bytes-to_be_bytes_2 n small

pub written-signed : (size : Size) (z : ℤ) (rest : List ℕ) → FitsSigned (bits_of_size size) z
    → cast_signed (bits_of_size size)
    (from_be_bytes (bits_of_size size) (signed_octets size z ++ rest)) ≡ z
written-signed One z rest fits = ap (cast_signed w8) (low-1 z fits) ∙ to_z-of_z w8 z fits
written-signed Two z rest fits =
    ap (cast_signed w16) (joined-2 (cast_unsigned w64 z) ∙ low-2 z fits) ∙ to_z-of_z w16 z fits
written-signed Four z rest fits =
    ap (cast_signed w32) (joined-4 (cast_unsigned w64 z) ∙ low-4 z fits) ∙ to_z-of_z w32 z fits
written-signed Eight z rest fits =
    ap (cast_signed w64) (from_be_bytes-to_be_bytes_8 (cast_unsigned w64 z) (below-64 z fits))
    ∙ to_z-of_z w64 z fits

-- ---- read and written

-- what is left of a number in 64 bits
high-1 : (m : ℕ) → m < 256 → cast_unsigned w64 (cast_signed w8 m) % 256 ≡ m
high-1 m small = elim (cases_lt m 128) [
  | inl low ↦ rw (to_z_pos w8 m low) (omega arith)
  | inr high ↦ rw (let e : ltb m 128 ≡ false = le-ltb m 128 high in e) (omega arith)
]

high-2 : (m : ℕ) → m < 2 ^ 16 → cast_unsigned w64 (cast_signed w16 m) % 2 ^ 16 ≡ m
high-2 m small = elim (cases_lt m 0x8000) [
  | inl low ↦ rw (to_z_pos w16 m low) (omega arith)
  | inr high ↦ rw (let e : ltb m 0x8000 ≡ false = le-ltb m 0x8000 high in e) (omega arith)
]

high-4 : (m : ℕ) → m < 2 ^ 32 → cast_unsigned w64 (cast_signed w32 m) % 2 ^ 32 ≡ m
high-4 m small = elim (cases_lt m 0x8000_0000) [
  | inl low ↦ rw (to_z_pos w32 m low) (omega arith)
  | inr high ↦ rw (let e : ltb m 0x8000_0000 ≡ false = le-ltb m 0x8000_0000 high in e) (omega arith)
]

from-below-2 : (bs : List ℕ) → AreOctets bs → from_be_bytes w16 bs < 2 ^ 16
from-below-2 bs fits = let a = fits 0 in let b = fits 1 in omega arith

from-below-4 : (bs : List ℕ) → AreOctets bs → from_be_bytes w32 bs < 2 ^ 32
from-below-4 bs fits = let a = fits 0 in let b = fits 1 in let d = fits 2 in let e =
    fits 3 in omega arith

from-below-8 : (bs : List ℕ) → AreOctets bs → from_be_bytes w64 bs < 2 ^ 64
from-below-8 bs fits = let a = fits 0 in let b = fits 1 in let d = fits 2 in let e =
    fits 3 in let f = fits 4 in let g = fits 5 in let h = fits 6 in let i = fits 7 in omega arith

only-octet : (bs : List ℕ) → length bs ≡ 1 → get_or bs 0 0 ∷ [] ≡ bs
only-octet [] size = absurd (omega arith)
only-octet (a ∷ []) size = refl
only-octet (a ∷ b ∷ bs) size = absurd (omega arith)

pub read_number : (bs : List ℕ) → length bs ≡ 2 → AreOctets bs
    → number_octets (from_be_bytes w16 bs) ≡ bs
read_number bs size fits = be_bytes_2 bs (from_be_bytes w16 bs) size fits refl

pub read-signed : (size : Size) (bs : List ℕ) → length bs ≡ octet_count size → AreOctets bs
    → signed_octets size (cast_signed (bits_of_size size) (from_be_bytes (bits_of_size size) bs))
    ≡ bs
read-signed One bs size fits =
    ap (λ (x : ℕ). x ∷ []) (high-1 (get_or bs 0 0) (fits 0)) ∙ only-octet bs size
read-signed Two bs size fits =
    let m = from_be_bytes w16 bs in
    lowest-2 (cast_unsigned w64 (cast_signed w16 m))
    ∙ ap (bytes_high_first 2) (high-2 m (from-below-2 bs fits)) ∙ be_bytes_2 bs m size fits refl
read-signed Four bs size fits =
    let m = from_be_bytes w32 bs in
    lowest-4 (cast_unsigned w64 (cast_signed w32 m))
    ∙ ap (bytes_high_first 4) (high-4 m (from-below-4 bs fits)) ∙ be_bytes_4 bs m size fits refl
read-signed Eight bs size fits =
    let m = from_be_bytes w64 bs in
    ap (bytes_high_first 8) (of_z-to_z w64 m (from-below-8 bs fits))
    ∙ be_bytes_8 bs m size fits refl

pub number-below : (bs : List ℕ) → AreOctets bs → from_be_bytes w16 bs < 2 ^ 16
number-below = from-below-2
