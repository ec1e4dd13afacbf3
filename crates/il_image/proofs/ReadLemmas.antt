-- Steps of reading, and numbers that are read back whatever follows them.
use Rattle.std.proofs.Common.{◌≡◌, ℕ, zero, suc, ◌-◌, ◌^◌, ◌<◌, ◌≤◌, ℤ, FitsSigned, false, ltb, List, [], ◌∷◌, ◌++◌, length, take, drop, refl, sym, ap, ◌∙◌, arith}
use Rattle.std.specs.Prelude.{Result, Ok, Err}
use Rattle.std.specs.Int.{cast_signed, from_be_bytes}
use Rattle.std.proofs.lemmas.Bool.{le-ltb}
use Rattle.std.proofs.lemmas.List.{get_or-take, take_rest}
use Rattle.bay_base.specs.Results.{◌>>=◌}
use Rattle.il_image.specs.declared.fault.ImageFault.{ImageFault}
use Rattle.il_image.specs.declared.write.Size.{Size}
use Rattle.il_image.specs.declared.write.Size.TheVariants.{One, Two, Four, Eight}
use Rattle.il_image.specs.Octets.{AreOctets, octet_count, bits_of_size, number_octets, signed_octets}
use Rattle.il_image.specs.Reading.{number_at, signed_at}
use Rattle.il_image.proofs.OctetLemmas.{written-number, written-signed}

-- ---- steps

pub bind-ok : {A B : Type 0} (r : Result A ImageFault) (f : A → Result B ImageFault) (y : B)
    → (r >>= f) ≡ Ok y → (x : A) × (r ≡ Ok x) × (f x ≡ Ok y)
bind-ok (Ok x) f y e = (x, refl, e)
bind-ok (Err fault) f y e = absurd cc

pub bind-is : {A B : Type 0} (r : Result A ImageFault) (f : A → Result B ImageFault) (x : A)
    (s : Result B ImageFault) → r ≡ Ok x → f x ≡ s → (r >>= f) ≡ s
bind-is (Ok y) f x s e g = let same : y ≡ x = cc in ap f same ∙ g
bind-is (Err fault) f x s e g = absurd cc

pub ok-same : {A : Type 0} (x y : A) → (◌≡◌ {A = Result A ImageFault} (Ok x) (Ok y)) → x ≡ y
ok-same x y e = cc

-- ---- octets

pub take_octets : (n : ℕ) (octets : List ℕ) → AreOctets octets → AreOctets (take n octets)
take_octets zero octets fits = λ i. omega arith
take_octets (suc n) [] fits = fits
take_octets (suc n) (x ∷ octets) fits =
    go n x octets (take_octets n octets (λ i. fits (suc i))) (fits 0)
  where
    go : (n x : ℕ) (octets : List ℕ) → AreOctets (take n octets) → x < 256
        → AreOctets (x ∷ take n octets)
    go n x octets rest first zero = first
    go n x octets rest first (suc i) = rest i

pub drop-octets : (n : ℕ) (octets : List ℕ) → AreOctets octets → AreOctets (drop n octets)
drop-octets zero octets fits = fits
drop-octets (suc n) [] fits = fits
drop-octets (suc n) (x ∷ octets) fits = drop-octets n octets (λ i. fits (suc i))

pub behind-octets : (front rest : List ℕ) → AreOctets (front ++ rest) → AreOctets rest
behind-octets [] rest fits = fits
behind-octets (x ∷ front) rest fits = behind-octets front rest (λ i. fits (suc i))

pub from-front : (size : Size) (octets : List ℕ)
    → from_be_bytes (bits_of_size size) (take (octet_count size) octets)
    ≡ from_be_bytes (bits_of_size size) octets
from-front One octets = get_or-take 1 octets 0 0 (omega arith)
from-front Two octets =
    rw (get_or-take 2 octets 0 0 (omega arith), get_or-take 2 octets 1 0 (omega arith)) refl
from-front Four octets =
    rw (
      get_or-take 4 octets 0 0 (omega arith),
      get_or-take 4 octets 1 0 (omega arith),
      get_or-take 4 octets 2 0 (omega arith),
      get_or-take 4 octets 3 0 (omega arith),
    ) refl
from-front Eight octets =
    rw (
      get_or-take 8 octets 0 0 (omega arith),
      get_or-take 8 octets 1 0 (omega arith),
      get_or-take 8 octets 2 0 (omega arith),
      get_or-take 8 octets 3 0 (omega arith),
      get_or-take 8 octets 4 0 (omega arith),
      get_or-take 8 octets 5 0 (omega arith),
      get_or-take 8 octets 6 0 (omega arith),
      get_or-take 8 octets 7 0 (omega arith),
    ) refl

-- a number that is whole, and what is left behind it
pub whole-signed : (size : Size) (octets : List ℕ) (z : ℤ) → octet_count size ≤ length octets
    → z ≡ cast_signed (bits_of_size size) (from_be_bytes (bits_of_size size) octets)
    → signed_at size octets ≡ Ok
    (z, take (length octets - octet_count size) (drop (octet_count size) octets))
whole-signed size octets z enough is =
    let n = octet_count size in
    rw (le-ltb (length octets) n enough)
    (ap (λ (x : ℤ). Ok (x, drop n octets)) (sym is)
    ∙ ap (λ (xs : List ℕ). Ok (z, xs)) (sym (take_rest octets n)))

-- ---- back again

pub back-number : (n : ℕ) (rest : List ℕ) → n < 2 ^ 16
    → number_at (number_octets n ++ rest) ≡ Ok (n, rest)
back-number n rest small =
    rw (let e : ltb (length (number_octets n ++ rest)) 2 ≡ false = le-ltb _ 2 (omega arith) in e)
    (ap (λ (m : ℕ). Ok (m, rest)) (written-number n rest small))

pub back-signed : (size : Size) (z : ℤ) (rest : List ℕ) → FitsSigned (bits_of_size size) z
    → signed_at size (signed_octets size z ++ rest) ≡ Ok (z, rest)
back-signed One z rest fits =
    rw (let e : ltb (length (signed_octets One z ++ rest)) 1 ≡ false = le-ltb _ 1 (omega arith) in
    e) (ap (λ (m : ℤ). Ok (m, rest)) (written-signed One z rest fits))
back-signed Two z rest fits =
    rw (let e : ltb (length (signed_octets Two z ++ rest)) 2 ≡ false = le-ltb _ 2 (omega arith) in
    e) (ap (λ (m : ℤ). Ok (m, rest)) (written-signed Two z rest fits))
back-signed Four z rest fits =
    rw (let e : ltb (length (signed_octets Four z ++ rest)) 4 ≡ false = le-ltb _ 4 (omega arith) in
    e) (ap (λ (m : ℤ). Ok (m, rest)) (written-signed Four z rest fits))
back-signed Eight z rest fits =
    rw (let e : ltb (length (signed_octets Eight z ++ rest)) 8 ≡ false = le-ltb _ 8 (omega arith) in
    e) (ap (λ (m : ℤ). Ok (m, rest)) (written-signed Eight z rest fits))
