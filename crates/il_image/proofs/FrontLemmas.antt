-- What the first octets of an image decide.
use Rattle.std.proofs.Common.{◌≡◌, ℕ, zero, suc, ◌<◌, Bool, true, false, cond, eqb, List, [], ◌∷◌, ◌++◌, length, refl, arith}
use Rattle.std.specs.Prelude.{Result, Err, slice_index}
use Rattle.std.proofs.lemmas.Bool.{ne_eqb}
use Rattle.il_image.specs.declared.fault.ImageFault.{ImageFault}
use Rattle.il_image.specs.declared.fault.ImageFault.TheVariants.{BadMagic, BadVersion}
use Rattle.il_image.specs.Decoding.{octets_after_prefix, decoded_image}
use Rattle.il_image.specs.Images.{mark}

either : (b : Bool) (r : Result (List ℕ) ImageFault) → r ≡ Err BadMagic
    → cond b r (Err BadMagic) ≡ Err BadMagic
either true r e = e
either false r e = refl

other-mark : (marks octets : List ℕ) (k : ℕ) → k < length marks → k < length octets
    → (slice_index octets k ≡ slice_index marks k → ⊥)
    → octets_after_prefix marks octets ≡ Err BadMagic
other-mark [] octets k h g other = absurd (omega arith)
other-mark (m ∷ marks) [] k h g other = absurd (omega arith)
other-mark (m ∷ marks) (x ∷ octets) zero h g other = rw (ne_eqb x m other) refl
other-mark (m ∷ marks) (x ∷ octets) (suc k) h g other =
    either (eqb x m) (octets_after_prefix marks octets)
    (other-mark marks octets k (omega arith) (omega arith) other)

pub no-mark : (octets : List ℕ) (k : ℕ) → k < 4 → k < length octets
    → (slice_index octets k ≡ slice_index mark k → ⊥) → decoded_image octets ≡ Err BadMagic
unfolding decoded_image
no-mark octets k h g other = rw (other-mark mark octets k h g other) refl

pub no-version : (octet : ℕ) (rest : List ℕ) → (octet ≡ 1 → ⊥) → (octet ≡ 2 → ⊥)
    → decoded_image (mark ++ octet ∷ rest) ≡ Err BadVersion
unfolding decoded_image
no-version octet rest one two = rw (ne_eqb octet 1 one, ne_eqb octet 2 two) refl
