-- Lemmas on octets that are shown.
use Rattle.std.proofs.Common.{◌≡◌, ℕ, ◌+◌, ◌<◌, get_or, drop, add-one, List, ◌∷◌, ◌++◌, length, refl, ap}
use Rattle.std.proofs.Math.Seq.{drop-cons}
use Rattle.bay_lines.specs.Escaped.{escaped_octet, escaped_octets}

-- the next octet
pub shown-turn : (octets : List ℕ) (k d : ℕ) → k < length octets
    → escaped_octets (drop k octets)
    ≡ escaped_octet (get_or octets k d) ++ escaped_octets (drop (k + 1) octets)
shown-turn octets k d lt =
    let next : drop k octets ≡ get_or octets k d ∷ drop (k + 1) octets =
    rw (add-one, drop-cons octets k d) refl in
    ap escaped_octets next
