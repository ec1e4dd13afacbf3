-- Octets that may stand in a name are text.
use Rattle.std.proofs.Common.{◌≡◌, ℕ, zero, suc, ◌<◌, ◌&&◌, ◌||◌, true, leb, eqb, List, [], ◌∷◌, arith, inl, inr}
use Rattle.std.specs.List.{list_all}
use Rattle.std.specs.Str.{IsUtf8, IsAscii}
use Rattle.std.proofs.lemmas.Bool.{leb-true, eqb-true, and_parts, or_cases}
use Rattle.std.proofs.lemmas.Str.{IsUtf8-from_ascii}
use Rattle.il_image.specs.Images.{is_name_octet}

pub name_octet-small : (octet : ℕ) → is_name_octet octet ≡ true → octet < 128
name_octet-small octet e =
    elim (or_cases ((leb 0x41 octet && leb octet 0x5A) || (leb 0x30 octet && leb octet 0x39))
    (eqb octet 0x5F) e) [
      | inr low_line ↦ let h = eqb-true octet 0x5F low_line in omega arith
      | inl other ↦ elim (or_cases (leb 0x41 octet && leb octet 0x5A)
          (leb 0x30 octet && leb octet 0x39)
          other) [
            | inl letter ↦ let h =
                leb-true octet 0x5A (and_parts (leb 0x41 octet) (leb octet 0x5A) letter).1 in
                omega arith
            | inr digit ↦ let h =
                leb-true octet 0x39 (and_parts (leb 0x30 octet) (leb octet 0x39) digit).1 in
                omega arith
          ]
    ]

pub name-ascii : (octets : List ℕ) → list_all is_name_octet octets ≡ true → IsAscii octets
name-ascii [] e i = omega arith
name-ascii (x ∷ octets) e zero =
    name_octet-small x (and_parts (is_name_octet x) (list_all is_name_octet octets) e).0
name-ascii (x ∷ octets) e (suc i) =
    name-ascii octets (and_parts (is_name_octet x) (list_all is_name_octet octets) e).1 i

pub name-text : (octets : List ℕ) → list_all is_name_octet octets ≡ true → IsUtf8 octets
name-text octets e = IsUtf8-from_ascii octets (name-ascii octets e)
