-- The encoding of one value: a tag, a length and the content (X.690 8.1).
use Rattle.std.specs.Prelude.{ℕ, ◌≡◌, ◌+◌, ◌*◌, ◌<◌, ◌≤◌, Bool, List, [], ◌∷◌, ◌++◌, length, if◌then◌else◌}
use Rattle.bay_ber.specs.declared.tag.Class.{Class}
use Rattle.bay_ber.specs.declared.tag.Class.TheVariants.{Universal, Application, ContextSpecific, Private}
use Rattle.bay_ber.specs.declared.tag.Tag.{Tag}
use Rattle.bay_ber.specs.Octets.{number_of}

-- ---- X.690 8.1.2: tags

-- bits 8 and 7 of the first tag octet (X.690 8.1.2.2)
abbrev pub class_bits : Class → ℕ
class_bits Universal = 0
class_bits Application = 1
class_bits ContextSpecific = 2
class_bits Private = 3

-- the first octet of a tag: the class, whether the value is constructed, and the low five bits
abbrev pub identifier : Class → Bool → ℕ → ℕ
identifier class constructed low = class_bits class * 64 + (if constructed then 32 else 0) + low

-- the octet of a tag whose number is below 31
abbrev pub octet_of : Tag → ℕ
octet_of tag = identifier tag.class tag.constructed tag.number

-- A tag is one octet whose low five bits are its number, below 31; or one octet with 31 there and
-- one octet below 128, which is its number (X.690 8.1.2).
abbrev pub IsTag : List ℕ → Tag → Type 0
IsTag [] tag = ⊥
IsTag (first ∷ []) tag =
    (tag.number < 31) × (first ≡ identifier tag.class tag.constructed tag.number)
IsTag (first ∷ second ∷ []) tag =
    (first ≡ identifier tag.class tag.constructed 31) × (second < 128) × (tag.number ≡ second)
IsTag (first ∷ second ∷ third ∷ octets) tag = ⊥

-- A length is one octet below 128, or 0x80 + n and n octets, the highest first, for n from 1 to 4
-- (X.690 8.1.3.4 and 8.1.3.5).
abbrev pub IsLength : List ℕ → ℕ → Type 0
IsLength [] n = ⊥
IsLength (first ∷ []) n = (first < 128) × (n ≡ first)
IsLength (first ∷ second ∷ octets) n =
    (first ≡ 128 + length (second ∷ octets)) × (length (second ∷ octets) ≤ 4)
    × (n ≡ number_of (second ∷ octets))

-- The octets are a tag, a length and the content (X.690 8.1.1).
pub record Spells (octets : List ℕ) (tag : Tag) (content : List ℕ) : Type 0 where
  pub front : List ℕ
  pub len : List ℕ
  pub is_tag : IsTag front tag
  pub is_length : IsLength len (length content)
  pub parts : octets ≡ front ++ (len ++ content)
