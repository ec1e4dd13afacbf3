-- Consecutive values.
use Rattle.std.specs.Prelude.{ℕ, ℤ, zero, suc, ◌≡◌, Bool, List, [], ◌∷◌, ◌++◌, length, filter, Option, Some, None, option_map, Result, Ok, Err, nat_lt, if◌then◌else◌}
use Rattle.std.specs.List.{list_any}
use Rattle.bay_ber.specs.declared.fault.BerFault.{BerFault}
use Rattle.bay_ber.specs.declared.tag.Tag.{Tag}
use Rattle.bay_ber.specs.declared.values.Value.{Value}
use Rattle.bay_ber.specs.Content.{integer_in}
use Rattle.bay_ber.specs.Spelling.{Spells}
use Rattle.bay_ber.specs.Reading.{TlvData, BeginsWithTlv, IsPrefixSpelled, tlv_at}
use Rattle.bay_ber.specs.Tags.{same_tag}
use Rattle.bay_base.specs.Options.{◌>>=◌}

-- ---- own: consecutive values

-- a tag and a content, as values, without the slice they borrow from
pub record Part : Type 0 where
  pub tag : Tag
  pub content : List ℕ

-- the value with this tag and this content
abbrev pub value : Tag → List ℕ → Part
value tag content = record { tag = tag; content = content }

-- the view of a value that was read
abbrev pub part_of : Value → Part
part_of v = record { tag = v.tag; content = v.content.now }

-- The octets are the encodings of these values, one after another, and nothing else (X.690 8.9,
-- 8.10).
abbrev pub SpellAll : List ℕ → List Part → Type 0
SpellAll octets [] = octets ≡ []
SpellAll octets (part ∷ parts) =
    (front : List ℕ) × (rest : List ℕ) × (octets ≡ front ++ rest)
    × Spells front part.tag part.content × SpellAll rest parts

-- The result of reading the next value, and the octets left: None if no octet is left; else the
-- first value and the octets after it; or a fault, if the octets begin with no value.
abbrev pub NextValue : List ℕ → Result (Option Value) BerFault → List ℕ → Type 0
NextValue old (Ok None) new = (old ≡ []) × (new ≡ [])
NextValue old (Ok (Some value)) new =
    BeginsWithTlv old (record { tag = value.tag; content = value.content.now; rest = new })
NextValue old (Err fault) new = (new ≡ old) × (old ≡ [] → ⊥) × (IsPrefixSpelled old → ⊥)

-- ---- own: the values that octets encode; laws prove that this agrees with the relation above

-- the value that was read, without the octets after it
abbrev pub part_of_tlv : TlvData → Part
part_of_tlv r = record { tag = r.tag; content = r.content }

-- values before others, if there are others (None stays None)
abbrev pub prepend_values : List Part → Option (List Part) → Option (List Part)
prepend_values front = option_map (λ parts. front ++ parts)

-- a value that was read, before those in the rest, if the rest are values
abbrev pub with_value_first : Result TlvData BerFault → (List ℕ → Option (List Part))
    → Option (List Part)
with_value_first (Ok r) rest = prepend_values (part_of_tlv r ∷ []) (rest r.rest)
with_value_first (Err fault) rest = None

-- the values that the octets encode, if there are at most `most`
unfoldable pub values_within : ℕ → List ℕ → Option (List Part)
values_within most [] = Some []
values_within zero (octet ∷ octets) = None
values_within (suc most) (octet ∷ octets) =
    with_value_first (tlv_at (octet ∷ octets)) (values_within most)

-- the values that the octets encode, one after another; a value has at least two octets, so there
-- are fewer values than octets (X.690 8.9, 8.10)
unfoldable pub values_in : List ℕ → Option (List Part)
values_in octets = values_within (length octets) octets

-- the value of a list with one value
abbrev pub only_one : List Part → Option Part
only_one (part ∷ []) = Some part
only_one parts = None

-- the value, if the octets encode exactly one
abbrev pub value_in : List ℕ → Option Part
value_in octets = values_in octets >>= only_one

-- the values, if there are at most five
abbrev pub at_most_five : List Part → Option (List Part)
at_most_five parts = if nat_lt (length parts) 6 then Some parts else None

-- the values that the octets encode, if there are at most five
abbrev pub few_in : List ℕ → Option (List Part)
few_in octets = values_in octets >>= at_most_five

-- whether the value's tag is one of these
abbrev pub has_tag_among : List Tag → Part → Bool
has_tag_among tags part = list_any (λ tag. same_tag part.tag tag) tags

-- the known values with this one appended, if its tag is one of these
abbrev pub append_if_tagged : List Tag → List Part → Part → List Part
append_if_tagged tags known part = if has_tag_among tags part then known ++ part ∷ [] else known

-- of the values that the octets encode, those whose tags are among these, in order, if they are at
-- most five
unfoldable pub values_with_tags : List Tag → List ℕ → Option (List Part)
values_with_tags tags octets =
    values_in octets >>= λ parts. at_most_five (filter (has_tag_among tags) parts)

-- the results of reading each value, or None if one can't be read
abbrev pub read_each : {B : Type 0} → (Part → Option B) → List Part → Option (List B)
read_each f [] = Some []
read_each f (part ∷ parts) = f part >>= λ x. read_each f parts >>= λ xs. Some (x ∷ xs)

-- the results of reading each value that the octets encode, or None if one can't be read
abbrev pub each_in : {B : Type 0} → (Part → Option B) → List ℕ → Option (List B)
each_in f octets = values_in octets >>= read_each f

-- the content of a value, if the value has this tag (X.690 8.14)
abbrev pub content_with_tag : Tag → Part → Option (List ℕ)
content_with_tag tag part = if same_tag part.tag tag then Some part.content else None

-- the integer of a value, if the value has this tag
unfoldable pub integer_under : Tag → Part → Option ℤ
integer_under tag part = content_with_tag tag part >>= integer_in

-- the result of reading the next value, and the octets left, by the function `values_in`
abbrev pub NextByFunction : List ℕ → Result (Option Value) BerFault → List ℕ → Type 0
NextByFunction old (Ok None) new = values_in old ≡ Some []
NextByFunction old (Ok (Some value)) new =
    values_in old ≡ prepend_values (part_of value ∷ []) (values_in new)
NextByFunction old (Err fault) new = values_in old ≡ None
