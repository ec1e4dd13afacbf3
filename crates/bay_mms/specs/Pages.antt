-- Pages of names (ISO 9506-2, GetNameList-Response).
use Rattle.std.specs.Prelude.{ℕ, zero, suc, pos, ◌+◌, ◌≤◌, min, Bool, false, Option, Some, None, List, [], ◌∷◌, ◌++◌, length, take, drop, get_or, nat_lt, nat_le, if◌then◌else◌}
use Rattle.bay_ber.specs.Writing.{element, element_length, integer_octets, truth_octets}
use Rattle.bay_tree.specs.declared.row.Row.{Row}
use Rattle.bay_tree.specs.Rows.{names_of}
use Rattle.bay_mms.specs.Responses.{confirmed_response, names_text, page_text}
use Rattle.bay_ber.specs.Tags.{constructed, context, visible_tag}

-- ---- own: pages of names

-- the greatest number from 1 up to a bound that passes a test; 0 if none does
unfoldable pub greatest : (ℕ → Bool) → ℕ → ℕ
greatest test zero = 0
greatest test (suc n) = if test (suc n) then suc n else greatest test n

-- whether the response with this invoke id that lists these names has at most `size` octets
abbrev pub fits : ℕ → ℕ → List (List ℕ) → Bool
fits id size names = nat_le (length (page_text id names false)) size

-- the number of names on a page: as many of the first names as fit into a PDU of this size, at most
-- 100
abbrev pub names_on_page : ℕ → ℕ → List (List ℕ) → ℕ
names_on_page id size names = greatest (λ n. fits id size (take n names)) (min 100 (length names))

-- the response with this page, and whether more names follow (ISO 9506-2, GetNameList-Response)
abbrev pub first_page : ℕ → ℕ → List (List ℕ) → List ℕ
first_page id size names =
    page_text id (take (names_on_page id size names) names)
    (nat_lt (names_on_page id size names) (length names))

-- ---- own: pages of names as the code makes them

-- the offset at which each name ends in the text of all names, if the text begins at `start`
abbrev pub ends_from : ℕ → List (List ℕ) → List ℕ
ends_from start [] = []
ends_from start (name ∷ names) =
    (start + length (element visible_tag name))
    ∷ ends_from (start + length (element visible_tag name)) names

-- the text of names as a response lists them, one after another, and the offset at which each ends
pub record NameTextsData : Type 0 where
  pub octets : List ℕ
  pub ends : List ℕ

-- the text of these names
abbrev pub encoded_names : List (List ℕ) → NameTextsData
encoded_names names = record { octets = names_text names; ends = ends_from 0 names }

-- the offset at which the name with this index begins, from the ends of all names
abbrev pub begin_at : List ℕ → ℕ → ℕ
begin_at ends zero = 0
begin_at ends (suc index) = get_or ends index 0

-- no name ends before the one before it, and none after the end of the text
pub record AreEnds (ends : List ℕ) (count : ℕ) : Type 0 where
  pub rise : (a b : ℕ) → a ≤ b → b ≤ length ends → begin_at ends a ≤ begin_at ends b
  pub within : (index : ℕ) → index ≤ length ends → begin_at ends index ≤ count

-- the names of the rows from an index on, if there is one
abbrev pub names_from : List Row → Option ℕ → List (List ℕ)
names_from rows None = []
names_from rows (Some index) = names_of (drop index rows)

-- the response that lists the names with these texts (ISO 9506-2, GetNameList-Response)
abbrev pub response_of_texts : ℕ → List ℕ → Bool → List ℕ
response_of_texts id texts more =
    confirmed_response id (element (constructed 1)
    (element (constructed 0) texts ++ element (context 1) (truth_octets more)))

-- the number of octets of a response whose invoke id takes `id` octets and whose names take `names`
-- octets
abbrev pub length_of_page : ℕ → ℕ → ℕ
length_of_page id names = element_length (id + element_length (element_length names + 3))

-- the number of octets of a response with this invoke id whose names take `names` octets
abbrev pub page_length_with_id : ℕ → ℕ → ℕ
page_length_with_id id names =
    length_of_page (element_length (length (integer_octets (pos id)))) names
