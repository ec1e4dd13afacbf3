-- Inner: the indices of an image's points, by access, and the test of inputs.
use Rattle.std.specs.Prelude.{ℕ, ℤ, ◌≡◌, ◌+◌, ◌<◌, ◌&&◌, Bool, true, false, is_some, List, [], ◌∷◌, drop, slice_get, slice_index_or, slice_set, Some, if◌then◌else◌}
use Rattle.bay_base.specs.Types.{same_type}
use Rattle.bay_base.specs.declared.types.ElementaryType.{ElementaryType}
use Rattle.il_image.specs.Images.{IsValue}
use Rattle.il_image.specs.Values.{number_of, type_of, value_of}
use Rattle.il_image.specs.declared.image.ImagePoint.{ImagePoint}
use Rattle.il_image.specs.declared.value.Value.{Value}
use Rattle.il_scan.specs.Words.{slot_at}

-- ---- indices

-- the indices of the points that may only be read; the first point has the index n
abbrev pub read_indices : ℕ → List ImagePoint → List ℕ
read_indices n [] = []
read_indices n (p ∷ points) =
    if p.writable then read_indices (n + 1) points else n ∷ read_indices (n + 1) points

-- the indices of the points that may be written; the first point has the index n
abbrev pub write_indices : ℕ → List ImagePoint → List ℕ
write_indices n [] = []
write_indices n (p ∷ points) =
    if p.writable then n ∷ write_indices (n + 1) points else write_indices (n + 1) points

-- the slots with the words at these indices
abbrev pub with_words : List ℕ → List ℤ → List ℤ → List ℤ
with_words [] words slots = slots
with_words (n ∷ indices) [] slots = slots
with_words (n ∷ indices) (w ∷ words) slots = with_words indices words (slice_set slots n w)

-- Each index is below the bound.
abbrev pub AllBelow : ℕ → List ℕ → Type 0
AllBelow most [] = Unit {0}
AllBelow most (n ∷ indices) = (n < most) × AllBelow most indices

-- Each index is above this one.
abbrev pub AllAbove : ℕ → List ℕ → Type 0
AllAbove least [] = Unit {0}
AllAbove least (n ∷ indices) = (least < n) × AllAbove least indices

-- Each index is above those before it.
abbrev pub IsRising : List ℕ → Type 0
IsRising [] = Unit {0}
IsRising (n ∷ indices) = AllAbove n indices × IsRising indices

-- ---- inputs and outputs

-- The k-th input, if there is one, is of the k-th type, and the slot at the k-th index has its
-- word.
pub record IsPut (indices : List ℕ) (types : List ElementaryType) (values : List Value)
    (slots : List ℤ) (k : ℕ) : Type 0 where
  pub word : (v : Value) → slice_get values k ≡ Some v
      → slot_at slots (slice_index_or indices k 0) ≡ number_of v
  pub typed : (t : ElementaryType) (v : Value) → slice_get types k ≡ Some t
      → slice_get values k ≡ Some v → (type_of v ≡ t) × IsValue v

-- Each value is in the range of its type.
abbrev pub AreValues : List Value → Type 0
AreValues values = (k : ℕ) (v : Value) → slice_get values k ≡ Some v → IsValue v

-- whether the value is one of the type
abbrev pub is_of : ElementaryType → Value → Bool
is_of t v = same_type (type_of v) t && is_some (value_of t (number_of v))

-- whether there is a first input and it is of the type
abbrev pub begins_with : ElementaryType → List Value → Bool
begins_with t [] = false
begins_with t (input ∷ inputs) = is_of t input

-- whether the inputs fit the points, as `AreInputs` defines it
abbrev pub are_inputs : List ImagePoint → List Value → Bool
are_inputs [] [] = true
are_inputs [] (input ∷ inputs) = false
are_inputs (p ∷ points) inputs =
    if p.writable then are_inputs points inputs
    else (begins_with p.elementary inputs && are_inputs points (drop 1 inputs))

-- the number of points that may be written
abbrev pub writable_count : List ImagePoint → ℕ
writable_count [] = 0
writable_count (p ∷ points) = (if p.writable then 1 else 0) + writable_count points
