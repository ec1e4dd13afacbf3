-- Words that encode typed values.
use Rattle.std.specs.Prelude.{ℕ, ℤ, pos, ◌≡◌, false, List, [], ◌∷◌, map, slice_index_or, unwrap_or}
use Rattle.bay_base.specs.declared.types.ElementaryType.{ElementaryType}
use Rattle.il_image.specs.declared.value.Value.{Value}
use Rattle.il_image.specs.declared.value.Value.TheVariants.{Truth}
use Rattle.il_image.specs.Images.{IsValue}
use Rattle.il_image.specs.Values.{number_of, type_of, value_of}

-- The values are of these types, one by one.
abbrev pub AreTyped : List ElementaryType → List Value → Type 0
AreTyped [] [] = Unit {0}
AreTyped (t ∷ types) (v ∷ values) = ((type_of v ≡ t) × IsValue v) × AreTyped types values
AreTyped [] (v ∷ values) = ⊥
AreTyped (t ∷ types) [] = ⊥

-- the words of values: their numbers
abbrev pub words_of : List Value → List ℤ
words_of values = map number_of values

-- The words encode these values, which are of these types.
pub record EncodeValues (types : List ElementaryType) (words : List ℤ) (values : List Value)
    : Type 0 where
  pub are : words ≡ words_of values
  pub typed : AreTyped types values

-- the value of a type that a word encodes; FALSE if it encodes none
abbrev pub value_at : ElementaryType → ℤ → Value
value_at t w = unwrap_or (value_of t w) (Truth false)

-- the values of these types that words encode
abbrev pub values_of : List ElementaryType → List ℤ → List Value
values_of [] words = []
values_of (t ∷ types) [] = []
values_of (t ∷ types) (w ∷ words) = value_at t w ∷ values_of types words

-- the word of a slot; 0 if there is no such slot
abbrev pub slot_at : List ℤ → ℕ → ℤ
slot_at slots n = slice_index_or slots n (pos 0)
