-- The order of the kinds, and the values of each kind.
use Rattle.std.specs.Prelude.{pos, ◌≡◌, Bool, true, false, IsTrue, List, [], ◌∷◌, if◌then◌else◌}
use Rattle.bay_base.specs.Types.{same_type}
use Rattle.il_image.specs.declared.kind.CellKind.{CellKind}
use Rattle.il_image.specs.declared.kind.CellKind.TheVariants.{Any, Plain, NotZero}
use Rattle.il_image.specs.declared.value.Value.{Value}
use Rattle.il_image.specs.Arithmetic.{type_of_width}
use Rattle.il_image.specs.Values.{number_of, type_of}

-- ---- own: what the verifier knows of cells

-- whether every value of the first kind is one of the second: a nonzero number is a number of its
-- type, and every value is one of `Any`
abbrev pub is_within : CellKind → CellKind → Bool
is_within lower Any = true
is_within (Plain t) (Plain u) = same_type t u
is_within (NotZero w) (Plain t) = same_type (type_of_width w) t
is_within (NotZero w) (NotZero v) = same_type (type_of_width w) (type_of_width v)
is_within Any (Plain t) = false
is_within Any (NotZero w) = false
is_within (Plain t) (NotZero w) = false

-- the least kind that includes both
abbrev pub join : CellKind → CellKind → CellKind
join a b = if is_within a b then b else (if is_within b a then a else Any)

-- The value has the kind.
abbrev pub HasKind : Value → CellKind → Type 0
HasKind v Any = Unit {0}
HasKind v (Plain t) = type_of v ≡ t
HasKind v (NotZero w) = (type_of v ≡ type_of_width w) × (number_of v ≡ pos 0 → ⊥)

-- The lists have the same length, and each kind is within the one at the same index.
abbrev pub AreWithin : List CellKind → List CellKind → Type 0
AreWithin [] [] = Unit {0}
AreWithin (a ∷ lower) (b ∷ upper) = IsTrue (is_within a b) × AreWithin lower upper
AreWithin [] (b ∷ upper) = ⊥
AreWithin (a ∷ lower) [] = ⊥
