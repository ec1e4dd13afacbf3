-- The type of a named variable (ISO 9506-2, TypeSpecification) and its canonical text.
use Rattle.std.specs.Prelude.{ℕ, ℤ, pos, negsuc, List, [], ◌++◌}
use Rattle.bay_tree.specs.declared.leaf.Leaf.{Leaf}
use Rattle.bay_tree.specs.declared.leaf.Leaf.TheVariants as leaf
use Rattle.bay_ber.specs.Writing.{element, integer_octets}
use Rattle.bay_ber.specs.Tags.{context, constructed, int_tag, sequence}

-- ---- ISO 9506-2 TypeSpecification: types and their text

mutual
  pub data TypeSpec : Type 0 where
    structure : Components → TypeSpec
    plain : ℕ → TypeSpec
    sized : ℕ → ℤ → TypeSpec
    float : ℕ → ℕ → TypeSpec

  pub data Components : Type 0 where
    no_components : Components
    component : List ℕ → TypeSpec → Components → Components

-- The canonical text. A simple type is its tag and its size, a number of bits or octets; a negative
-- size is a maximum. A float is its width and that of its exponent, in bits. A structure is the names
-- and the types of its components.
abbrev mutual
  pub type_text : TypeSpec → List ℕ
  type_text (structure parts) =
      element (constructed 2) (element (constructed 1) (components_text parts))
  type_text (plain tag) = element (context tag) []
  type_text (sized tag size) = element (context tag) (integer_octets size)
  type_text (float width exponent) =
      element (constructed 7)
      (element int_tag (integer_octets (pos width))
      ++ element int_tag (integer_octets (pos exponent)))

  pub components_text : Components → List ℕ
  components_text no_components = []
  components_text (component name first later) =
      element sequence (element (context 0) name ++ element (constructed 1) (type_text first))
      ++ components_text later

-- the type of a leaf: numbers and bit strings with their number of bits, a float also with that of
-- its exponent, octets and texts with their greatest length (IEC 61850-8-1, BasicTypes)
abbrev pub leaf_type_spec : Leaf → TypeSpec
leaf_type_spec (leaf.Truth value) = plain 3
leaf_type_spec (leaf.Dbpos value) = sized 4 (pos 2)
leaf_type_spec (leaf.Quality value) = sized 4 (pos 13)
leaf_type_spec (leaf.Int8 value) = sized 5 (pos 8)
leaf_type_spec (leaf.Int32 value) = sized 5 (pos 32)
leaf_type_spec (leaf.Unsigned8 value) = sized 6 (pos 8)
leaf_type_spec (leaf.Unsigned32 value) = sized 6 (pos 32)
leaf_type_spec (leaf.Float number) = float 32 8
leaf_type_spec (leaf.Octets value) = sized 9 (negsuc 63)
leaf_type_spec (leaf.Reference value) = sized 10 (negsuc 128)
leaf_type_spec (leaf.Text value) = sized 10 (negsuc 254)
leaf_type_spec (leaf.Utc ms) = plain 17
