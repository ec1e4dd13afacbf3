-- The type of a value.
use Rattle.bay_tree.specs.declared.leaf.Leaf.{Leaf}
use Rattle.bay_tree.specs.declared.leaf.Leaf.TheVariants as leaf
use Rattle.bay_tree.specs.declared.leaf.LeafType.{LeafType}
use Rattle.bay_tree.specs.declared.leaf.LeafType.TheVariants as leaf_type

-- the type of a value, which has the same name
abbrev pub leaf_type_of : Leaf → LeafType
leaf_type_of (leaf.Truth b) = leaf_type.Truth
leaf_type_of (leaf.Dbpos p) = leaf_type.Dbpos
leaf_type_of (leaf.Quality q) = leaf_type.Quality
leaf_type_of (leaf.Int8 n) = leaf_type.Int8
leaf_type_of (leaf.Int32 n) = leaf_type.Int32
leaf_type_of (leaf.Unsigned8 n) = leaf_type.Unsigned8
leaf_type_of (leaf.Unsigned32 n) = leaf_type.Unsigned32
leaf_type_of (leaf.Float n) = leaf_type.Float
leaf_type_of (leaf.Octets o) = leaf_type.Octets
leaf_type_of (leaf.Reference t) = leaf_type.Reference
leaf_type_of (leaf.Text t) = leaf_type.Text
leaf_type_of (leaf.Utc ms) = leaf_type.Utc
