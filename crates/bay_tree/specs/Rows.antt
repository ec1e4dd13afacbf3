-- The rows of a tree: named values in one list, each structure before its parts (IEC 61850-8-1, the
-- mapping of names to MMS named variables, whose words are separated by `$`).
use Rattle.std.specs.Prelude.{◌≡◌, ◌≢◌, ℕ, ◌+◌, ◌<◌, Option, Some, None, option_map, option_and_then, IfSome, IsSomeAnd, List, [], ◌∷◌, length, map, filter, find, drop, slice_index_or, slice_set, position, if◌then◌else◌}
use Rattle.std.specs.List.{position_from}
use Rattle.std.specs.Str.{bytes_eq}
use Rattle.bay_tree.specs.declared.row.Row.{Row}
use Rattle.bay_tree.specs.declared.leaf.Leaf.{Leaf}
use Rattle.bay_tree.specs.declared.leaf.LeafType.{LeafType}
use Rattle.bay_tree.specs.LeafTypes.{leaf_type_of}
use Rattle.bay_tree.specs.Names.{parent_of, is_below}

-- the row at an index; past the last row, a structure without a name
abbrev pub row_at : List Row → ℕ → Row
row_at rows place = slice_index_or rows place (record { name = []; leaf = None })

-- the name of the row at an index; empty if there is no row
abbrev pub name_at : List Row → ℕ → List ℕ
name_at rows place = (row_at rows place).name

-- the value of the row at an index; a structure has none
abbrev pub leaf_at : List Row → ℕ → Option Leaf
leaf_at rows place = (row_at rows place).leaf

-- a row is a structure with this name
pub record IsStructureNamed (name : List ℕ) (row : Row) : Type 0 where
  pub named : row.name ≡ name
  pub structure : row.leaf ≡ None

-- names are distinct, and each name's parent is a structure before it
pub record IsTree (rows : List Row) : Type 0 where
  pub distinct : (i j : ℕ) → i < j → j < length rows → name_at rows i ≢ name_at rows j
  pub parents : (k : ℕ) → k < length rows
      → IfSome (parent_of (name_at rows k))
      (λ parent. (j : ℕ) × (j < k) × IsStructureNamed parent (row_at rows j))

-- a handle is the index of a row
abbrev pub IsHandle : List Row → ℕ → Type 0
IsHandle rows handle = handle < length rows

-- the index of the first row with a name
abbrev pub row_index : List Row → List ℕ → Option ℕ
row_index rows name = position (λ row. bytes_eq row.name name) rows

-- the values at handles, in their order
abbrev pub leaves_at : List Row → List ℕ → List (Option Leaf)
leaves_at rows handles = map (leaf_at rows) handles

-- a row's name has no parent, or the first row with the parent's name is a structure before the row
abbrev pub IsBelowStructure : List Row → ℕ → Type 0
IsBelowStructure rows place =
    IfSome (parent_of (name_at rows place))
    (λ parent. IsSomeAnd (row_index rows parent)
    (λ above. (above < place) × (leaf_at rows above ≡ None)))

-- the type of a row's value; a structure has none
abbrev pub leaf_type_at : List Row → ℕ → Option LeafType
leaf_type_at rows place = option_map leaf_type_of (leaf_at rows place)

-- the rows with the value of one row replaced
abbrev pub with_leaf : List Row → ℕ → Leaf → List Row
with_leaf rows place leaf =
    slice_set rows place (record { name = name_at rows place; leaf = Some leaf })

-- the value of the first row with a name
abbrev pub leaf_named : List ℕ → List Row → Option Leaf
leaf_named name rows = option_and_then (λ row. row.leaf) (find (λ row. bytes_eq row.name name) rows)

-- the rows with the value of the rows with this name replaced
abbrev pub with_leaf_named : List ℕ → Leaf → List Row → List Row
with_leaf_named name value rows =
    map (λ row. if bytes_eq row.name name then record { name = row.name; leaf = Some value }
    else row) rows

-- the names of the rows, in order
abbrev pub names_of : List Row → List (List ℕ)
names_of rows = map (λ row. row.name) rows

-- the types of the values of the rows, in order
abbrev pub leaf_types_of : List Row → List (Option LeafType)
leaf_types_of rows = map (λ row. option_map leaf_type_of row.leaf) rows

-- the rows below a structure: those named by its name, `$` and one word, in order
abbrev pub rows_below : List Row → List ℕ → List Row
rows_below rows parent = filter (λ row. is_below parent row.name) rows

-- the index of the first row below a structure, if the indices of the list begin at `start`
abbrev pub first_below_from : ℕ → List Row → List ℕ → Option ℕ
first_below_from start rows parent = position_from (λ row. is_below parent row.name) start rows

-- the index of the first row below the row at an index
abbrev pub first_below : List Row → ℕ → Option ℕ
first_below rows place = first_below_from 0 rows (name_at rows place)

-- the index of the next row below a parent, after an index
abbrev pub next_below : List Row → ℕ → Option (List ℕ) → Option ℕ
next_below rows place None = None
next_below rows place (Some parent) = first_below_from (place + 1) (drop (place + 1) rows) parent

-- the index of the next row below the parent of the row at an index
abbrev pub next_beside : List Row → ℕ → Option ℕ
next_beside rows place = next_below rows place (parent_of (name_at rows place))

-- the indices of the rows below a structure, if the indices of the list begin at `start`
abbrev pub indices_below_from : ℕ → List Row → List ℕ → List ℕ
indices_below_from start [] parent = []
indices_below_from start (row ∷ rows) parent =
    if is_below parent row.name then start ∷ indices_below_from (start + 1) rows parent
    else indices_below_from (start + 1) rows parent

-- the indices of the rows below a structure, in order
abbrev pub indices_below : List Row → List ℕ → List ℕ
indices_below rows parent = indices_below_from 0 rows parent

-- the indices of the rows below a structure that come after an index
abbrev pub indices_after : List Row → List ℕ → ℕ → List ℕ
indices_after rows parent place = indices_below_from (place + 1) (drop (place + 1) rows) parent

-- an index, and those of the later rows below a structure
abbrev pub indices_since : List Row → List ℕ → Option ℕ → List ℕ
indices_since rows parent None = []
indices_since rows parent (Some place) = place ∷ indices_after rows parent place
