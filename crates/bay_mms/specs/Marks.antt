-- The rows of a tree as clients see them.
use Rattle.std.specs.Prelude.{ℕ, true, Option, Some, None, List}
use Rattle.bay_tree.specs.declared.row.Row.{Row}
use Rattle.bay_tree.specs.declared.leaf.Leaf.TheVariants as leaf
use Rattle.bay_tree.specs.Rows.{with_leaf}

-- ---- own: rows as clients see them

-- the rows with TRUE at the marked row, if there is one
abbrev pub rows_marked : Option ℕ → List Row → List Row
rows_marked None rows = rows
rows_marked (Some index) rows = with_leaf rows index (leaf.Truth true)
