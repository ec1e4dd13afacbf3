-- The order of the rows.
use Rattle.std.specs.Prelude.{ℕ, Option, Some, None, List, length, nat_lt, if◌then◌else◌}
use Rattle.bay_tree.specs.declared.row.Row.{Row}

-- an index, if there is a row at it
abbrev pub index_if : List Row → ℕ → Option ℕ
index_if rows place = if nat_lt place (length rows) then Some place else None
