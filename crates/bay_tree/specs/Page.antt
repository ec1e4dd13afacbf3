-- The names after a name, as a client reads them page by page (ISO 9506-1, GetNameList).
use Rattle.std.specs.Prelude.{◌≢◌, ℕ, Option, Some, None, List, length, take, nat_lt, All}
use Rattle.std.specs.List.{after_first}
use Rattle.std.specs.Str.{bytes_eq}
use Rattle.bay_tree.specs.declared.row.Row.{Row}
use Rattle.bay_tree.specs.declared.page.NamesPage.{NamesPage}
use Rattle.bay_tree.specs.Rows.{names_of}

-- the rows after the row with a name; without a name, all rows
abbrev pub rows_after : List Row → Option (List ℕ) → List Row
rows_after rows None = rows
rows_after rows (Some name) = after_first (λ row. bytes_eq row.name name) rows

-- the first `count` names after a name, and whether there are more
abbrev pub page_after : List Row → Option (List ℕ) → ℕ → NamesPage
page_after rows name count =
    record {
      names = names_of (take count (rows_after rows name));
      more = nat_lt count (length (rows_after rows name));
    }

-- a name that no row has
abbrev pub IsUnknown : List Row → Option (List ℕ) → Type 0
IsUnknown rows None = ⊥
IsUnknown rows (Some name) = All (λ row. row.name ≢ name) rows
