-- What a mark leaves as it was: how many rows there are, and their names.
use Rattle.std.proofs.Common.{◌≡◌, ℕ, true, Option, Some, None, List, [], refl}
use Rattle.std.proofs.Math.Seq.{map-set_same}
use Rattle.bay_tree.specs.declared.row.Row.{Row}
use Rattle.bay_tree.specs.declared.leaf.Leaf.TheVariants as leaf
use Rattle.bay_tree.specs.Rows.{name_at, names_of}
use Rattle.bay_mms.specs.Marks.{rows_marked}

pub names_of-marked : (marked : Option ℕ) (rows : List Row)
    → names_of (rows_marked marked rows) ≡ names_of rows
names_of-marked None rows = refl
names_of-marked (Some index) rows =
    map-set_same (λ (r : Row). r.name) rows index
    (record { name = name_at rows index; leaf = Some (leaf.Truth true) })
    (record { name = []; leaf = None }) refl
