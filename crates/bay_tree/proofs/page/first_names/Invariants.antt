use Rattle.std.proofs.Common.{◌≡◌, take}
use Rattle.bay_tree.specs.Rows.{names_of}
use Rattle.bay_tree.proofs.page.first_names.Given as goal

-- the names of the rows so far
abbrev pub invariant-loop-row : goal.invariant-loop-row
invariant-loop-row l = l.names.items ≡ names_of (take l.row-index l.first)
