use Rattle.std.proofs.Common.{length}
use Rattle.bay_tree.proofs.IndexLemmas.{IsSought, rows_left}
use Rattle.bay_tree.proofs.index.Index.find.Given as goal

-- the name is yet to be sought from the place on
abbrev pub invariant-loop-at : goal.invariant-loop-at
invariant-loop-at l = IsSought l.rows l.self l.name l.at

abbrev pub decreases-loop-at : goal.decreases-loop-at
decreases-loop-at l = rows_left (length l.rows) l.at
