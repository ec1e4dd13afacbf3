use Rattle.bay_tree.proofs.IndexLemmas.{IsIndexing}
use Rattle.bay_tree.proofs.index.build_index.Given as goal

-- the index of the rows from this one on
abbrev pub invariant-loop-place : goal.invariant-loop-place
invariant-loop-place l = IsIndexing l.place l.rows l.longest l.first.items l.next.items
