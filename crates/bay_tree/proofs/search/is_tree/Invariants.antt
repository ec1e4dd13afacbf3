use Rattle.std.proofs.Common.{ℕ, ◌<◌}
use Rattle.bay_tree.proofs.TreeLemmas.{IsInPlace}
use Rattle.bay_tree.proofs.search.is_tree.Given as goal

-- each row so far can stand at its place
abbrev pub invariant-loop-place : goal.invariant-loop-place
invariant-loop-place l = (k : ℕ) → k < l.place → IsInPlace l.rows k
