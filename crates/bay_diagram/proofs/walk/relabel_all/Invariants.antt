use Rattle.std.proofs.Common.{◌≡◌, ◌≤◌, ℕ, ◌<◌, length, get_or}
use Rattle.bay_diagram.specs.Joined.{relabel}
use Rattle.bay_diagram.proofs.walk.relabel_all.Given as goal

abbrev pub invariant-loop-n : goal.invariant-loop-n
invariant-loop-n l =
    ((d k : ℕ) → k < l.n → get_or l.labels k d ≡ relabel l.from l.to (get_or l.initial.labels k 0))
    × ((d k : ℕ) → l.n ≤ k → get_or l.labels k d ≡ get_or l.initial.labels k d)
    × (length l.labels ≡ 256)
