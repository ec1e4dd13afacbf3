use Rattle.std.proofs.Common.{◌≡◌, ℕ, ◌<◌, length, get_or}
use Rattle.bay_diagram.proofs.walk.own_labels.Given as goal

abbrev pub invariant-loop-n : goal.invariant-loop-n
invariant-loop-n l =
    ((d k : ℕ) → k < l.n → get_or l.labels k d ≡ k) × (length l.labels ≡ 256)
