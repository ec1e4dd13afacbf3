use Rattle.std.proofs.Common.{◌≡◌, ℕ, length, take}
use Rattle.std.specs.Prelude.{filter}
use Rattle.bay_diagram.specs.Joined.{label_of}
use Rattle.bay_diagram.specs.Reading.{reading_in}
use Rattle.bay_diagram.specs.Walks.{label_in, may_lead_over}
use Rattle.bay_diagram.proofs.walk.labels_among.Given as goal

abbrev pub invariant-loop-branch : goal.invariant-loop-branch
invariant-loop-branch l =
    ((n : ℕ) → label_in l.labels n ≡ label_of
    (filter (may_lead_over l.network (reading_in l.known) l.route)
    (take l.branch-index l.branches)) n)
    × (length l.labels ≡ 256)
