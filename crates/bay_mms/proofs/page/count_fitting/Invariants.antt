use Rattle.std.proofs.Common.{◌-◌, ◌≤◌}
use Rattle.bay_mms.proofs.PageLemmas.{Fits}
use Rattle.bay_mms.proofs.page.count_fitting.Given as goal

abbrev pub invariant-loop-count : goal.invariant-loop-count
invariant-loop-count l =
    (l.count ≤ l.most) × Fits l.names.ends l.head l.size l.start l.count

abbrev pub decreases-loop-count : goal.decreases-loop-count
decreases-loop-count l = l.most - l.count
