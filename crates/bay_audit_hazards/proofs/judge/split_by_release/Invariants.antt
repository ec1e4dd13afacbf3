use Rattle.std.proofs.Common.{vec_len}
use Rattle.bay_audit_hazards.proofs.ReleaseLemmas.{ArePartedSo}
use Rattle.bay_audit_hazards.proofs.judge.split_by_release.Given as goal

abbrev pub decreases-loop-reported : goal.decreases-loop-reported
decreases-loop-reported l = vec_len l.cases

abbrev pub invariant-loop-reported : goal.invariant-loop-reported
invariant-loop-reported l =
    ArePartedSo l.fn.cases.items l.cases.items l.released.items l.undecided.items
