use Rattle.std.proofs.Common.{◌≤◌, length, drop, map}
use Rattle.il_check.specs.ProgramViews.{item_view}
use Rattle.il_compile.specs.Continuation.{HasNoPending}
use Rattle.il_compile.proofs.continuation.compile_all.Given as goal

abbrev pub invariant-loop-at : goal.invariant-loop-at
invariant-loop-at l = record {
  within : l.at ≤ length l.items;
  settled : HasNoPending l.externals (map item_view (drop l.at l.items)) l.continuation;
}

abbrev pub decreases-loop-at : goal.decreases-loop-at
decreases-loop-at l = l.at
