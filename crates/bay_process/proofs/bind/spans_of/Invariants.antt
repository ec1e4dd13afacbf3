use Rattle.std.proofs.Common.{◌≡◌, length}
use Rattle.bay_process.specs.Scans.{AreSpanned}
use Rattle.bay_process.proofs.bind.spans_of.Given as goal

abbrev pub invariant-loop-switch : goal.invariant-loop-switch
invariant-loop-switch l = record {
  sized : length l.spans.items ≡ l.switch;
  spanned : AreSpanned l.reads l.spans.items;
}
