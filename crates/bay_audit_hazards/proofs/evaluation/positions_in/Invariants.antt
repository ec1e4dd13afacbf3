use Rattle.std.proofs.Common.{◌≡◌, length}
use Rattle.bay_audit_hazards.specs.Parts.{AllowPositions}
use Rattle.bay_audit_hazards.proofs.evaluation.positions_in.Given as goal

abbrev pub invariant-loop-switch : goal.invariant-loop-switch
invariant-loop-switch l = record {
  long : length l.sets.items ≡ l.switch;
  allow : AllowPositions l.case l.switch l.sets.items;
}
