use Rattle.std.proofs.Common.{◌≡◌, length}
use Rattle.bay_audit_hazards.specs.Parts.{AllowInputs}
use Rattle.bay_audit_hazards.proofs.evaluation.inputs_in.Given as goal

abbrev pub invariant-loop-input : goal.invariant-loop-input
invariant-loop-input l = record {
  long : length l.sets.items ≡ l.input;
  allow : AllowInputs l.case l.input l.sets.items;
}
