use Rattle.std.proofs.Common.{◌≡◌, ◌≤◌, ◌+◌, ◌^◌, min, length, option_map}
use Rattle.bay_audit_rules.specs.Numbers.{time_of}
use Rattle.bay_audit_rules.specs.Pieces.{pieces}
use Rattle.bay_audit_rules.specs.declared.pieces.Cut.TheVariants.{Time}
use Rattle.bay_audit_rules.proofs.numbers.read_milliseconds.Given as goal

abbrev pub invariant-loop-rest : goal.invariant-loop-rest
invariant-loop-rest l = record {
  few : l.total ≤ 2 ^ 32;
  read : option_map (min (2 ^ 32)) (time_of (pieces Time l.word))
      ≡ option_map (λ t. min (2 ^ 32) (l.total + t)) (time_of (pieces Time l.rest));
}

abbrev pub decreases-loop-rest : goal.decreases-loop-rest
decreases-loop-rest l = length l.rest
