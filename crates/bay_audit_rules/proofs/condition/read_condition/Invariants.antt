use Rattle.std.proofs.Common.{◌≡◌, length}
use Rattle.bay_audit_rules.specs.Running.{state, found_after_tokens, condition_at}
use Rattle.bay_audit_rules.specs.Advances.{phase_of}
use Rattle.bay_audit_rules.proofs.condition.read_condition.Given as goal

abbrev pub invariant-loop-token : goal.invariant-loop-token
invariant-loop-token l =
    condition_at l.tokens ≡ found_after_tokens (phase_of l.expects) (state l.stack l.draft) l.rest

abbrev pub decreases-loop-token : goal.decreases-loop-token
decreases-loop-token l = length l.rest
