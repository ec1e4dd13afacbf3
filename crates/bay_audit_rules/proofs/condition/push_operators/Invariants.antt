use Rattle.std.proofs.Common.{◌≡◌, length}
use Rattle.bay_audit_rules.specs.Running.{append_operators}
use Rattle.bay_audit_rules.proofs.condition.push_operators.Given as goal

abbrev pub invariant-loop-draft : goal.invariant-loop-draft
invariant-loop-draft l =
    append_operators l.stack l.draft ≡ append_operators l.initial.stack l.initial.draft

abbrev pub decreases-loop-draft : goal.decreases-loop-draft
decreases-loop-draft l = length l.stack
