use Rattle.std.proofs.Common.{◌≡◌, drop, length}
use Rattle.bay_audit_rules.specs.Facts.{◌⊕◌}
use Rattle.bay_audit_rules.specs.Running.{more_at}
use Rattle.bay_audit_rules.proofs.condition.read_more_values.Given as goal

abbrev pub invariant-loop-others : goal.invariant-loop-others
invariant-loop-others l = record {
  items : l.draft ⊕ (more_at l.named l.rest).0
      ≡ l.initial.draft ⊕ (more_at l.named l.initial.rest).0;
  rest : drop (more_at l.named l.rest).1 l.rest
      ≡ drop (more_at l.named l.initial.rest).1 l.initial.rest;
}

abbrev pub decreases-loop-others : goal.decreases-loop-others
decreases-loop-others l = length l.rest
