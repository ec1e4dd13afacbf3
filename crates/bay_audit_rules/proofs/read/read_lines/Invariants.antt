use Rattle.std.proofs.Common.{◌≤◌, ◌+◌, List, Result, length}
use Rattle.std.specs.List.{slice_split}
use Rattle.bay_audit_rules.specs.declared.fault.RuleFault.{RuleFault}
use Rattle.bay_audit_rules.specs.declared.rule.Rule.{Rule}
use Rattle.bay_audit_rules.specs.Meaning.{AllRead, LinesRead, prepend_rules, is_line_end}
use Rattle.bay_audit_rules.proofs.read.read_lines.Given as goal

abbrev pub invariant-loop-rules : goal.invariant-loop-rules
invariant-loop-rules l = record {
  read : (r : Result (List Rule) RuleFault)
      → LinesRead l.bay l.line (length l.rules.items) (slice_split is_line_end l.rest) r
      → AllRead l.bay l.text (prepend_rules l.rules.items r);
  within : l.line + length l.rest ≤ length l.text + 1;
  few : length l.rules.items ≤ 1000;
}

abbrev pub decreases-loop-rules : goal.decreases-loop-rules
decreases-loop-rules l = length l.rest
