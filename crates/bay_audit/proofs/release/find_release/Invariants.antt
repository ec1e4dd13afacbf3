use Rattle.std.proofs.Common.{◌≡◌, ◌+◌}
use Rattle.std.specs.List.{All}
use Rattle.bay_audit_rules.specs.Process.{Process}
use Rattle.bay_audit.specs.Process.{IsProcess}
use Rattle.bay_audit.specs.Rules.{AreRightInCases, HasProcess, case_count, reported_count}
use Rattle.bay_audit.proofs.release.find_release.Given as goal

abbrev pub invariant-loop : goal.invariant-loop
invariant-loop l = record {
  release : AreRightInCases l.program l.switch l.operation
      l.cases.items;
  full : All (λ c. HasProcess c.case) l.cases.items;
  left : All HasProcess l.left.items;
  one : (p : Process) → IsProcess p
      → reported_count l.cases.items p + case_count l.left.items p ≡ 1;
}
