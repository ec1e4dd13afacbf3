-- A case has exactly the processes that its text allows, by each position, input and measured
-- value.
use Rattle.std.specs.Prelude.{◌≡◌, ◌↔◌, true, List}
use Rattle.bay_audit_rules.specs.Process.{Process}
use Rattle.bay_audit.specs.Cases.{IsWithin, example_of, is_in}
use Rattle.bay_audit.specs.Process.{IsProcess}
use Rattle.bay_audit.specs.declared.case.TestAnswer.{TestAnswer}

-- A process is in a case if and only if the case allows each of its values.
abbrev pub CasesAreReported : Type 0
CasesAreReported =
    (case : List TestAnswer) (p : Process) → IsProcess p → is_in case p ≡ true ↔ IsWithin case p

-- If a case has a process, it has its example.
abbrev pub CasesHaveExamples : Type 0
CasesHaveExamples =
    (case : List TestAnswer) (p : Process) → IsProcess p → is_in case p ≡ true
    → is_in case (example_of case) ≡ true
