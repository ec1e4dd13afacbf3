use Rattle.std.proofs.Common.{◌≡◌, ◌++◌, drop}
use Rattle.std.specs.List.{flat_map}
use Rattle.cmd_audit.specs.Text.{cases_text, reported_case_text}
use Rattle.cmd_audit.proofs.text.put_cases.Given as goal

abbrev pub invariant-loop-release : goal.invariant-loop-release
invariant-loop-release l =
    l.fn.text.items ++ cases_text l.bay l.names l.cases
    ≡ l.text.items ++ flat_map (reported_case_text l.bay l.names) (drop l.release-index l.cases)
