use Rattle.std.proofs.Common.{◌≡◌, ◌++◌, drop}
use Rattle.cmd_audit.specs.HazardText.{unsafe_lines}
use Rattle.cmd_audit.proofs.judging_diagram.lines_of.Given as goal

abbrev pub invariant-loop-release : goal.invariant-loop-release
invariant-loop-release l =
    unsafe_lines l.bay l.diagram l.releases
    ≡ l.text.items ++ unsafe_lines l.bay l.diagram (drop l.release-index l.releases)
