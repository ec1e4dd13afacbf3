use Rattle.std.proofs.Common.{◌≡◌, ◌++◌, drop}
use Rattle.std.specs.List.{flat_map}
use Rattle.cmd_audit.specs.Text.{case_text, point_text}
use Rattle.cmd_audit.proofs.text.put_case.Given as goal

abbrev pub invariant-loop-point : goal.invariant-loop-point
invariant-loop-point l =
    l.fn.text.items ++ case_text l.bay l.case
    ≡ l.text.items ++ flat_map (point_text l.bay l.case) (drop l.point-index l.bay.points)
