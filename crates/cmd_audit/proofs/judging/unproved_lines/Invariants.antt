use Rattle.std.proofs.Common.{◌≡◌, ◌++◌, drop, zip}
use Rattle.cmd_audit.specs.Judging.{unproved_text}
use Rattle.cmd_audit.proofs.judging.unproved_lines.Given as goal

abbrev pub invariant-loop-i : goal.invariant-loop-i
invariant-loop-i l =
    unproved_text l.bay l.names (zip l.rules l.answers)
    ≡ l.text.items ++ unproved_text l.bay l.names (zip (drop l.i l.rules) (drop l.i l.answers))
