use Rattle.std.proofs.Common.{◌≡◌, ◌+◌, ◌≤◌, drop}
use Rattle.il_text.specs.Places.{last_line}
use Rattle.il_text.proofs.read.last_line_of.Given as goal

abbrev pub invariant-loop-i : goal.invariant-loop-i
invariant-loop-i l = record {
  same : last_line l.text + 1 ≡ l.line + last_line (drop l.i l.text);
  small : l.line ≤ l.i + 1;
}
