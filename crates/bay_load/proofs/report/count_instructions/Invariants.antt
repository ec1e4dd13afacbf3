use Rattle.std.proofs.Common.{◌≡◌, ◌-◌, ◌≤◌, length, Some}
use Rattle.il_image.specs.Tables.{offset_of}
use Rattle.bay_load.proofs.report.count_instructions.Given as goal

abbrev pub invariant-loop-next : goal.invariant-loop-next
invariant-loop-next l = record {
  few : l.count ≤ l.offset;
  within : l.offset ≤ length l.code;
  counted : offset_of l.code l.count ≡ Some l.offset;
}

abbrev pub decreases-loop-next : goal.decreases-loop-next
decreases-loop-next l = length l.code - l.offset
