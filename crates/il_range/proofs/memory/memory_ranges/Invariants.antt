use Rattle.il_scan.specs.Scans.{first_machine}
use Rattle.il_range.specs.Ranges.{AreIn, Setting}
use Rattle.il_range.proofs.memory.memory_ranges.Given as goal

abbrev pub invariant-loop-round : goal.invariant-loop-round
invariant-loop-round l = (w : Setting)
    → AreIn w (first_machine l.image).slots l.ranges.items
