use Rattle.std.proofs.Common.{◌≡◌, ◌+◌, List, length}
use Rattle.il_image.specs.declared.value.Value.{Value}
use Rattle.il_range.specs.Outcomes.{RunEnds}
use Rattle.il_range.specs.Ranges.{AreIn, AreTimersIn, Setting}
use Rattle.il_range.proofs.PassLemmas.{Follows}
use Rattle.il_range.proofs.pass.run_pass.Given as goal

abbrev pub invariant-loop-offset : goal.invariant-loop-offset
invariant-loop-offset l = record {
  size : length l.pending.items ≡ length l.code + 1;
  follows : (w : Setting) (given after : List Value) → AreIn w given l.fn.first.slots.items
      → (e : RunEnds l.code given after) → AreTimersIn w e.now e.timers l.fn.first.timers.items
      → Follows l.code w e.now after e.timers_after l.offset l.pending.items;
}
