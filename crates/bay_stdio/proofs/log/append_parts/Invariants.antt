use Rattle.std.proofs.Common.{◌≤◌, drop, length}
use Rattle.bay_io.specs.Calls.{parts_text}
use Rattle.bay_stdio.proofs.LogLemmas.{Added}
use Rattle.bay_stdio.proofs.log.append_parts.Given as goal

abbrev pub invariant-loop-part : goal.invariant-loop-part
invariant-loop-part l = record {
  added : Added l.initial.waiting (parts_text l.parts) (parts_text (drop l.part-index l.parts))
      l.waiting;
  within : length l.waiting ≤ 65536;
}
