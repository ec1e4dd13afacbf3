use Rattle.std.proofs.Common.{◌≡◌, length, take}
use Rattle.bay_trace.specs.Digits.{octets_or_empty}
use Rattle.bay_trace.proofs.octets.decode.Given as goal

abbrev pub invariant-loop-i : goal.invariant-loop-i
invariant-loop-i l = record {
  sized : length l.room ≡ length l.initial.room;
  done : take l.i l.room ≡ take l.i (octets_or_empty l.text);
}
