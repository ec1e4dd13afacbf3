use Rattle.std.proofs.Common.{◌≤◌, ℕ, Bool, List, drop, length}
use Rattle.hex.specs.Hex.{encode_lower}
use Rattle.bay_trace.specs.Recording.{PutsWhole}
use Rattle.bay_trace.proofs.record_lines.put_digits.Given as goal

abbrev pub invariant-loop-octet : goal.invariant-loop-octet
invariant-loop-octet l = record {
  within : length l.lines ≤ 73728;
  goes : (new : List ℕ) (answer : Bool)
      → PutsWhole l.lines (encode_lower (drop l.octet-index l.octets)) new answer
      → PutsWhole l.initial.lines (encode_lower l.octets) new answer;
}
