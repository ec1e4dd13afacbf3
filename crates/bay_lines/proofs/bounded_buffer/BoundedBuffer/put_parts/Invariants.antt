use Rattle.std.proofs.Common.{◌≤◌, ℕ, Bool, List, drop, length}
use Rattle.bay_lines.specs.Puts.{PutsWhole, text_of}
use Rattle.bay_lines.proofs.bounded_buffer.BoundedBuffer.put_parts.Given as goal

abbrev pub invariant-loop-part : goal.invariant-loop-part
invariant-loop-part g l = record {
  within : length l.self ≤ g.row.MOST;
  goes : (new : List ℕ) (answer : Bool)
      → PutsWhole g.row.MOST l.self (text_of (drop l.part-index l.parts)) new answer
      → PutsWhole g.row.MOST l.initial.self (text_of l.parts) new answer;
}
