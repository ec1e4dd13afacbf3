use Rattle.std.proofs.Common.{◌≤◌, ℕ, Bool, List, drop, length}
use Rattle.bay_process_port.specs.Releases.{releases_text, releases_from}
use Rattle.bay_process_port.specs.ProcessOutput.{PutsWhole}
use Rattle.bay_process_port.proofs.releases.put_changes.Given as goal

abbrev pub invariant-loop-index : goal.invariant-loop-index
invariant-loop-index l = record {
  within : length l.queue ≤ 65536;
  goes : (new : List ℕ) (answer : Bool)
      → PutsWhole l.queue
      (releases_text l.device (releases_from l.device l.index (drop l.index l.sent))) new answer
      → PutsWhole l.initial.queue (releases_text l.device (releases_from l.device 0 l.sent)) new
      answer;
}
