use Rattle.std.proofs.Common.{◌≤◌, ℕ, Bool, List, drop, length}
use Rattle.bay_report.specs.Lines.{commands_text}
use Rattle.bay_process_port.specs.ProcessOutput.{PutsWhole}
use Rattle.bay_process_port.proofs.process_output.put_commands.Given as goal

abbrev pub invariant-loop-command : goal.invariant-loop-command
invariant-loop-command l = record {
  within : length l.queue ≤ 65536;
  goes : (new : List ℕ) (answer : Bool)
      → PutsWhole l.queue (commands_text l.moment l.device (drop l.command-index l.commands)) new
      answer
      → PutsWhole l.initial.queue (commands_text l.moment l.device l.commands) new answer;
}
