use Rattle.std.proofs.Common.{◌≡◌, map, take}
use Rattle.bay_audit.specs.Cases.{example_of}
use Rattle.bay_audit.specs.Process.{process_value}
use Rattle.bay_audit.proofs.early.values_of.Given as goal

abbrev pub invariant-loop-source : goal.invariant-loop-source
invariant-loop-source l =
    l.values.items ≡ map (process_value (example_of l.case)) (take l.source-index l.program.reads)
