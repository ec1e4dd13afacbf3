use Rattle.std.proofs.Common.{◌≡◌}
use Rattle.bay_audit.specs.Rules.{directions}
use Rattle.cmd_audit.proofs.judged.ways_of.Given as goal

abbrev pub invariant-loop-switch : goal.invariant-loop-switch
invariant-loop-switch l = l.these.items ≡ directions l.switch
