use Rattle.std.proofs.Common.{◌≡◌, drop}
use Rattle.bay_ber.specs.Writing.{without_needless}
use Rattle.bay_ber.proofs.writer.without_needless.Given as goal

abbrev pub invariant-loop-start : goal.invariant-loop-start
invariant-loop-start l = without_needless (drop l.start l.octets) ≡ without_needless l.octets
