use Rattle.std.proofs.Common.{length}
use Rattle.bay_ber.proofs.KnownLemmas.{Known}
use Rattle.bay_ber.proofs.known.known_values.Given as goal

abbrev pub invariant-loop-value : goal.invariant-loop-value
invariant-loop-value l = Known l.tags l.octets l.values l.known

abbrev pub decreases-loop-value : goal.decreases-loop-value
decreases-loop-value l = length l.values
