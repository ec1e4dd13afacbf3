use Rattle.std.proofs.Common.{length}
use Rattle.bay_assoc.proofs.ContextLemmas.{Flags}
use Rattle.bay_assoc.proofs.presentation.offers_ber.Given as goal

abbrev pub invariant-loop-value : goal.invariant-loop-value
invariant-loop-value l = Flags l.octets l.values l.found

abbrev pub decreases-loop-value : goal.decreases-loop-value
decreases-loop-value l = length l.values
