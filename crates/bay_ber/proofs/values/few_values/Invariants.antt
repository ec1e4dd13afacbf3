use Rattle.std.proofs.Common.{length}
use Rattle.bay_ber.proofs.ListingLemmas.{Stored}
use Rattle.bay_ber.proofs.values.few_values.Given as goal

abbrev pub invariant-loop-value : goal.invariant-loop-value
invariant-loop-value l = Stored l.octets l.values l.few

abbrev pub decreases-loop-value : goal.decreases-loop-value
decreases-loop-value l = length l.values
