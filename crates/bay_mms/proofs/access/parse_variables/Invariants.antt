use Rattle.std.proofs.Common.{length}
use Rattle.bay_mms.proofs.RequestLemmas.{Listing}
use Rattle.bay_mms.proofs.access.parse_variables.Given as goal

abbrev pub invariant-loop-value : goal.invariant-loop-value
invariant-loop-value l = Listing l.octets l.values l.names.items l.is_alternate

abbrev pub decreases-loop-value : goal.decreases-loop-value
decreases-loop-value l = length l.values
