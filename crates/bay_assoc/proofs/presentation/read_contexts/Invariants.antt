use Rattle.std.proofs.Common.{length}
use Rattle.bay_ber.proofs.ListingLemmas.{Passed}
use Rattle.bay_assoc.specs.Presentation.{definition}
use Rattle.bay_assoc.proofs.presentation.read_contexts.Given as goal

abbrev pub invariant-loop-value : goal.invariant-loop-value
invariant-loop-value l = Passed definition.reads l.octets l.values l.contexts.items

abbrev pub decreases-loop-value : goal.decreases-loop-value
decreases-loop-value l = length l.values
