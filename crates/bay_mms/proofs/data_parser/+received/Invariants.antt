use Rattle.std.proofs.Common.{◌+◌, ◌*◌, length}
use Rattle.bay_ber.proofs.ListingLemmas.{Passed}
use Rattle.bay_mms.specs.Grammar.{datum_at}
use Rattle.bay_mms.specs.Views.{data_in}
use Rattle.bay_mms.proofs.data_parser.+received.Given as goal

abbrev pub decreases-read_datum : goal.decreases-read_datum
decreases-read_datum l = 2 * l.depth

abbrev pub decreases-read_data : goal.decreases-read_data
decreases-read_data l = 2 * l.depth + 1

abbrev pub invariant-read_data-loop-value : goal.invariant-read_data-loop-value
invariant-read_data-loop-value l =
    Passed (datum_at l.depth).reads l.octets l.values (data_in l.parts.items)

abbrev pub decreases-read_data-loop-value : goal.decreases-read_data-loop-value
decreases-read_data-loop-value l = length l.values
