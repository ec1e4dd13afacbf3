use Rattle.bay_ber.proofs.ListingLemmas.{values-take, values-again}
use Rattle.bay_ber.proofs.laws.values_are_spelled.Goals as goal

pub returns : goal.returns
returns c = λ octets parts fits. (values-take octets parts fits, values-again octets parts)
