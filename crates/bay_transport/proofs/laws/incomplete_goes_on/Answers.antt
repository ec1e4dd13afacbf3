use Rattle.bay_transport.proofs.SizeLemmas.{quiet-going}
use Rattle.bay_transport.proofs.laws.incomplete_goes_on.Goals as goal

pub returns : goal.returns
returns c = quiet-going
