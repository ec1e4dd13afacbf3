use Rattle.bay_device.proofs.FreshLemmas.{same-read}
use Rattle.bay_device.proofs.laws.programs_read_the_process.Goals as goal

pub returns : goal.returns
returns c = same-read
