use Rattle.bay_device.proofs.ToldLemmas.{idle-talks}
use Rattle.bay_device.proofs.laws.runs_begin_idle.Goals as goal

pub returns : goal.returns
returns c = idle-talks
