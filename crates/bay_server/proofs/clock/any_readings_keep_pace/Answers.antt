use Rattle.bay_server.proofs.ClockLemmas.{pace-all}
use Rattle.bay_server.proofs.clock.any_readings_keep_pace.Goals as goal

pub returns : goal.returns
returns c = pace-all
