use Rattle.bay_stdio.proofs.LogLemmas.{Added-start}
use Rattle.bay_stdio.proofs.log.append_parts.Goals as goal

pub loop-part-init : goal.loop-part-init
loop-part-init c = record { added = Added-start _ _; within = c.requires }
