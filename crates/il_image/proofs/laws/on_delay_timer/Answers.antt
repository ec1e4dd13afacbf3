use Rattle.il_image.proofs.TimerLemmas.{on_delay}
use Rattle.il_image.proofs.laws.on_delay_timer.Goals as goal

pub returns : goal.returns
returns c = on_delay
