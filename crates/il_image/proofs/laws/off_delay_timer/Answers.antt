use Rattle.il_image.proofs.TimerLemmas.{off_delay}
use Rattle.il_image.proofs.laws.off_delay_timer.Goals as goal

pub returns : goal.returns
returns c = off_delay
