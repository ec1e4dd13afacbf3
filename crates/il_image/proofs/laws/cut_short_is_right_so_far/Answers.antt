use Rattle.il_image.proofs.ImageLemmas.{right-so-far}
use Rattle.il_image.proofs.laws.cut_short_is_right_so_far.Goals as goal

pub returns : goal.returns
returns c = right-so-far
