use Rattle.il_image.proofs.BegunLemmas.{a_place_is_told}
use Rattle.il_image.proofs.laws.offsets_are_of_instructions.Goals as goal

pub returns : goal.returns
returns c = a_place_is_told
