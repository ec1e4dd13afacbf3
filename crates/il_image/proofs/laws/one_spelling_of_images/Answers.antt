use Rattle.il_image.proofs.BackLemmas.{back-image}
use Rattle.il_image.proofs.ImageLemmas.{one-of-each, spelled-image}
use Rattle.il_image.proofs.laws.one_spelling_of_images.Goals as goal

pub returns-clause-written : goal.returns-clause-written
returns-clause-written c = back-image

pub returns-clause-read : goal.returns-clause-read
returns-clause-read c = spelled-image

pub returns-clause-one : goal.returns-clause-one
returns-clause-one c = one-of-each
