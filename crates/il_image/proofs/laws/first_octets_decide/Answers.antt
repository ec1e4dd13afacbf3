use Rattle.il_image.proofs.FrontLemmas.{no-mark, no-version}
use Rattle.il_image.proofs.laws.first_octets_decide.Goals as goal

pub returns-clause-mark : goal.returns-clause-mark
returns-clause-mark c = no-mark

pub returns-clause-version : goal.returns-clause-version
returns-clause-version c = no-version
