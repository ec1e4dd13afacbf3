use Rattle.il_image.proofs.FinalLemmas.{first-bad, octets-behind, proper-front}
use Rattle.il_image.proofs.laws.images_end.Goals as goal

pub returns-clause-behind : goal.returns-clause-behind
returns-clause-behind c = octets-behind

pub returns-clause-front : goal.returns-clause-front
returns-clause-front c = proper-front

pub returns-clause-first : goal.returns-clause-first
returns-clause-first c = first-bad
