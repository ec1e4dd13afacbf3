use Rattle.il_check.proofs.OwnLemmas.{mean-own-places}
use Rattle.il_check.proofs.laws.a_name_means_its_own_declaration.Goals as goal

pub returns : goal.returns
returns c = mean-own-places
