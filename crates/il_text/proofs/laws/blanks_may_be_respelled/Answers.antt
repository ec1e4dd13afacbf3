use Rattle.il_text.proofs.RespellingLemmas.{respelled}
use Rattle.il_text.proofs.laws.blanks_may_be_respelled.Goals as goal

pub returns : goal.returns
returns c = respelled
