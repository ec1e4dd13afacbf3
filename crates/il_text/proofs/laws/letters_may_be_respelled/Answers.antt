use Rattle.il_text.proofs.CaseReading.{letters}
use Rattle.il_text.proofs.laws.letters_may_be_respelled.Goals as goal

pub returns : goal.returns
returns c = letters
