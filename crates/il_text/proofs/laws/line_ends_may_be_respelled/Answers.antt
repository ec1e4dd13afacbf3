use Rattle.il_text.proofs.LineEndLemmas.{line_ends}
use Rattle.il_text.proofs.laws.line_ends_may_be_respelled.Goals as goal

pub returns : goal.returns
returns c = line_ends
