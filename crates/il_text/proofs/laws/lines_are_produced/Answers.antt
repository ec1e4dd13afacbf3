use Rattle.il_text.proofs.LineLemmas.{lines_are_produced}
use Rattle.il_text.proofs.laws.lines_are_produced.Goals as goal

pub returns : goal.returns
returns c = lines_are_produced
