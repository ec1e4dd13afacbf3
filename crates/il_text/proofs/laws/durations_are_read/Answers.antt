use Rattle.il_text.proofs.DurationGrammarLemmas.{durations}
use Rattle.il_text.proofs.laws.durations_are_read.Goals as goal

pub returns : goal.returns
returns c = durations
