use Rattle.std.proofs.Common.{lit<}
use Rattle.std.proofs.lemmas.Str.Pattern.{split_once_first}
use Rattle.il_text.proofs.LiteralLemmas.{halves_of}
use Rattle.il_text.proofs.literal.split_at_hash.Goals as goal

pub returns : goal.returns
returns c = halves_of _ _ (split_once_first 35 _ _ c.split_once.ensures.cases (lit< tt))
