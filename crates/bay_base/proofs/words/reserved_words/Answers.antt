use Rattle.std.proofs.Common.{refl}
use Rattle.bay_base.specs.Words.{reserved_words}
use Rattle.bay_base.proofs.words.reserved_words.Goals as goal

pub returns : goal.returns
unfolding reserved_words
returns c = refl
