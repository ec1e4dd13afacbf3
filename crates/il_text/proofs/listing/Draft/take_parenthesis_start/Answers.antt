use Rattle.std.proofs.Common.{arith}
use Rattle.il_text.specs.Steps.{step}
use Rattle.il_text.proofs.ListingLemmas.{opened-more}
use Rattle.il_text.proofs.listing.Draft.take_parenthesis_start.Goals as goal

pub returns-clause-ok : goal.returns-clause-ok
unfolding step
returns-clause-ok c = grind (arith, opened-more)
