use Rattle.std.proofs.Common.{arith}
use Rattle.std.proofs.lemmas.List.{map-append}
use Rattle.il_text.specs.Steps.{step}
use Rattle.il_text.proofs.ListingLemmas.{opened-more, view-block}
use Rattle.il_text.proofs.listing.Draft.take_parenthesis_end.Goals as goal

pub returns-clause-ok : goal.returns-clause-ok
unfolding step
returns-clause-ok c = grind (arith, opened-more, view-block, map-append)
