use Rattle.bay_lines.proofs.FrontLemmas.{nothing-is-lost}
use Rattle.bay_lines.proofs.laws.no_line_is_lost_repeated_or_joined.Goals as goal

pub returns : goal.returns
returns c = nothing-is-lost
