use Rattle.bay_ber.proofs.SizeLemmas.{length-element-is}
use Rattle.bay_ber.proofs.laws.written_is_as_long.Goals as goal

pub returns : goal.returns
returns c = length-element-is
