use Rattle.il_check.proofs.TypedLemmas.{typed-of}
use Rattle.bay_load.proofs.Fits.{verified}
use Rattle.bay_load.proofs.laws.compiled_code_verifies.Goals as goal

pub returns : goal.returns
returns l points program c e = verified points program c e (typed-of points program c e)
