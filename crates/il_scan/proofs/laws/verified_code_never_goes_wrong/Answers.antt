use Rattle.il_scan.proofs.NeverLemmas.{never_goes_wrong}
use Rattle.il_scan.proofs.laws.verified_code_never_goes_wrong.Goals as goal

pub returns : goal.returns
returns c = never_goes_wrong
