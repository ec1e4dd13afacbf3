use Rattle.il_standard_laws.proofs.OldImageLemmas.{nothing-newer}
use Rattle.il_standard_laws.proofs.VersionLemmas.{version-one}
use Rattle.il_standard_laws.proofs.laws.version_1_is_read.Goals as goal

pub returns-clause-read : goal.returns-clause-read
returns-clause-read c = version-one

pub returns-clause-only : goal.returns-clause-only
returns-clause-only c = nothing-newer
