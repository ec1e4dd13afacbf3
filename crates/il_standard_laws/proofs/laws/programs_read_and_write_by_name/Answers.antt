use Rattle.il_standard_laws.proofs.ByNamesLemmas.{goes-by-names}
use Rattle.il_standard_laws.proofs.laws.programs_read_and_write_by_name.Goals as goal

pub returns : goal.returns
returns l = goes-by-names
