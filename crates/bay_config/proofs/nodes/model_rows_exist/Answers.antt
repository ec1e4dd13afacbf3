use Rattle.bay_config.proofs.ModelLemmas.{has-health, has-inputs}
use Rattle.bay_config.proofs.nodes.model_rows_exist.Goals as goal

pub returns : goal.returns
returns c = λ bay is_bay. (has-health bay is_bay, has-inputs bay is_bay)
