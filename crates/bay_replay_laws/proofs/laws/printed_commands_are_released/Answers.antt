use Rattle.bay_replay_laws.proofs.ReleaseLemmas.{commands-are-released}
use Rattle.bay_replay_laws.proofs.laws.printed_commands_are_released.Goals as goal

pub returns : goal.returns
returns c = commands-are-released
