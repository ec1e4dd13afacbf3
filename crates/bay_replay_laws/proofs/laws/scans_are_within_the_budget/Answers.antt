use Rattle.bay_replay_laws.proofs.MeantLemmas.{scans-are-within}
use Rattle.bay_replay_laws.proofs.laws.scans_are_within_the_budget.Goals as goal

pub returns : goal.returns
returns c = scans-are-within
