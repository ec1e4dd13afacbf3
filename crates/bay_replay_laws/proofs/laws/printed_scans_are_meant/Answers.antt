use Rattle.bay_replay_laws.proofs.MeantLemmas.{scans-are-meant}
use Rattle.bay_replay_laws.proofs.laws.printed_scans_are_meant.Goals as goal

pub returns : goal.returns
returns c = scans-are-meant
