use Rattle.bay_replay_laws.proofs.AnswerLemmas.{commands-are-answered}
use Rattle.bay_replay_laws.proofs.laws.printed_commands_are_answered.Goals as goal

pub returns : goal.returns
returns c = commands-are-answered
