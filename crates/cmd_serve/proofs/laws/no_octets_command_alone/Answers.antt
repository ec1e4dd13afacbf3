use Rattle.cmd_serve.proofs.BeginLemmas.{ordered-from}
use Rattle.cmd_serve.proofs.laws.no_octets_command_alone.Goals as goal

pub returns : goal.returns
returns c = ordered-from
