use Rattle.std.proofs.Common.{rules}
use Rattle.bay_config.proofs.NamedLemmas.{names-control}
use Rattle.bay_config.proofs.nodes.control_name.Goals as goal

pub returns : goal.returns
returns c = names-control c.args.bay.now c.args.index c.in_ok-name.name c.requires (search rules)
