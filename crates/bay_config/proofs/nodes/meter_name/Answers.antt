use Rattle.std.proofs.Common.{rules}
use Rattle.bay_config.proofs.NamedLemmas.{names-meter}
use Rattle.bay_config.proofs.nodes.meter_name.Goals as goal

pub returns : goal.returns
returns c = names-meter c.args.bay.now c.args.index c.in_ok-name.name c.requires (search rules)
