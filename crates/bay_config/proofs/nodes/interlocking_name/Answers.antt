use Rattle.std.proofs.Common.{rules}
use Rattle.bay_config.proofs.NamedLemmas.{names-interlocking}
use Rattle.bay_config.proofs.nodes.interlocking_name.Goals as goal

pub returns : goal.returns
returns c =
    names-interlocking c.args.bay.now c.args.index c.in_ok-name.name c.requires (search rules)
