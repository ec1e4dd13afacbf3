use Rattle.std.proofs.Common.{◌∙◌, ap, get_or, rules}
use Rattle.bay_config.proofs.NamedLemmas.{get-at, names-position}
use Rattle.bay_config.proofs.nodes.node_name.Goals as goal

pub returns : goal.returns
returns c =
    let s = c.index-switches-index.result in
    let at =
    c.index-switches-index.is
    ∙ ap (λ ss. get_or ss c.args.index s) c.as_slice-switches.ensures in
    names-position c.args.bay.now c.args.index s c.in_ok-name.name
    (get-at c.args.bay.now.switches c.args.index s c.requires at) (search rules)
