use Rattle.std.proofs.Common.{◌<◌, false, length, rules}
use Rattle.std.proofs.lemmas.List.Edits.{map_over_more}
use Rattle.bay_process.proofs.values.InputValues.clear.Goals as goal

pub loop-index-preserved : goal.loop-index-preserved
loop-index-preserved c =
    let within : c.loop-index.index < length c.self.inside.values.items =
    search (rules, c.loop-index-test.true) in
    map_over_more (λ _. false) c.self.inside.values.items c.loop-index.self-inside.values.items
    c.loop-index.index c.index_mut.result.now within
    c.loop-index.invariant c.index_mut.ensures.value
