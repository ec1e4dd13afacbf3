use Rattle.std.proofs.Common.{arith}
use Rattle.bay_ber.proofs.WriterLemmas.{head-fits, fronted}
use Rattle.bay_ber.proofs.writer.Writer.front.Goals as goal

pub overflow_sub-self : goal.overflow_sub-self
overflow_sub-self c =
    head-fits c.self.inside _ _ c.self.view_is c.self.invariant.front c.self.invariant.headers
    c.requires

pub overwrite-requires : goal.overwrite-requires
overwrite-requires c =
    let fits =
    head-fits c.self.inside _ _ c.self.view_is c.self.invariant.front c.self.invariant.headers
    c.requires in
    omega arith

pub returns : goal.returns
returns c =
    fronted c.self.inside _ _ _ c.self.view_is c.self.invariant.front c.self.invariant.headers
    (head-fits c.self.inside _ _ c.self.view_is c.self.invariant.front c.self.invariant.headers
    c.requires)
    c.overwrite.ensures.items
