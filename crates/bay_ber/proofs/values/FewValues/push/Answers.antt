use Rattle.std.proofs.Common.{arith}
use Rattle.bay_ber.proofs.ListingLemmas.{is_full, pushed}
use Rattle.bay_ber.proofs.values.FewValues.push.Goals as goal

pub returns-then-self-eq5-clause-none : goal.returns-then-self-eq5-clause-none
returns-then-self-eq5-clause-none c =
    is_full c.self.inside.values c.self.inside.count c.args.self.now c.self.view_is
    c.self.invariant.1 c.if-self-eq5.true

pub returns-clause-some : goal.returns-clause-some
returns-clause-some c =
    let i = c.self.invariant in
    pushed c.self.inside.values c.self.inside.count c.args.value c.args.self.now c.self.view_is i.1
    (let few = i.0 in omega arith)
