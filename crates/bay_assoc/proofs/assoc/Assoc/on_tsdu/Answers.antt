use Rattle.std.proofs.Common.{arith}
use Rattle.bay_assoc.proofs.LastLemmas.{stands-last}
use Rattle.bay_assoc.proofs.assoc.Assoc.on_tsdu.Goals as goal

pub returns-clause-last : goal.returns-clause-last
returns-clause-last c =
    (stands-last c.self.inside.phase c.in_ok-heard.next c.args.tsdu.now c.in_ok-heard.heard
    (λ i. omega (arith, c.type_inv.tsdu i)) c.in_ok-heard.ensures.heard).0

pub returns-clause-open : goal.returns-clause-open
returns-clause-open c =
    (stands-last c.self.inside.phase c.in_ok-heard.next c.args.tsdu.now c.in_ok-heard.heard
    (λ i. omega (arith, c.type_inv.tsdu i)) c.in_ok-heard.ensures.heard).1
