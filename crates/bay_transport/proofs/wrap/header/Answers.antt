use Rattle.std.proofs.Common.{arith}
use Rattle.bay_transport.proofs.WrapLemmas.{wrapped-behind}
use Rattle.bay_transport.proofs.wrap.header.Goals as goal

pub returns-clause-exact : goal.returns-clause-exact
returns-clause-exact c tsdu is =
    rw c.frame_header.ensures
    (wrapped-behind c.args.size c.args.count tsdu (omega (arith, c.requires.some)) (omega arith) is)
