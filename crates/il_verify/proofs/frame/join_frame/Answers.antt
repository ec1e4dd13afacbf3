use Rattle.std.proofs.Common.{arith}
use Rattle.il_verify.proofs.FrameLemmas.{joined-grows}
use Rattle.il_verify.proofs.frame.join_frame.Goals as goal

pub returns-clause-ok : goal.returns-clause-ok
returns-clause-ok c =
    joined-grows c.args.frame.now.kinds.items c.args.kinds.now c.join_all.new.kinds.items
    c.args.frame.now.longest c.args.longest c.max-frame.result (omega arith) c.join_all.ensures
    c.max-frame.ensures
