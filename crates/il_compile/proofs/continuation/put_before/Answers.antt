use Rattle.std.proofs.Common.{◌∙◌, arith}
use Rattle.il_compile.proofs.ContinuationLemmas.{one-before, one-counted}
use Rattle.il_compile.proofs.continuation.put_before.Goals as goal

pub loop-instr-preserved : goal.loop-instr-preserved
loop-instr-preserved c =
    let pending = c.in-Some.ensures.items in
    let grown = c.in_ok-push.ensures.items in
    let at = c.loop-instr.invariant in
    record {
      bounded = omega (arith, c.bounded_sum-all.ensures);
      counted =
          one-counted c.loop-instr.pending.items c.pop.new.self.items c.in-Some.instr
          c.loop-instr.all
          c.bounded_sum-all.result c.octets_of.result pending c.octets_of.ensures
          c.bounded_sum-all.ensures at.bounded ∙ at.counted;
      before =
          one-before c.loop-instr.pending.items c.pop.new.self.items c.loop-instr.continuation.items
          c.push.new.self.items c.in-Some.instr pending grown ∙ at.before;
    }
