use Rattle.std.proofs.Common.{arith}
use Rattle.bay_server_turn.proofs.TalkLemmas.{GoesEach-more}
use Rattle.bay_server_turn.proofs.offering.offer_each.Goals as goal

pub loop-slot-preserved : goal.loop-slot-preserved
loop-slot-preserved g c = record {
  within = omega arith;
  each = GoesEach-more _ _ _ _ _ _ _ _ _ _ c.loop-slot.invariant.each c.offer_one.ensures;
}
