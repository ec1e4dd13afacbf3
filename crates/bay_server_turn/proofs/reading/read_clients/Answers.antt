use Rattle.std.proofs.Common.{arith}
use Rattle.bay_server_turn.proofs.TalkLemmas.{GoesEach-more}
use Rattle.bay_server_turn.proofs.reading.read_clients.Goals as goal

pub loop-place-preserved : goal.loop-place-preserved
loop-place-preserved g c = record {
  within = omega arith;
  room = omega (arith, c.read_one.ensures.grows);
  each = GoesEach-more _ _ _ _ _ _ _ _ _ _ c.loop-place.invariant.each c.read_one.ensures.goes;
}
