use Rattle.std.proofs.Common.{refl}
use Rattle.bay_server.proofs.serving.await_turn.Goals as goal

pub returns-in-Some : goal.returns-in-Some
returns-in-Some g c = record {
  rested = c.pause_if_idle.new.host;
  pause = c.pause_if_idle.ensures;
  waits = rw c.in-Some.is c.wait_until.ensures;
}

pub returns-in-None : goal.returns-in-None
returns-in-None g c = record {
  rested = c.pause_if_idle.new.host;
  pause = c.pause_if_idle.ensures;
  waits = rw c.in-None.is refl;
}
