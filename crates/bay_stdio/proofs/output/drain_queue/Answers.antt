use Rattle.std.proofs.Common.{rules}
use Rattle.bay_stdio.proofs.OutputLemmas.{Sends-then}
use Rattle.bay_stdio.proofs.output.drain_queue.Goals as goal

pub returns-in_err-send_waiting-clause-sends : goal.returns-in_err-send_waiting-clause-sends
returns-in_err-send_waiting-clause-sends g c =
    Sends-then c.loop.invariant.sends c.send_waiting.ensures.sends

pub returns-in_err-wait-clause-sends : goal.returns-in_err-wait-clause-sends
returns-in_err-wait-clause-sends g c =
    rw c.wait.ensures (Sends-then c.loop.invariant.sends c.send_waiting.ensures.sends)

pub loop-preserved : goal.loop-preserved
loop-preserved g c = record {
  sends = rw c.wait.ensures (Sends-then c.loop.invariant.sends c.send_waiting.ensures.sends);
  some = λ lt e. search rules;
}
