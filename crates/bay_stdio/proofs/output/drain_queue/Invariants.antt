use Rattle.std.proofs.Common.{◌≢◌, ◌<◌, []}
use Rattle.bay_io.specs.Sent.{Sends}
use Rattle.bay_stdio.specs.Descriptor.{accepted_octets}
use Rattle.bay_stdio.proofs.output.drain_queue.Given as goal

abbrev pub invariant-loop : goal.invariant-loop
invariant-loop g l = record {
  sends : Sends (accepted_octets g.O.Write.contents l.initial.out)
      (accepted_octets g.O.Write.contents l.out)
      l.initial.queue l.queue;
  some : 0 < l.counter → l.queue ≢ [];
}
