use Rattle.std.proofs.Common.{◌≡◌, ◌-◌, ◌≤◌, false, length, take}
use Rattle.std.specs.Io.KnownBytes.{Appends}
use Rattle.bay_io.specs.Calls.{SomeCalls, Unlogged, write_failed}
use Rattle.bay_io.proofs.writer.write_out.Given as goal

abbrev pub invariant-loop-done : goal.invariant-loop-done
invariant-loop-done g l = record {
  within : l.done ≤ length l.text;
  sent : Appends (g.W.Sink.contents l.initial.sink.inner) (g.W.Sink.contents l.sink.inner)
      (take l.done l.text);
  unfailed : l.sink.has_failed ≡ false;
  calls_made : SomeCalls (Unlogged g.W.Sink.does) write_failed l.initial.sink.inner
      l.initial.sink.has_failed
      l.sink.inner l.sink.has_failed;
  logs : l.sink.logs ≡ l.initial.sink.logs;
}

abbrev pub decreases-loop-done : goal.decreases-loop-done
decreases-loop-done g l = length l.text - l.done
