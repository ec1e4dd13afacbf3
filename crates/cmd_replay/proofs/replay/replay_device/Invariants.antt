use Rattle.std.proofs.Common.{◌+◌, ◌≤◌, length}
use Rattle.cmd_replay.specs.Replay.{DeviceReport}
use Rattle.bay_report.specs.TextLines.{lines_of}
use Rattle.cmd_replay.proofs.ProgressLemmas.{Progress}
use Rattle.cmd_replay.proofs.replay.replay_device.Given as goal

abbrev pub invariant-loop-rest : goal.invariant-loop-rest
invariant-loop-rest g l = record {
  progress : Progress g.W.Sink.contents g.W.Sink.does
      (DeviceReport l.initial.device (lines_of l.trace))
      (record { device = l.device; room = l.octets.room }) l.number (lines_of l.rest) l.fn.writer
      l.writer;
  bound : l.number + length l.rest ≤ length l.trace + 1;
}

abbrev pub decreases-loop-rest : goal.decreases-loop-rest
decreases-loop-rest g l = length l.rest
