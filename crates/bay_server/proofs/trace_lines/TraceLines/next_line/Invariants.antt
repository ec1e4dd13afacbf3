use Rattle.std.proofs.Common.{◌≡◌, ◌+◌, ◌^◌, ◌<◌, length}
use Rattle.bay_report.specs.TextLines.{lines_of}
use Rattle.bay_server.specs.ServeReport.{numbered_lines}
use Rattle.bay_server.proofs.trace_lines.TraceLines.next_line.Given as goal

abbrev pub invariant-loop-self : goal.invariant-loop-self
invariant-loop-self l = record {
  left : numbered_lines l.self-inside.number (lines_of l.self-inside.rest.now) ≡ l.fn.self;
  bound : l.self-inside.number + length l.self-inside.rest.now < 2 ^ 64;
}

abbrev pub decreases-loop-self : goal.decreases-loop-self
decreases-loop-self l = length l.self-inside.rest.now
