use Rattle.std.proofs.Common.{Some, Err, ap, inl, arith}
use Rattle.bay_io.specs.Input.{octets_of}
use Rattle.cmd_replay.specs.Replay.{ReplayReport}
use Rattle.cmd_replay.proofs.ReadLemmas.{gave-few, gave-too-much, read-replay, unread-ended, unread-replay}
use Rattle.bay_report.proofs.ReportLemmas.{PrintsLogs-weaker}
use Rattle.cmd_replay.proofs.replay.replay_reader.Goals as goal

pub returns-in-Ok-clause-printed : goal.returns-in-Ok-clause-printed
returns-in-Ok-clause-printed g c =
    let failed = c.read_all.new.reader.has_failed in
    let input = g.R.OctetSource.remaining c.args.reader.now.inner in
    PrintsLogs-weaker (ReplayReport input failed) c.replay_scenario.result
    (read-replay input c.in-Ok.input.items failed c.in-Ok.ensures.failed c.in-Ok.ensures.ok
    (omega (arith, c.in-Ok.ensures.within, c.in-Ok.input.ok)))
    (rw c.as_slice.ensures.value at c.replay_scenario.ensures)

pub returns-in-Ok-clause-given : goal.returns-in-Ok-clause-given
returns-in-Ok-clause-given g c =
    let r = c.in-Ok.ensures.calls_made in
    let failed = c.read_all.new.reader.has_failed in
    let input = Some (octets_of r.calls_made.calls_made.calls) in
    record {
      reads = r.calls_made;
      ended = λ off. inl r.gave.1;
      prints = PrintsLogs-weaker (ReplayReport input failed) c.replay_scenario.result
          (read-replay input c.in-Ok.input.items failed c.in-Ok.ensures.failed r.gave.0
          (omega (arith, c.in-Ok.ensures.within, c.in-Ok.input.ok)))
          (rw c.as_slice.ensures.value at c.replay_scenario.ensures);
    }

pub returns-in-Err-clause-printed : goal.returns-in-Err-clause-printed
returns-in-Err-clause-printed g c =
    let fault = c.in-Err.fault in
    let failed = c.read_all.new.reader.has_failed in
    let input = g.R.OctetSource.remaining c.args.reader.now.inner in
    PrintsLogs-weaker (ReplayReport input failed) c.report_unread.result
    (unread-replay input fault failed c.in-Err.ensures.failed
    (λ e. c.in-Err.ensures.too_long (ap Err e)) (λ e. c.in-Err.ensures.memory (ap Err e)))
    c.report_unread.ensures

pub returns-in-Err-clause-given : goal.returns-in-Err-clause-given
returns-in-Err-clause-given g c =
    let r = c.in-Err.ensures.calls_made in
    let fault = c.in-Err.fault in
    let calls = r.calls_made.calls_made.calls in
    let failed = c.read_all.new.reader.has_failed in
    let input = Some (octets_of calls) in
    record {
      reads = r.calls_made;
      ended = unread-ended fault calls failed c.in-Err.ensures.failed r.gave;
      prints = PrintsLogs-weaker (ReplayReport input failed) c.report_unread.result
          (unread-replay input fault failed c.in-Err.ensures.failed
          (gave-too-much fault calls r.gave) (gave-few fault calls r.gave))
          c.report_unread.ensures;
    }
