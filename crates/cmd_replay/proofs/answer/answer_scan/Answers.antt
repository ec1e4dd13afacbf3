use Rattle.std.proofs.Common.{None}
use Rattle.bay_device.specs.Steps.{scan_answer}
use Rattle.bay_device.specs.declared.event.Event.TheVariants.{Scan}
use Rattle.cmd_replay.proofs.AnswerLemmas.{Does-put}
use Rattle.cmd_replay.proofs.answer.answer_scan.Goals as goal

pub returns : goal.returns
returns g c =
    let done = c.scan-answer.ensures in
    Does-put g.W.Sink.contents g.W.Sink.does c.args.writer.now c.args.moment Scan
    c.args.device.now c.put_scanned.new.writer c.scan-answer.new.self None
    (scan_answer c.scan-answer.result) done.answered done.left c.put_scanned.ensures
