use Rattle.std.proofs.Common.{drop}
use Rattle.bay_io.proofs.SentLemmas.{Rest}
use Rattle.bay_report.specs.Lines.{sends_text}
use Rattle.bay_report.proofs.lines.put_sends.Given as goal

abbrev pub invariant-loop-sent : goal.invariant-loop-sent
invariant-loop-sent g l =
    Rest g.W.Sink.contents g.W.Sink.does l.initial.writer (sends_text l.moment l.sends)
    (sends_text l.moment (drop l.sent-index l.sends)) l.writer
