use Rattle.std.proofs.Common.{drop}
use Rattle.bay_io.proofs.SentLemmas.{Rest}
use Rattle.bay_report.specs.Lines.{commands_text}
use Rattle.bay_report.proofs.lines.put_commands.Given as goal

abbrev pub invariant-loop-command : goal.invariant-loop-command
invariant-loop-command g l =
    Rest g.W.Sink.contents g.W.Sink.does l.initial.writer
    (commands_text l.moment l.device l.commands)
    (commands_text l.moment l.device (drop l.command-index l.commands)) l.writer
