use Rattle.std.proofs.Common.{ap}
use Rattle.bay_report.specs.Lines.{commands_text, sends_text}
use Rattle.bay_io.proofs.SentLemmas.{Puts-then, Puts-as}
use Rattle.bay_report.proofs.lines.put_accepted.Goals as goal

pub returns : goal.returns
returns g c =
    Puts-then (Puts-then (Puts-then (Puts-then (c.put_ended.ensures) (Puts-as _ (ap (sends_text
    c.args.moment) c.as_slice.ensures) c.put_sends.ensures)) (Puts-as _ (ap (commands_text
    c.args.moment c.args.device.now) c.as_slice-2.ensures) c.put_commands.ensures))
    (c.put_ran.ensures)) (c.put_closed.ensures)
