use Rattle.std.proofs.Common.{ap}
use Rattle.bay_device.specs.declared.event.Why.TheVariants.{Fault}
use Rattle.bay_io.proofs.SentLemmas.{Puts-as}
use Rattle.bay_report.specs.Lines.{closing_text}
use Rattle.bay_server.proofs.turns.put_entry.Goals as goal

pub returns : goal.returns
returns g c =
    Puts-as _ (ap (λ code. closing_text c.args.moment c.args.entry.0 (Fault code)) c.code.ensures)
    c.put_closing_line.ensures
