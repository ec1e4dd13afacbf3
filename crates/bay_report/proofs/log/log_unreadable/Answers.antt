use Rattle.bay_report.proofs.log.log_unreadable.Goals as goal

pub returns : goal.returns
returns g c = rw (c.as_slice.ensures, c.new-line.ensures) at c.log.ensures
