use Rattle.bay_server.proofs.log_lines.log_bad_line.Goals as goal

pub returns : goal.returns
returns g c = rw c.as_slice.ensures at c.log.ensures
