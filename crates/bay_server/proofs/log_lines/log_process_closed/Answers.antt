use Rattle.bay_server.proofs.log_lines.log_process_closed.Goals as goal

pub returns : goal.returns
returns g c = rw c.from.ensures at c.log.ensures
