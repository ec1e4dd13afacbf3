use Rattle.bay_server.proofs.log_lines.log_ports.Goals as goal

pub returns-in-None : goal.returns-in-None
returns-in-None g c = rw c.in-None.is (rw c.from.ensures at c.log.ensures)
