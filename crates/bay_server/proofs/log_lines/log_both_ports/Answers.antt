use Rattle.bay_server.proofs.log_lines.log_both_ports.Goals as goal

pub returns : goal.returns
returns g c = rw (c.from.ensures, c.from-2.ensures) at c.log.ensures
