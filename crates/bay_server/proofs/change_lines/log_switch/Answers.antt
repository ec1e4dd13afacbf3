use Rattle.bay_server.proofs.change_lines.log_switch.Goals as goal

pub returns : goal.returns
returns g c = rw (c.switch_id.ensures, c.view_switch.ensures) at c.log_change.ensures
