use Rattle.bay_server.proofs.log_lines.log_disconnect.Goals as goal

pub returns-in-BadLine : goal.returns-in-BadLine
returns-in-BadLine g c =
    rw c.in-BadLine.is (rw c.as_slice.ensures at c.log_process_closed-in-BadLine.ensures)
