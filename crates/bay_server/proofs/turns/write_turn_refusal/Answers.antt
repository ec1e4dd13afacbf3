use Rattle.bay_server.proofs.turns.write_turn_refusal.Goals as goal

pub returns-in-BadLine : goal.returns-in-BadLine
returns-in-BadLine g c = rw c.in-BadLine.is c.write_bad_line.ensures
