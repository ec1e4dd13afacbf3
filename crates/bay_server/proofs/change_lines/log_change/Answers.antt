use Rattle.bay_server.proofs.change_lines.log_change.Goals as goal

pub returns-in-Position : goal.returns-in-Position
returns-in-Position g c =
    rw c.in-Position.is
    (rw (c.position_word-was.ensures, c.position_word-is.ensures) at c.log_word.ensures)

pub returns-in-Release : goal.returns-in-Release
returns-in-Release g c =
    rw c.in-Release.is
    (rw (c.release_word-was.ensures, c.release_word-is.ensures) at c.log_word-in-Release.ensures)
