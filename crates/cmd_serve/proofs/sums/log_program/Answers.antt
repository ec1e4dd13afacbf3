use Rattle.cmd_serve.proofs.sums.log_program.Goals as goal

pub returns-in-Logic : goal.returns-in-Logic
returns-in-Logic g c = rw c.in-Logic.is (rw c.sum_digits-digits.ensures at c.log.ensures)

pub returns-in-Image : goal.returns-in-Image
returns-in-Image g c = rw c.in-Image.is (rw c.sum_digits-digits.ensures at c.log-in-Image.ensures)
