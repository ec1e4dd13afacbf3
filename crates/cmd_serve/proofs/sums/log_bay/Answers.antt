use Rattle.cmd_serve.proofs.sums.log_bay.Goals as goal

pub returns : goal.returns
returns g c = rw c.sum_digits-digits.ensures at c.log.ensures
