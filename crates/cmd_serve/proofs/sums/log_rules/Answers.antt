use Rattle.bay_server.proofs.LogLemmas.{logs-one}
use Rattle.cmd_serve.proofs.sums.log_rules.Goals as goal

pub returns : goal.returns
returns g c =
    rw c.in-Some.is
    (logs-one g.W.Sink.contents g.W.Sink.does c.args.writer.now c.log.new.self _
    (rw (c.sum_digits-digits.ensures, c.as_slice.ensures) at c.log.ensures))
