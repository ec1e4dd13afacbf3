use Rattle.bay_server.proofs.LogLemmas.{logs-then}
use Rattle.cmd_serve.proofs.sums.log_sums.Goals as goal

pub returns : goal.returns
returns g c = (
  c.log_bay.new.writer,
  rw c.as_slice.ensures.value at c.log_bay.ensures,
  (
    c.log_program.new.writer,
    rw c.as_slice-2.ensures.value at c.log_program.ensures,
    logs-then g.W.Sink.contents g.W.Sink.does c.log_program.new.writer c.log_rules.new.writer
        c.log_diagram.new.writer _ _ c.log_rules.ensures c.log_diagram.ensures,
  ),
)
