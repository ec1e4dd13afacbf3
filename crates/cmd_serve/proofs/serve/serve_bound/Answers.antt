use Rattle.bay_server.proofs.LogLemmas.{logs-then}
use Rattle.bay_server_turn.specs.Calls.{CountedCall}
use Rattle.cmd_serve.proofs.FileLemmas.{one-run}
use Rattle.cmd_serve.proofs.serve.serve_bound.Goals as goal

pub returns : goal.returns
returns g c = (
  c.clocks-clocks.result,
  c.clocks-clocks.new.self,
  c.log_sums.new.writer,
  c.clocks-clocks.ensures,
  (
    c.log_ports.new.writer,
    c.log_ports.ensures,
    logs-then g.W.Sink.contents g.W.Sink.does c.log_ports.new.writer c.log_room.new.writer
        c.log_sums.new.writer _ _ (rw c.record_room.ensures at c.log_room.ensures)
        c.log_sums.ensures,
  ),
  one-run (CountedCall g.L.Link.does g.L.Link.failures) g.H.Host.does g.W.Sink.contents
      g.W.Sink.does _
      _ _ _ _ _ (rw c.start-clock.ensures at c.serve_turns.ensures) c.requires.begun
      c.requires.named,
)
