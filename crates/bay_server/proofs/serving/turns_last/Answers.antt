use Rattle.bay_server_turn.specs.Calls.{CountedCall}
use Rattle.bay_server.proofs.CycleLemmas.{turns-last}
use Rattle.bay_server.proofs.serving.turns_last.Goals as goal

pub returns : goal.returns
returns g c =
    turns-last (CountedCall g.L.Link.does g.L.Link.failures) g.H.Host.does g.W.Sink.contents
    g.W.Sink.does
