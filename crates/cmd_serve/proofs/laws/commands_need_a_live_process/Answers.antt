use Rattle.bay_server_turn.specs.Calls.{CountedCall}
use Rattle.cmd_serve.proofs.LiveLemmas.{commands-live}
use Rattle.cmd_serve.proofs.laws.commands_need_a_live_process.Goals as goal

pub returns : goal.returns
returns g c = λ settings turns before old host new answer serves begun supervised.
    commands-live (CountedCall g.L.Link.does g.L.Link.failures) g.H.Host.does g.W.Sink.contents
    g.W.Sink.does settings turns before old host new answer serves begun supervised
