use Rattle.bay_server_turn.specs.Calls.{CountedCall}
use Rattle.cmd_serve.specs.Service.{turns_in}
use Rattle.cmd_serve.proofs.BeginLemmas.{ordered-from}
use Rattle.cmd_serve.proofs.TurnLemmas.{turned}
use Rattle.cmd_serve.proofs.laws.each_command_is_requested.Goals as goal

pub returns : goal.returns
returns g c = λ turns before old new host answer serves begun.
    ordered-from before.held
    (turns_in (CountedCall g.L.Link.does g.L.Link.failures) g.H.Host.does g.W.Sink.contents
    g.W.Sink.does turns before old host new answer serves) begun
    (turned (CountedCall g.L.Link.does g.L.Link.failures) g.H.Host.does g.W.Sink.contents
    g.W.Sink.does turns before old host new answer serves)
