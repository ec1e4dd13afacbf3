use Rattle.bay_server_turn.specs.Calls.{CountedCall}
use Rattle.cmd_serve.specs.Service.{turns_in}
use Rattle.cmd_serve.proofs.TextLemmas.{device-named, printed-from}
use Rattle.cmd_serve.proofs.TurnLemmas.{turned}
use Rattle.cmd_serve.proofs.laws.printed_commands_are_requested.Goals as goal

pub returns-clause-lines : goal.returns-clause-lines
returns-clause-lines g c = λ turns before old new host answer serves begun ids.
    printed-from before.held
    (turns_in (CountedCall g.L.Link.does g.L.Link.failures) g.H.Host.does g.W.Sink.contents
    g.W.Sink.does turns before old host new answer serves) begun ids
    (turned (CountedCall g.L.Link.does g.L.Link.failures) g.H.Host.does g.W.Sink.contents
    g.W.Sink.does turns before old host new answer serves)

pub returns-clause-names : goal.returns-clause-names
returns-clause-names g c = device-named
