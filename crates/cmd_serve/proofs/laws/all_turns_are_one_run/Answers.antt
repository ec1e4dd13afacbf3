use Rattle.bay_server_turn.specs.Calls.{CountedCall}
use Rattle.cmd_serve.proofs.BeginLemmas.{begun-of}
use Rattle.bay_device.proofs.LoadedLemmas.{device-loaded, loaded-runs}
use Rattle.bay_load.specs.declared.load.Form.TheVariants.{Logic}
use Rattle.cmd_serve.proofs.TurnLemmas.{service-of}
use Rattle.cmd_serve.proofs.laws.all_turns_are_one_run.Goals as goal

pub returns-clause-run : goal.returns-clause-run
returns-clause-run g c = λ turns before old new host answer serves loaded.
    service-of (CountedCall g.L.Link.does g.L.Link.failures) g.H.Host.does g.W.Sink.contents
    g.W.Sink.does turns before old new host answer serves loaded

pub returns-clause-begins : goal.returns-clause-begins
returns-clause-begins g c = begun-of

pub returns-clause-runs : goal.returns-clause-runs
returns-clause-runs g c = λ bay program device loads.
    let loaded = device-loaded bay Logic program device loads in
    (loaded, loaded-runs bay program device loaded)
