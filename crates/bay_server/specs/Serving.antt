-- The result of trying one turn.
use Rattle.bay_io.specs.Calls.{WriteCall}
use Rattle.std.specs.Prelude.{ℕ, List, Option, Result, Ok, Err, ◌⊎◌}
use Rattle.bay_io.specs.Watched.{WriterState}
use Rattle.bay_io.specs.declared.outbox.WriteFault.{WriteFault}
use Rattle.bay_server.specs.Host.{HostCall}
use Rattle.bay_server.specs.ServeReport.{ServiceState, TurnRefused, TurnServed}
use Rattle.bay_server.specs.declared.serving.Service.{Service}
use Rattle.bay_server.specs.declared.serving.TurnAttempt.{TurnAttempt}
use Rattle.bay_server.specs.declared.serving.TurnAttempt.TheVariants as tried
use Rattle.bay_server_turn.specs.Calls.{Call}

-- the state of a service, with the host and the lines of the trace
abbrev pub with_host : {L H : Type 0} → Service L → H → List (ℕ × List ℕ) → ServiceState L H
with_host served host lines = record {
  link = served.link.link;
  held = served.server;
  clock = served.clock;
  count = served.count;
  host = host;
  process = served.process;
  lines = lines;
}

module _ {L H W : Type 0} (step : L → Call → L → Type 0) (acts : H → HostCall L → H → Type 0)
    (contents : W → Option (List ℕ)) (asks : W → WriteCall → W → Type 0) where
  -- a turn was done or refused, and its output was printed; or the output could not be written
  abbrev pub TriesTurn : ServiceState L H → WriterState W → ServiceState L H → WriterState W
      → Result TurnAttempt WriteFault → Type 0
  TriesTurn before old after new (Ok (tried.Done was_idle)) =
      (status : ℕ) × TurnServed step acts contents asks before old after new (Ok status)
  TriesTurn before old after new (Ok (tried.Ends status)) =
      TurnRefused step acts contents asks before old after.host new (Ok status)
  TriesTurn before old after new (Err fault) =
      TurnServed step acts contents asks before old after new (Err fault)
      ⊎ TurnRefused step acts contents asks before old after.host new (Err fault)
