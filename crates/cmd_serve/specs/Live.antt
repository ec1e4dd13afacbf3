-- At each command of a server with a supervised process the process is live.
use Rattle.std.specs.Prelude.{◌≡◌, ◌≢◌, ◌≤◌, Bool, ℕ, zero, suc, List, [], Option, None, Some, Result, Ok, Err}
use mathlib.Core.Logic.{inl, inr}
use Rattle.bay_io.specs.Calls.{WriteCall}
use Rattle.bay_io.specs.Watched.{WriterState}
use Rattle.bay_io.specs.declared.outbox.WriteFault.{WriteFault}
use Rattle.bay_process_port.specs.Ports.{initial_port}
use Rattle.bay_process_port.specs.Supervision.{IsLive}
use Rattle.bay_process_port.specs.Supervised.{SupervisionSettings, settings_in}
use Rattle.bay_server_turn.specs.Calls.{Call}
use Rattle.bay_server.specs.Clock.{jump_of}
use Rattle.bay_server.specs.Host.{HostCall}
use Rattle.bay_server.specs.ServeReport.{AfterTurn, ProcessData, ServiceState, ServesTurns, chosen_input, moment_of}

-- The process has these supervision settings, none has connected yet, and no line of a trace is
-- left.
pub record IsSupervised {L H : Type 0} (settings : SupervisionSettings) (b : ServiceState L H)
    : Type 0 where
  pub link : L
  pub sends : Bool
  pub is : b.process ≡ Some (record { link = link; port = initial_port sends (Some settings); skips_left = 0 })
  pub alone : b.lines ≡ []

-- The process is connected and supervised by these settings, it has introduced itself as the
-- process of this bay, and its last line counts from a moment at most the milliseconds of the
-- settings before this one.
abbrev pub IsLiveProcess : {L : Type 0} → SupervisionSettings → ℕ → Option (ProcessData L) → Type 0
IsLiveProcess settings now None = ⊥
IsLiveProcess settings now (Some p) = IsLive now p.port × (settings_in p.port.watch ≡ Some settings)

-- a statement on the turns after one, if its lines could be written
abbrev pub HoldsLater : (Ends Goes : Type 0) (reported : Result ℕ WriteFault)
    → AfterTurn reported Ends Goes
    → (Goes → Type 0) → Type 0
HoldsLater Ends Goes (Err fault) ends more = Unit {0}
HoldsLater Ends Goes (Ok status) goes more = more goes

module _ {L H W : Type 0} (step : L → Call → L → Type 0) (acts : H → HostCall L → H → Type 0)
    (contents : W → Option (List ℕ)) (asks : W → WriteCall → W → Type 0) where
  -- In each turn that reports a command the process is live at the moment of this very turn, after
  -- the turn has taken what the process has sent. Since the turn before, the system's clock has
  -- gone on by no more than the milliseconds of the settings beyond the steady one.
  abbrev pub CommandsLive : (settings : SupervisionSettings) (turns : ℕ) (before : ServiceState L H)
      (old : WriterState W)
      (host : H) (new : WriterState W) (answer : Result ℕ WriteFault)
      → ServesTurns step acts contents asks turns before old host new answer → Type 0
  CommandsLive settings zero before old host new answer serves = Unit {0}
  CommandsLive settings (suc turns) before old host new answer (inl fails) = Unit {0}
  CommandsLive settings (suc turns) before old host new answer (inr did) =
      (did.3.turn.commands ≢ []
      → IsLiveProcess settings (moment_of did.3.clocks before)
      (chosen_input did.3.clocks before).process
      × (jump_of did.3.clocks before.clock ≤ settings.limit))
      × HoldsLater _ _ did.2 did.4
      (λ rest. CommandsLive settings turns rest.0 _ host new answer rest.2)
