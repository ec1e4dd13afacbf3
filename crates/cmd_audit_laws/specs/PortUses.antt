-- The turns of a service are uses of the port of its process, so a supervised process is of the
-- bay.
use Rattle.std.specs.Prelude.{ℕ, zero, suc, ◌≡◌, ◌≢◌, Bool, List, [], ◌∷◌, ◌++◌, Option, Some, Result}
use mathlib.Core.Logic.{inl, inr}
use Rattle.bay_io.specs.Calls.{WriteCall}
use Rattle.bay_io.specs.Watched.{WriterState}
use Rattle.bay_io.specs.declared.outbox.WriteFault.{WriteFault}
use Rattle.bay_process_port.specs.Polling.{Script, poll_outcome}
use Rattle.bay_process_port.specs.Ports.{PortData, empty_port, port_reading}
use Rattle.bay_process_port.specs.ProcessOutput.{reported_turn}
use Rattle.bay_process_port.specs.Supervised.{SupervisionSettings}
use Rattle.bay_process_port.specs.Supervision.{AreOfBay, IsOfThisBay}
use Rattle.bay_process_port.specs.Uses.{Polls, StaysPresent, Takes, Use, after_uses, port_after}
use Rattle.bay_process_port.specs.declared.port.Presence.{Presence}
use Rattle.bay_process_port.specs.declared.port.Presence.TheVariants.{Absent, LossPending, Dismissed, Present}
use Rattle.bay_server_turn.specs.Calls.{Call, MakesCalls}
use Rattle.bay_server_turn.specs.Served.{report_in}
use Rattle.bay_server_turn.specs.declared.process_input.ProcessEvent.{ProcessEvent}
use Rattle.bay_server_turn.specs.declared.turn_report.Turn.{Turn}
use Rattle.bay_server.specs.Clock.{jump_of}
use Rattle.bay_server.specs.Host.{HostCall}
use Rattle.bay_server.specs.ServeReport.{ProcessData, ServiceState, ServesTurns, chosen_input, moment_of}
use Rattle.bay_server.specs.declared.clock.Clocks.{Clocks}
use Rattle.cmd_serve.specs.Live.{HoldsLater}

-- ---- the uses since the process was last absent

-- one use more, if the process is connected after it; otherwise none
abbrev pub uses_if : Presence → Use → List Use → List Use
uses_if Absent u uses = []
uses_if LossPending u uses = []
uses_if (Dismissed why) u uses = []
uses_if Present u uses = uses ++ u ∷ []

-- the uses since the process was last absent, after a use of this port
abbrev pub uses_after : Use → PortData → List Use → List Use
uses_after u p uses = uses_if (port_after u p).presence u uses

-- The port is that after these uses. They begin with an empty port to which no process is
-- connected, and a process is connected after each of them. The turns among them are of a device
-- with this domain and revision.
pub record IsUsed (sends : Bool) (settings : SupervisionSettings) (domain revision : List ℕ)
    (uses : List Use) (p : PortData) : Type 0 where
  pub stays : StaysPresent uses (empty_port sends (Some settings) Absent)
  pub bay : AreOfBay domain revision uses
  pub port : p ≡ after_uses uses (empty_port sends (Some settings) Absent)

-- ---- turns

module _ {L H : Type 0} (clocks : Clocks) (before : ServiceState L H) where
  -- a turn takes what the port has
  abbrev pub takes_use : Use
  takes_use = Takes before.held.device (moment_of clocks before) (jump_of clocks before.clock)

  -- after the turn the process is attended to
  abbrev pub polls_use : Turn → ServiceState L H → Script → Use
  polls_use turn after script =
      Polls (reported_turn (moment_of clocks before) turn after.held.device) after.held.device
      script

  -- the uses since the process was last absent, after those of a turn
  abbrev pub uses_of_turn : Turn → ServiceState L H → Script → PortData → List Use → List Use
  uses_of_turn turn after script p uses =
      uses_after (polls_use turn after script) (port_after takes_use p)
      (uses_after takes_use p uses)

-- A turn finds a device with this domain and revision, and the process so: if it is connected, its
-- port is that after the uses. If the turn is given an event of the process, or reports a command,
-- then the octets that the link read in the uses, that is, since the process was accepted, begin
-- with a line with this domain, this revision and the key of the settings.
pub record TurnFinds {L H : Type 0} (sends : Bool) (settings : SupervisionSettings)
    (domain revision : List ℕ) (uses : List Use) (clocks : Clocks) (turn : Turn)
    (before : ServiceState L H) : Type 0 where
  pub domain_is : before.held.device.domain ≡ domain
  pub revision_is : before.held.device.revision ≡ revision
  pub process : ProcessData L
  pub is : before.process ≡ Some process
  pub used : process.port.presence ≡ Present
      → IsUsed sends settings domain revision uses process.port
  pub event : (event : ProcessEvent)
      → (report_in (chosen_input clocks before).next.given).event ≡ Some event
      → IsOfThisBay sends settings domain revision uses
  pub command : turn.commands ≢ [] → IsOfThisBay sends settings domain revision uses

module _ {L H W : Type 0} (step : L → Call → L → Type 0) (acts : H → HostCall L → H → Type 0)
    (contents : W → Option (List ℕ)) (asks : W → WriteCall → W → Type 0) (sends : Bool)
    (settings : SupervisionSettings) (domain revision : List ℕ) where
  -- For some results of the link, its calls after a turn and the port then are those of the turn's
  -- two uses.
  pub record TurnUses (process : ProcessData L) (clocks : Clocks) (turn : Turn)
      (before after : ServiceState L H) : Type 0 where
    pub script : Script
    pub next : ProcessData L
    pub is : after.process ≡ Some next
    pub makes : MakesCalls step process.link
        (poll_outcome (reported_turn (moment_of clocks before) turn after.held.device)
        after.held.device script
        (port_reading before.held.device (moment_of clocks before) (jump_of clocks before.clock)
        process.port).port).calls next.link
    pub port : next.port
        ≡ port_after (polls_use clocks before turn after script)
        (port_after (takes_use clocks before) process.port)

  -- Each turn finds the port of the process as the uses since the process was last absent left it.
  -- If its lines could be printed, it adds two uses to them: it takes what the port has, and then
  -- the process is attended to.
  abbrev pub TurnsUsePort : List Use → (turns : ℕ) (before : ServiceState L H)
      (old : WriterState W)
      (host : H) (new : WriterState W) (answer : Result ℕ WriteFault)
      → ServesTurns step acts contents asks turns before old host new answer → Type 0
  TurnsUsePort uses zero before old host new answer serves = Unit {0}
  TurnsUsePort uses (suc turns) before old host new answer (inl fails) = Unit {0}
  TurnsUsePort uses (suc turns) before old host new answer (inr did) =
      (finds : TurnFinds sends settings domain revision uses did.3.clocks did.3.turn before)
      × HoldsLater _ _ did.2 did.4
      (λ rest.
      (u : TurnUses finds.process did.3.clocks did.3.turn before did.0)
      × TurnsUsePort
      (uses_of_turn did.3.clocks before did.3.turn did.0 u.script finds.process.port uses) turns
      rest.0 _ host new answer rest.2)
