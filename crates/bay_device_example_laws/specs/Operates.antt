-- Steps with a command, and octets that requested it.
use Rattle.std.specs.Prelude.{ℕ, ◌≡◌, ◌≢◌, List, [], ◌∷◌, Some}
use Rattle.std.specs.List.{Contains}
use Rattle.std.specs.Borrow.{Bor}
use Rattle.bay_mms_services.specs.ObservedEntries.{observed_in_pdu}
use Rattle.bay_mms_services.specs.Bay.{Bay}
use Rattle.bay_mms_services.specs.Entries.{operates_in}
use Rattle.bay_mms_services.specs.declared.answer.Command.{Command}
use Rattle.bay_device.specs.Operates.{AreReplied}
use Rattle.bay_device.specs.Outcomes.{initial_connection}
use Rattle.bay_device.specs.ObservedRuns.{pdus_in, observed_in_step}
use Rattle.bay_device.specs.declared.event.Event.{Event}
use Rattle.bay_device.specs.declared.event.Event.TheVariants.{Recv}
use Rattle.bay_device.specs.declared.event.Step.{Step}
use Rattle.bay_device_example_laws.specs.Commands.{open_command}

-- the step, but with these commands
abbrev pub step_with_commands : List Command → Step → Step
step_with_commands commands step = record step { commands = commands }

-- the first octets of association 1 request to open switch 0, a response of the step accepts this,
-- and the step accepts no other operate
pub record IsAccepted (now : ℕ) (names : Bay) (octets : Bor (List ℕ)) (step : Step) : Type 0 where
  pub told : operates_in (observed_in_step now (Recv 1 octets) names
      (Some (initial_connection 1) ∷ []) step)
      ≡ open_command ∷ []
  pub replied : AreReplied now 1 names octets.now (Some (initial_connection 1))
      (step_with_commands (open_command ∷ []) step)

-- no response of the step accepts an operate of association 1
abbrev pub IsRefused : ℕ → Bay → Step → Type 0
IsRefused now names step = (pdu response : List ℕ) → Contains (pdus_in step.sent) response
    → operates_in (observed_in_pdu now 1 pdu names response) ≡ []

-- the event brings no octets
abbrev pub IsOther : Event → Type 0
IsOther event = (a : ℕ) (octets : Bor (List ℕ)) → event ≢ Recv a octets
