-- When a device issues a command.
use Rattle.std.specs.Prelude.{ℕ, ◌≡◌, ◌≢◌, ◌≤◌, true, false, [], length, All, None, Result, IfOk}
use Rattle.bay_tree.specs.Rows.{leaf_named}
use Rattle.bay_process.specs.Values.{is_truth}
use Rattle.bay_control.specs.Decisions as control
use Rattle.bay_control.specs.Requests.{control_of, is_local}
use Rattle.bay_mms_services.specs.Released.{enable_name}
use Rattle.bay_mms_services.specs.declared.answer.Command.{Command}
use Rattle.bay_device.specs.Device.{State, is_fresh}
use Rattle.bay_device.specs.declared.event.Event.{Event}
use Rattle.bay_device.specs.declared.event.Step.{Step}
use Rattle.bay_device.specs.declared.fault.StepFault.{StepFault}

-- When a command is issued at a time, the process is not lost, the key of the switch is not at
-- local, the last scan is fresh, the interlocking value of the operation (EnaOpn for Open, EnaCls
-- for Close) is TRUE in the tree, and no switch of the bay is operating.
pub record IsReleasedAt (now : ℕ) (s : State) (command : Command) : Type 0 where
  pub heard : s.is_lost ≡ false
  pub remote : is_local (control_of s.controls.controls command.switch).key s.input_values ≡ false
  pub fresh : is_fresh now s ≡ true
  pub enabled : is_truth true (leaf_named (enable_name command.switch command.operation) s.rows)
      ≡ true
  pub idle : (control.controls_at now s.controls).execution ≡ None

-- Each command of a step was released before its event, and a step with a command also sends
-- something.
pub record AreCommanded (now : ℕ) (s : State) (step : Step) : Type 0 where
  pub released : All (IsReleasedAt now s) step.commands
  pub replied : step.commands ≢ [] → step.sent ≢ []

-- Each command of an answer was released before its event; a refused event has none.
abbrev pub CommandsReleased : ℕ → Event → State → Result Step StepFault → State → Type 0
CommandsReleased now event old answer new = IfOk answer (AreCommanded now old)

-- A step has at most one command.
abbrev pub IsSingle : Result Step StepFault → Type 0
IsSingle answer = IfOk answer (λ step. length step.commands ≤ 1)
