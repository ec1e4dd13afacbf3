-- A device with a switch whose key is its second input, and reports of its inputs.
use Rattle.std.specs.Prelude.{ℕ, Bool, false, [], ◌∷◌, codes, None, Some, Ok, Err}
use Rattle.bay_base.specs.declared.switch.Control.TheVariants.{Direct}
use Rattle.bay_base.specs.declared.switch.Operation.TheVariants.{Open}
use Rattle.bay_base.specs.declared.switch.SwitchKind.TheVariants.{Breaker}
use Rattle.bay_mms_services.specs.declared.answer.Command.{Command}
use Rattle.bay_device.specs.Device.{State}
use Rattle.bay_device.specs.Fresh.{PastEvent}
use Rattle.bay_device.specs.declared.event.Event.TheVariants.{Input}
use Rattle.bay_device.specs.declared.event.Step.{Step}
use Rattle.bay_device.specs.declared.fault.StepFault.{StepFault}

-- a device with the inputs DOOR and S1_REMOTE, a switch QA1 whose key is `s1_remote`, and a switch
-- QB1 without a key
abbrev pub two_switches : State → State
two_switches s = record s {
  inputs = codes "DOOR" ∷ codes "S1_REMOTE" ∷ [];
  switches = record {
    id = codes "QA1";
    kind = Breaker;
    control = Direct;
    sbo_timeout_ms = 0;
    travel_ms = 500;
    remote = Some (codes "s1_remote");
    refuses_synchrocheck = false;
  }
      ∷ record {
        id = codes "QB1";
        kind = Breaker;
        control = Direct;
        sbo_timeout_ms = 0;
        travel_ms = 500;
        remote = None;
        refuses_synchrocheck = false;
      }
      ∷ [];
}

-- a command to open the switch at an index
abbrev pub open_switch : ℕ → Command
open_switch k = record { switch = k; operation = Open }

-- a report of the value of an input that was accepted
abbrev pub input_past : ℕ → Bool → State → Step → PastEvent
input_past k value s step = record { now = 0; event = Input k value; answer = Ok step; after = s }

-- a report of the value of an input that was refused
abbrev pub refused_input : ℕ → Bool → State → StepFault → PastEvent
refused_input k value s fault =
    record { now = 0; event = Input k value; answer = Err fault; after = s }
