-- Events at time 0, and a device with a program of few octets.
use Rattle.std.specs.Prelude.{ℕ, Bool, true, List, [], ◌∷◌, Result, Ok, Err, Some, codes}
use Rattle.bay_base.specs.declared.position.Dbpos.TheVariants.{Off}
use Rattle.bay_tree.specs.declared.leaf.Leaf.{Leaf}
use Rattle.il_image.specs.declared.value.Value.TheVariants.{Truth}
use Rattle.il_check.specs.Program.{Checked}
use Rattle.bay_device.specs.Device.{State}
use Rattle.bay_device.specs.Fresh.{PastEvent, is_heard}
use Rattle.bay_device.specs.declared.event.Event.{Event}
use Rattle.bay_device.specs.declared.event.Event.TheVariants.{Contact, Lost, Scan}
use Rattle.bay_device.specs.declared.event.Step.{Step}
use Rattle.bay_device.specs.declared.fault.StepFault.{StepFault}

-- an accepted scan, and the device after it
abbrev pub scan_past : State → Step → PastEvent
scan_past s step = record { now = 0; event = Scan; answer = Ok step; after = s }

-- a refused scan
abbrev pub refused_past : State → StepFault → PastEvent
refused_past s fault = record { now = 0; event = Scan; answer = Err fault; after = s }

-- an accepted report of a position
abbrev pub contact_past : State → Step → PastEvent
contact_past s step = record { now = 0; event = Contact 0 Off; answer = Ok step; after = s }

-- the loss of the process
abbrev pub lost_past : State → Step → PastEvent
lost_past s step = record { now = 0; event = Lost; answer = Ok step; after = s }

-- the device after a process reported a position of a breaker, an input and a measured value, the
-- position and the measured value with a quality, by the names that PROTOCOL gives
abbrev pub state_after_reports : Leaf → Leaf → Bool → Leaf → Leaf → State → State
state_after_reports position quality input power doubt s = record s {
  rows = record { name = codes "XCBR1$ST$Pos$stVal"; leaf = Some position }
      ∷ record { name = codes "XCBR1$ST$Pos$q"; leaf = Some quality }
      ∷ record { name = codes "MMXU1$MX$TotW$mag$i"; leaf = Some power }
      ∷ record { name = codes "MMXU1$MX$TotW$q"; leaf = Some doubt }
      ∷ [];
  input_values = input ∷ [];
}

-- whether the process is heard after its loss and this event
abbrev pub is_heard_after_loss : Event → Result Step StepFault → State → Step → Bool
is_heard_after_loss event answer s step =
    is_heard (record { now = 0; event = event; answer = answer; after = s } ∷ lost_past s step ∷ [])

-- the device with this code, without switches, points, variables and timers
abbrev pub with_code : List ℕ → State → State
with_code code s = record s {
  machine = record {
    image = record { points = []; variables = []; timers = []; code = code };
    slots = [];
    timers = [];
  };
  reads = [];
  switches = [];
  moment = 0;
}

-- the device with a program of HALT alone
abbrev pub halting_device : State → State
halting_device s = with_code (1 ∷ []) s

-- the device with a program of HALT alone, and with a slot that the program does not declare
abbrev pub with_slot : State → State
with_slot s = record (halting_device s) {
  machine = record (halting_device s).machine { slots = Truth true ∷ [] };
}

-- the program of a text without declarations and lines
abbrev pub empty_program : Checked
empty_program = record { externals = []; variables = []; timers = []; items = [] }
