-- A device that has just released switch 0 for opening, and steps with a command to it.
use Rattle.std.specs.Prelude.{ℕ, ◌≡◌, ◌≢◌, Bool, true, false, List, [], ◌∷◌, ◌++◌, None, Some, codes}
use Rattle.bay_tree.specs.declared.leaf.Leaf.TheVariants as leaf
use Rattle.bay_nodes.specs.Names.{opening_names_at}
use Rattle.bay_base.specs.declared.switch.Control.TheVariants.{Direct}
use Rattle.bay_base.specs.declared.switch.Operation.TheVariants.{Open, Close}
use Rattle.bay_mms_services.specs.declared.answer.Command.{Command}
use Rattle.bay_device.specs.Device.{State}
use Rattle.bay_device.specs.declared.event.Step.{Step}

-- the command to open switch 0
abbrev pub open_command : Command
open_command = record { switch = 0; operation = Open }

-- the command to close switch 0
abbrev pub close_command : Command
close_command = record { switch = 0; operation = Close }

-- the step has this command and no other, and sends something
pub record HasOnlyCommand (command : Command) (step : Step) : Type 0 where
  pub commands : step.commands ≡ command ∷ []
  pub sent : step.sent ≢ []

-- a scan at time 5, whose maximum age is one second, has set EnaOpn of switch 0, and no switch
-- operates
abbrev pub released_state : State → State
released_state s = record s {
  scan_max_age_ms = 1000;
  last_scan = Some 5;
  is_stale = false;
  is_lost = false;
  rows = record { name = (opening_names_at 0).value; leaf = Some (leaf.Truth true) } ∷ [];
  controls = record { controls = []; selection = None; execution = None };
}

-- the device of `released_state`, but switch 0 has a key, whose input has this value
abbrev pub keyed_state : Bool → State → State
keyed_state value s = record (released_state s) {
  input_values = value ∷ [];
  controls = record {
    controls = record {
      model = Direct;
      sbo_timeout_ms = 0;
      travel_ms = 500;
      key = Some 0;
      refuses_synchrocheck = false;
    }
        ∷ [];
    selection = None;
    execution = None;
  };
}

-- the device of `released_state`, but switch 0 began at time 5 to open, which takes half a second
abbrev pub operating_state : State → State
operating_state s = record (released_state s) {
  controls = record {
    controls = record {
      model = Direct;
      sbo_timeout_ms = 0;
      travel_ms = 500;
      key = None;
      refuses_synchrocheck = false;
    }
        ∷ [];
    selection = None;
    execution = Some (record { switch = 0; start = 5; operation = Open });
  };
}

-- the device of `released_state`, but with these two values below this node CILO, by the names that
-- PROTOCOL gives
abbrev pub interlocked_state : List ℕ → Bool → Bool → State → State
interlocked_state node opn cls s = record (released_state s) {
  rows = record { name = node ++ codes "$ST$EnaOpn$stVal"; leaf = Some (leaf.Truth opn) }
      ∷ record { name = node ++ codes "$ST$EnaCls$stVal"; leaf = Some (leaf.Truth cls) }
      ∷ [];
}
