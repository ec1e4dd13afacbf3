-- Small runs of selects and operates of one switch.
use Rattle.std.specs.Prelude.{ℕ, false, true, List, [], ◌∷◌, None}
use Rattle.bay_base.specs.declared.switch.Control.{Control}
use Rattle.bay_base.specs.declared.switch.Control.TheVariants.{Sbo, SboEnhanced}
use Rattle.bay_control.specs.Acts.{Act, Entry, Opened, Closed, Select, SelectWith, Cancel, Operate}
use Rattle.bay_control.specs.Backing.{IsBacked}
use Rattle.bay_control.specs.declared.control.SwitchControl.{SwitchControl}
use Rattle.bay_control.specs.declared.request.Choice.{Choice}

-- the settings of a switch of this control model, without a key
abbrev pub sbo_control : Control → SwitchControl
sbo_control model =
    record {
      model = model;
      sbo_timeout_ms = 2000;
      travel_ms = 500;
      key = None;
      refuses_synchrocheck = false;
    }

-- one switch, which must be selected before it is operated; a selection lasts two seconds
abbrev pub one_switch : List SwitchControl
one_switch = sbo_control Sbo ∷ []

-- an act that was accepted at time 0
abbrev pub accepted_entry : Act → Entry
accepted_entry act = record { now = 0; act = act; is_accepted = true }

-- an operate of that switch by association 1 at a time, after these acts, is backed
abbrev pub IsBackedAfter : Choice → ℕ → List Entry → Type 0
IsBackedAfter choice now before = IsBacked one_switch 1 0 choice now before

-- a select of the switch by an association
abbrev pub selected_by : ℕ → Entry
selected_by a = accepted_entry (Select a 0)

-- a select that was refused
abbrev pub refused_select : Entry
refused_select = record (selected_by 1) { is_accepted = false }

-- an accepted cancel of the switch by association 1
abbrev pub cancel_entry : Entry
cancel_entry = accepted_entry (Cancel 1 0)

-- an accepted operate of the switch by association 1
abbrev pub operate_entry : Choice → Entry
operate_entry choice = accepted_entry (Operate 1 0 choice)

-- acts that do not undo that select: acts of association 2 and on another switch, and a refused
-- cancel
abbrev pub unrelated_entries : Choice → List Entry
unrelated_entries choice =
    accepted_entry (Opened 2) ∷ accepted_entry (Closed 2) ∷ accepted_entry (Operate 2 0 choice)
    ∷ accepted_entry (Operate 1 1 choice) ∷ accepted_entry (Cancel 2 0)
    ∷ accepted_entry (Cancel 1 1)
    ∷ record cancel_entry { is_accepted = false }
    ∷ record (selected_by 2) { is_accepted = false }
    ∷ []

-- one switch with enhanced security
abbrev pub enhanced_switch : List SwitchControl
enhanced_switch = sbo_control SboEnhanced ∷ []

-- an accepted select with value of that switch by association 1
abbrev pub selected_with : Choice → Entry
selected_with choice = accepted_entry (SelectWith 1 0 choice)

-- an operate of that switch by association 1 in time, after these acts, is backed
abbrev pub IsMatchedAfter : Choice → List Entry → Type 0
IsMatchedAfter choice before = IsBacked enhanced_switch 1 0 choice 1999 before
