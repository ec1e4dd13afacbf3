-- The results of a device's look-ups.
use Rattle.std.specs.Prelude.{ℕ, ◌+◌, Bool, true, nat_lt, List, [], ◌∷◌, ◌++◌, length, position, Option, None, Some, option_map, if◌then◌else◌}
use Rattle.bay_tree.specs.Rows.{leaf_named}
use Rattle.bay_tree.specs.declared.leaf.Leaf.{Leaf}
use Rattle.bay_base.specs.Names.{same_name}
use Rattle.bay_control.specs.declared.selection.Execution.{Execution}
use Rattle.bay_device.specs.Device.{State}
use Rattle.bay_nodes.specs.declared.switch.Switch.{Switch}
use Rattle.bay_process.specs.Releases.{switch_text}
use Rattle.bay_process.specs.Values.{is_truth}
use Rattle.bay_nodes.specs.Names.{StatusNames, cswi_name, opening_names_at, closing_names_at, position_names}

-- the index of the switch with an id, whatever the case of its letters
abbrev pub switch_index : State → List ℕ → Option ℕ
switch_index s id = position (λ switch. same_name switch.id id) s.switches

-- the index of the input with a name
abbrev pub input_index : State → List ℕ → Option ℕ
input_index s name = position (λ n. same_name n name) s.inputs

-- the index of the meter with an id
abbrev pub meter_index : State → List ℕ → Option ℕ
meter_index s id = position (λ m. same_name m id) s.meters

-- an interlocking value, by its names
abbrev pub is_enabled : State → StatusNames → Bool
is_enabled s names = is_truth true (leaf_named names.value s.rows)

-- the switch at index k may be opened
abbrev pub may_open : State → ℕ → Bool
may_open s k = is_enabled s (opening_names_at k)

-- the switch at index k may be closed
abbrev pub may_close : State → ℕ → Bool
may_close s k = is_enabled s (closing_names_at k)

-- both releases of the switch at an index, if there is one
abbrev pub enabled_of : State → ℕ → Option (Bool × Bool)
enabled_of s k = if nat_lt k (length s.switches) then Some (may_open s k, may_close s k) else None

-- the part of a scan's line for the switch at an index, if there is one
abbrev pub switch_part : State → ℕ → Option Switch → List ℕ
switch_part s k None = []
switch_part s k (Some switch) = switch_text switch.id (may_open s k) (may_close s k)

-- the parts for switches, the first of which has index k
abbrev pub switches_text : State → ℕ → List Switch → List ℕ
switches_text s k [] = []
switches_text s k (switch ∷ switches) =
    switch_part s k (Some switch) ++ switches_text s (k + 1) switches

-- the position of the switch at an index, as its control repeats it (IEC 61850-7-4, CSWI), if there
-- is such a switch
abbrev pub position_of : State → ℕ → Option Leaf
position_of s k =
    if nat_lt k (length s.switches) then leaf_named (position_names (cswi_name k)).value s.rows
    else None

-- the switch that is operating
abbrev pub operating_in : State → Option ℕ
operating_in s = option_map (λ (execution : Execution). execution.switch) s.controls.execution
