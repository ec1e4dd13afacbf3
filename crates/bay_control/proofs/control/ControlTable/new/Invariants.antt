use Rattle.std.proofs.Common.{◌≡◌, length, take}
use Rattle.bay_control.specs.Decisions.{controls_of}
use Rattle.bay_control.proofs.control.ControlTable.new.Given as goal

-- the controls of the switches so far
abbrev pub invariant-loop-switch : goal.invariant-loop-switch
invariant-loop-switch l =
    (length l.controls.items ≡ l.switch-index)
    × (l.controls.items ≡ controls_of l.bay.inputs (take l.switch-index l.bay.switches))
