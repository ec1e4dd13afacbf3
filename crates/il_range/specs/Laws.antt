-- What holds of each scan.
use Rattle.std.specs.Prelude.{ℕ, ◌≡◌, ◌⊎◌, List, Some}
use Rattle.il_image.specs.declared.timer.TimerState.{TimerState}
use Rattle.il_image.specs.declared.value.Value.{Value}
use Rattle.il_scan.specs.Scans.{MachineData, Scans}
use Rattle.il_range.specs.Predictions.{IsReached, ScanLeaves, delay_start_at}

-- Each scan of il_scan is a run as `ScanLeaves` defines it.
abbrev pub IsByScan : Type 0
IsByScan =
    (old new : MachineData) (inputs outputs : List Value) (now steps : ℕ)
    → Scans old inputs now new steps outputs → ScanLeaves old inputs now new.slots new.timers

-- Each scan leads from a reached machine to a reached one.
abbrev pub ReachesByScan : Type 0
ReachesByScan =
    (old new : MachineData) (inputs outputs : List Value) (now steps : ℕ)
    → Scans old inputs now new steps outputs → IsReached old → IsReached new

-- A delay that runs after this moment began at this moment, or already ran before it.
abbrev pub DelayContinues : ℕ → List TimerState → List TimerState → Type 0
DelayContinues now after before =
    (n start : ℕ) → delay_start_at n after ≡ Some start
    → (start ≡ now) ⊎ (delay_start_at n before ≡ Some start)

-- In each scan, delays continue so.
abbrev pub DelaysContinue : Type 0
DelaysContinue =
    (machine : MachineData) (inputs : List Value) (now : ℕ) (slots : List Value)
    (timers : List TimerState) → ScanLeaves machine inputs now slots timers
    → DelayContinues now timers machine.timers
