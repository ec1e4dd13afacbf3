-- Scans of verified code, from any state of its types.
use Rattle.std.specs.Prelude.{ℕ, List, length}
use Rattle.il_image.specs.declared.timer.TimerState.{TimerState}
use Rattle.il_image.specs.declared.value.Value.{Value}
use Rattle.il_image.specs.Images.{Image}
use Rattle.il_image.specs.Octets.{AreOctets}
use Rattle.il_image.specs.Tables.{slot_types}
use Rattle.il_verify.specs.Verdicts.{IsSafe}
use Rattle.il_scan.specs.Scans.{AreInputs, MachineData, Scans, outputs_of}
use Rattle.il_scan.specs.MachineStates.{HaveTypes}

-- A scan with these inputs at this moment ends: there are a state and a number of steps after it.
pub record ScanEnds (old : MachineData) (inputs : List Value) (now : ℕ) : Type 0 where
  pub new : MachineData
  pub steps : ℕ
  pub scans : Scans old inputs now new steps (outputs_of old.image.points new.slots)

-- If a table of kinds agrees with an image's code, and the code writes no point that may only be
-- read, then each scan ends: from any slots and timers of its types, with any inputs that fit, at
-- any moment.
abbrev pub NeverGoesWrong : Type 0
NeverGoesWrong =
    (image : Image) (slots : List Value) (timers : List TimerState) (inputs : List Value) (now : ℕ)
    → AreOctets image.code → IsSafe image
    → HaveTypes (slot_types image) (length image.timers) slots timers
    → AreInputs image.points inputs
    → ScanEnds (record { image = image; slots = slots; timers = timers }) inputs now
