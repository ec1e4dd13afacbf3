-- The slots that the scans of a program may leave.
use Rattle.std.specs.Prelude.{ℕ, ◌≡◌, List}
use Rattle.il_image.specs.declared.timer.TimerState.{TimerState}
use Rattle.il_image.specs.declared.value.Value.{Value}
use Rattle.il_image.specs.Images.{Image}
use Rattle.il_image.specs.Machine.{Halted, run_from}
use Rattle.il_scan.specs.Scans.{MachineData, first_machine, scan_start}
use Rattle.il_range.specs.declared.delay.KnownDelay.{KnownDelay}
use Rattle.il_range.specs.declared.range.Range.{Range}
pub use Rattle.il_range.specs.Ranges.{AreDelays, AreIn, Setting, delay_onset_at, delay_start, delay_start_at, kind_of}

-- the machine with these slots and timers
abbrev pub with_memory : List Value → List TimerState → MachineData → MachineData
with_memory slots timers machine =
    record { image = machine.image; slots = slots; timers = timers }

-- The machine's run from these inputs at this moment ends at HALT, with these slots and timers.
pub record ScanLeaves (machine : MachineData) (inputs : List Value) (now : ℕ) (slots : List Value)
    (timers : List TimerState) : Type 0 where
  pub most : ℕ
  pub steps : ℕ
  pub halts : run_from machine.image.code now most (scan_start machine inputs) 0
      ≡ Halted slots timers steps

-- The machine is in its state before the first scan, or in a state that a scan leaves of a reached
-- machine, with any inputs at any moment.
pub data IsReached : MachineData → Type 0 where
  First : (image : Image) → IsReached (first_machine image)
  Next : (machine : MachineData) (inputs : List Value) (now : ℕ) (slots : List Value)
      (timers : List TimerState) → IsReached machine → ScanLeaves machine inputs now slots timers
      → IsReached (with_memory slots timers machine)

-- The slots of each reached machine with the image are in the ranges, in each setting.
abbrev pub IsMemory : Image → List Range → Type 0
IsMemory image ranges =
    (w : Setting) (machine : MachineData) → machine.image ≡ image → IsReached machine
    → AreIn w machine.slots ranges

-- Take any setting, and any reached machine with the image whose slots are in the ranges `memory`,
-- at any moment at which its delays are as `delays` says. A scan with inputs in the ranges `given`
-- leaves slots in `result`, and delays as `last` says.
abbrev pub PredictsScans : Image → List Range → List KnownDelay → List Range → List KnownDelay
    → List Range → Type 0
PredictsScans image memory delays given last result =
    (w : Setting) (machine : MachineData) (inputs : List Value) (now : ℕ) (slots : List Value)
    (timers : List TimerState) → machine.image ≡ image → IsReached machine
    → AreIn w machine.slots memory → AreDelays w.mark now machine.timers delays
    → AreIn w inputs given → ScanLeaves machine inputs now slots timers
    → AreIn w slots result × AreDelays w.mark now timers last
