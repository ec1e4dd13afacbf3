-- Inner: the slots at the end of a run, and of a scan.
use Rattle.std.specs.Prelude.{ℕ, ◌≡◌, List}
use Rattle.il_image.specs.declared.timer.TimerState.{TimerState}
use Rattle.il_image.specs.declared.value.Value.{Value}
use Rattle.il_image.specs.Images.{Image}
use Rattle.il_image.specs.Machine.{Halted, initial_state, run_from}
use Rattle.il_scan.specs.Scans.{MachineData, scan_start}
use Rattle.il_range.specs.declared.delay.KnownDelay.{KnownDelay}
use Rattle.il_range.specs.declared.timer.KnownTimer.{KnownTimer}
use Rattle.il_range.specs.declared.range.Range.{Range}
use Rattle.il_range.specs.Predictions.{IsReached, ScanLeaves}
use Rattle.il_range.specs.Ranges.{AreDelays, AreIn, AreTimersIn, Setting}

-- A run from the slots `given`, with some timers and at some moment, ends with the slots `after`.
pub record RunEnds (code : List ℕ) (given after : List Value) : Type 0 where
  pub timers : List TimerState
  pub now : ℕ
  pub most : ℕ
  pub timers_after : List TimerState
  pub steps : ℕ
  pub halts : run_from code now most (initial_state given timers) 0
      ≡ Halted after timers_after steps

-- Each run from slots in the ranges `slots`, with timers that are in `timers`, ends with slots in
-- `result`, and with timers that are in `timers_after`.
abbrev pub PredictsRun : List ℕ → List KnownTimer → List Range → List KnownTimer → List Range
    → Type 0
PredictsRun code timers slots timers_after result =
    (w : Setting) (given after : List Value) → AreIn w given slots → (e : RunEnds code given after)
    → AreTimersIn w e.now e.timers timers
    → AreIn w after result × AreTimersIn w e.now e.timers_after timers_after

-- Take any reached machine with the image that starts a scan with slots in the ranges `start`, and
-- with delays as `delays` says. The scan leaves slots in `result`, and delays as `last` says.
abbrev pub PredictsReached : Image → List Range → List KnownDelay → List KnownDelay → List Range
    → Type 0
PredictsReached image start delays last result =
    (w : Setting) (machine : MachineData) (inputs : List Value) (now : ℕ) (slots : List Value)
    (timers : List TimerState) → machine.image ≡ image → IsReached machine
    → AreIn w (scan_start machine inputs).slots start
    → AreDelays w.mark now machine.timers delays → ScanLeaves machine inputs now slots timers
    → AreIn w slots result × AreDelays w.mark now timers last

-- From slots in `memory` a scan leaves slots in `result`, with any inputs.
abbrev pub PredictsMemory : Image → List Range → List Range → Type 0
PredictsMemory image memory result =
    (w : Setting) (machine : MachineData) (inputs : List Value) (now : ℕ) (slots : List Value)
    (timers : List TimerState) → machine.image ≡ image → IsReached machine
    → AreIn w machine.slots memory → ScanLeaves machine inputs now slots timers
    → AreIn w slots result
