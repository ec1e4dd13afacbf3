-- The scans of a device that was loaded from the text of a program: each leaves the values that the
-- text means.
use Rattle.std.specs.Prelude.{ℕ, ◌≡◌, ◌≤◌, Bool, false, nat_lt, ◌||◌, List, length, map, take, drop, Some, Result, IfOk, IsOkAnd, IsSomeAnd}
use Rattle.il_image.specs.Machine.{Halted}
use Rattle.il_image.specs.declared.timer.TimerState.{TimerState}
use Rattle.il_image.specs.declared.value.Value.{Value}
use Rattle.il_check.specs.Program.{Checked}
use Rattle.il_compile.specs.Compiled.{point_of}
use Rattle.il_compile.specs.Correct.{ImplementsText, HasTypes}
use Rattle.il_compile.specs.Meaning.{Memory, mean}
use Rattle.il_verify.specs.Verdicts.{IsBudget}
use Rattle.il_scan.specs.Scans.{outputs_of, read_only, scan_start, type_of_point}
use Rattle.bay_device.specs.Device.{State, ending_at, inputs_of}
use Rattle.bay_device.specs.Outcomes.{last_moment}
use Rattle.bay_process.specs.Values.{with_outputs}
use Rattle.bay_device.specs.declared.event.Event.{Event}
use Rattle.bay_device.specs.declared.event.Event.TheVariants.{Scan}
use Rattle.bay_device.specs.declared.event.Step.{Step}
use Rattle.bay_device.specs.declared.fault.StepFault.{StepFault}
use Rattle.bay_process.specs.Sources.{type_of_source}

-- ---- no trap, and the budget

-- Run from the current slots and timers, the machine reaches HALT without a trap, in this number of
-- steps, within the budget of the code; the device then has the resulting slots and timers.
pub record Halts (now : ℕ) (old : State) (steps : ℕ) (new : State) : Type 0 where
  pub halts : ending_at now old ≡ Halted new.machine.slots new.machine.timers steps
  pub within : (budget : ℕ) → IsBudget old.machine.image.code budget → steps ≤ budget

-- the event is refused because of its time
abbrev pub is_refused : ℕ → State → Bool
is_refused now s = nat_lt last_moment now || nat_lt now s.moment

-- A scan whose time is not refused is accepted, and halts so in the number of steps that its answer
-- has.
abbrev pub HaltsAt : ℕ → Event → State → Result Step StepFault → State → Type 0
HaltsAt now event old answer new =
    event ≡ Scan → is_refused now old ≡ false
    → IsOkAnd answer (λ step. IsSomeAnd step.scan (λ steps. Halts now old steps new))

-- ---- what the text means

-- the values of a program's externals, variables and timers, from the machine's slots and timers
abbrev pub memory_of : Checked → List Value → List TimerState → Memory
memory_of c slots timers =
    record {
      externals = take (length c.externals) slots;
      variables = drop (length c.externals) slots;
      timers = timers;
    }

-- the values before a scan: those of the device, with the current values of the read-only points
abbrev pub memory_before : Checked → State → Memory
memory_before c s = let start =
    scan_start s.machine (inputs_of s) in memory_of c start.slots start.timers

-- The device after a scan has the values that the text means: the program's meaning on the values
-- before is the values after, and the interlocking values in the tree are those of the program's
-- externals.
pub record Means (c : Checked) (now : ℕ) (old new : State) : Type 0 where
  pub after : Memory
  pub is : mean now c.items (memory_before c old) ≡ Some after
  pub keeps : memory_of c new.machine.slots new.machine.timers ≡ after
  pub rows : new.rows
      ≡ with_outputs old.switches old.writes
      (outputs_of (map point_of c.externals) after.externals) now 0 old.switches old.rows

-- After an accepted scan the device has the values that the text means.
abbrev pub MeansAt : Checked → ℕ → Event → State → Result Step StepFault → State → Type 0
MeansAt c now event old answer new = event ≡ Scan → IfOk answer (λ step. Means c now old new)

-- ---- a device that runs a program

-- The device runs the program: its image has the program's externals as points and code that does
-- what the text means, its slots and timers have values of the program's types, and its read-only
-- points have their types.
pub record Runs (c : Checked) (s : State) : Type 0 where
  pub points : s.machine.image.points ≡ map point_of c.externals
  pub does : ImplementsText c s.machine.image.code
  pub types : HasTypes c (memory_of c s.machine.slots s.machine.timers)
  pub reads : map type_of_source s.reads ≡ map type_of_point (read_only s.machine.image.points)
