-- Scans of a machine.
use Rattle.std.specs.Prelude.{ℕ, ℤ, zero, suc, ◌≡◌, ◌+◌, ◌<◌, ◌≤◌, ◌⊎◌, false, not, List, [], ◌∷◌, length, map, filter, drop, slice_get, Some, if◌then◌else◌}
use Rattle.bay_base.specs.declared.types.ElementaryType.{ElementaryType}
use Rattle.il_image.specs.declared.image.ImagePoint.{ImagePoint}
use Rattle.il_image.specs.declared.timer.TimerState.{TimerState}
use Rattle.il_image.specs.declared.value.Value.{Value}
use Rattle.il_image.specs.Images.{Image}
use Rattle.il_image.specs.Machine.{Continues, Halted, State, run_from, initial_state, step_at}
use Rattle.il_image.specs.Tables.{slot_types}
use Rattle.il_image.specs.Timers.{first_state}
use Rattle.il_image.specs.Values.{default_value}
use Rattle.il_verify.specs.Verdicts.{IsBudget, IsDepth}
use Rattle.il_scan.specs.Words.{AreTyped, values_of}
use Rattle.il_scan.specs.declared.span.Span.{Span}

-- a machine as callers see it: its verified image, and the values of its slots and timers between
-- scans
pub record MachineData : Type 0 where
  pub image : Image
  pub slots : List Value
  pub timers : List TimerState

-- a machine as callers see it, from its words and timers
abbrev pub machine_data : Image → List ℤ → List TimerState → MachineData
machine_data image slots timers =
    record { image = image; slots = values_of (slot_types image) slots; timers = timers }

-- ---- the first state

-- the slots of the points, and then those of the variables with their initial values
abbrev pub first_slots : List ImagePoint → List Value → List Value
first_slots [] variables = variables
first_slots (p ∷ points) variables = default_value p.elementary ∷ first_slots points variables

-- a machine before its first scan
abbrev pub first_machine : Image → MachineData
first_machine image =
    record {
      image = image;
      slots = first_slots image.points image.variables;
      timers = map first_state image.timers;
    }

-- The image has a slot or a timer. Creating a machine of another image does not run out of memory.
abbrev pub Allocates : Image → Type 0
Allocates image = 0 < length image.points + length image.variables + length image.timers

-- ---- inputs and outputs

-- the points that may only be read, in the image's order
abbrev pub read_only : List ImagePoint → List ImagePoint
read_only points = filter (λ p. not p.writable) points

-- the type of a point's values
abbrev pub type_of_point : ImagePoint → ElementaryType
type_of_point p = p.elementary

-- There is one input for each point that may only be read, in the image's order, and it is of the
-- point's type.
abbrev pub AreInputs : List ImagePoint → List Value → Type 0
AreInputs points inputs = AreTyped (map type_of_point (read_only points)) inputs

-- the first of the inputs, or else the old value
abbrev pub first_input : {A : Type 0} → List A → A → A
first_input [] old = old
first_input (input ∷ inputs) old = input

-- the slots with the inputs in the slots of the points that may only be read
abbrev pub with_inputs : {A : Type 0} → List ImagePoint → List A → List A → List A
with_inputs [] inputs slots = slots
with_inputs (p ∷ points) inputs [] = []
with_inputs (p ∷ points) inputs (slot ∷ slots) =
    (if p.writable then slot else first_input inputs slot)
    ∷ with_inputs points (if p.writable then inputs else drop 1 inputs) slots

-- the slots of the points that may be written
abbrev pub outputs_of : {A : Type 0} → List ImagePoint → List A → List A
outputs_of [] slots = []
outputs_of (p ∷ points) [] = []
outputs_of (p ∷ points) (slot ∷ slots) =
    if p.writable then slot ∷ outputs_of points slots else outputs_of points slots

-- the slots of the points that may only be read
abbrev pub inputs_in : {A : Type 0} → List ImagePoint → List A → List A
inputs_in [] slots = []
inputs_in (p ∷ points) [] = []
inputs_in (p ∷ points) (slot ∷ slots) =
    if p.writable then inputs_in points slots else slot ∷ inputs_in points slots

-- The index is not in the span.
abbrev pub IsOutside : Span → ℕ → Type 0
IsOutside span k = (k < span.from) ⊎ (span.to ≤ k)

-- Outside the span, the values held are the inputs.
abbrev pub AreHeld : Span → List Value → List Value → Type 0
AreHeld span inputs held =
    (k : ℕ) (v : Value) → IsOutside span k → slice_get inputs k ≡ Some v
    → slice_get held k ≡ Some v

-- ---- a scan

-- the state in which the run of a scan starts
abbrev pub scan_start : MachineData → List Value → State
scan_start machine_data inputs =
    initial_state (with_inputs machine_data.image.points inputs machine_data.slots)
    machine_data.timers

-- No state of a run of at most this number of steps has more cells than `depth` on its stack.
abbrev pub IsWithin : List ℕ → ℕ → ℕ → ℕ → State → Type 0
IsWithin code now depth zero s = length s.cells ≤ depth
IsWithin code now depth (suc most) s =
    (length s.cells ≤ depth)
    × ((next : State) → step_at code now s ≡ Continues next → IsWithin code now depth most next)

-- The machine's run from these inputs at this moment ends at HALT, after `steps` steps, with the
-- new slots and timers.
pub record Scans (old : MachineData) (inputs : List Value) (now : ℕ) (new : MachineData) (steps : ℕ)
    (outputs : List Value) : Type 0 where
  -- the image is unchanged
  pub image : new.image ≡ old.image
  -- a run of at least `steps` steps ends at HALT, and no step of it is a trap
  pub halts : (most : ℕ) → steps ≤ most
      → run_from old.image.code now most (scan_start old inputs) 0
      ≡ Halted new.slots new.timers steps
  -- the run takes no more steps than the budget, nor than the code has octets
  pub within : (budget : ℕ) → IsBudget old.image.code budget → steps ≤ budget
  pub few : steps ≤ length old.image.code
  -- the stack is never deeper than the image's depth
  pub depth : (most : ℕ) (steps : ℕ) → IsDepth old.image most
      → IsWithin old.image.code now most steps (scan_start old inputs)
  -- the slot of a point that may only be read still has its input after the run
  pub keeps : (n : ℕ) (p : ImagePoint) → slice_get old.image.points n ≡ Some p → p.writable ≡ false
      → slice_get new.slots n ≡ slice_get (scan_start old inputs).slots n
  -- the outputs are the points that may be written
  pub given : outputs ≡ outputs_of old.image.points new.slots
