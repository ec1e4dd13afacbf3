-- Inner: what the pass knows at the offsets that it has yet to reach. An offset counts octets of
-- the code from 0.
use Rattle.std.specs.Prelude.{ℕ, ◌≡◌, ◌≢◌, ◌+◌, ◌≤◌, true, false, List, length, reverse, slice_get, Option, Some}
use Rattle.il_image.specs.declared.instr.Instr.{Instr}
use Rattle.il_image.specs.declared.value.Value.{Value}
use Rattle.il_image.specs.declared.value.Value.TheVariants.{Truth}
use Rattle.il_image.specs.declared.timer.TimerState.{TimerState}
use Rattle.il_image.specs.Machine.{State, StepResult, Continues, Halts, Traps, act}
use Rattle.il_image.specs.Reading.{instr_at}
use Rattle.il_range.specs.declared.range.Range.{Range}
use Rattle.il_range.specs.declared.known.Known.{Known}
use Rattle.il_range.specs.Effects.{KnownData, join, join_timer, join_lists}
use Rattle.il_range.specs.Ranges.{AreIn, AreTimersIn, IsIn, Setting}

-- what is known, as lists
abbrev pub known_view : Known → KnownData
known_view s =
    record { cells = reverse s.cells.items; slots = s.slots.items; timers = s.timers.items }

-- what a run holds at its moment, in a setting: the cells with the top first, the slots and the
-- timers
pub record RunState : Type 0 where
  pub now : ℕ
  pub setting : Setting
  pub cells : List Value
  pub slots : List Value
  pub timers : List TimerState

-- the cells, slots and timers of a state, at a moment and in a setting
abbrev pub run_state : ℕ → Setting → State → RunState
run_state now w s = record {
  now = now;
  setting = w;
  cells = s.cells;
  slots = s.slots;
  timers = s.timers;
}

-- The cells, slots and timers of the run are in the known ranges.
pub record Covers (p : KnownData) (h : RunState) : Type 0 where
  pub cells : AreIn h.setting h.cells p.cells
  pub slots : AreIn h.setting h.slots p.slots
  pub timers : AreTimersIn h.setting h.now h.timers p.timers

-- Whatever the first covers, the second covers too.
abbrev pub IsCoveredBy : KnownData → KnownData → Type 0
IsCoveredBy p q = (h : RunState) → Covers p h → Covers q h

-- What is known after two paths: the joins of what is known on each, index by index.
pub record IsJoin (one other both : Known) : Type 0 where
  pub depth : length one.cells.items ≡ length other.cells.items
  pub size : length one.slots.items ≡ length other.slots.items
  pub count : length one.timers.items ≡ length other.timers.items
  pub cells : both.cells.items ≡ join_lists join one.cells.items other.cells.items
  pub slots : both.slots.items ≡ join_lists join one.slots.items other.slots.items
  pub timers : both.timers.items ≡ join_lists join_timer one.timers.items other.timers.items

-- Something is known at the offset, and it covers the run.
pub record CoversAt (pending : List (Option Known)) (offset : ℕ) (h : RunState) : Type 0 where
  pub known : Known
  pub here : slice_get pending offset ≡ Some (Some known)
  pub covers : Covers (known_view known) h

-- What was covered at an offset is still covered there.
abbrev pub KeepsCovered : List (Option Known) → List (Option Known) → Type 0
KeepsCovered old new = (q : ℕ) (h : RunState) → CoversAt old q h → CoversAt new q h

-- What is known is joined in at this offset; what was covered at any offset is still covered there.
pub record JoinsKnown (old new : List (Option Known)) (offset : ℕ) (come : KnownData) : Type 0 where
  pub keeps : KeepsCovered old new
  pub brings : (h : RunState) → Covers come h → CoversAt new offset h

-- A jump that is taken if `jumps` is TRUE: what is known is joined in at its target and at the next
-- instruction, or at one alone if the other is ruled out.
pub record Branches (jumps : Range) (distance next : ℕ) (come : KnownData)
    (old new : List (Option Known))
    : Type 0 where
  pub keeps : KeepsCovered old new
  pub far : (h : RunState) → IsIn h.setting (Truth true) jumps → Covers come h
      → CoversAt new (next + distance) h
  pub near : (h : RunState) → IsIn h.setting (Truth false) jumps → Covers come h
      → CoversAt new next h

-- A step goes to an offset from `next` on, where its state is covered; or it halts, and its state
-- is covered at the end; or it traps.
abbrev pub IsCoveredStep : StepResult → ℕ → ℕ → RunState → List (Option Known) → Type 0
IsCoveredStep (Continues s) next end h pending =
    (next ≤ s.offset) × CoversAt pending s.offset (run_state h.now h.setting s)
IsCoveredStep Halts next end h pending = CoversAt pending end h
IsCoveredStep (Traps trap) next end h pending = Unit {0}

-- Each step of the instruction from a covered state lands; what was covered is still covered.
pub record CoversSteps (instr : Instr) (next : ℕ) (come : KnownData) (old new : List (Option Known))
    : Type 0 where
  pub keeps : KeepsCovered old new
  pub lands : (now end : ℕ) (w : Setting) (s : State) → Covers come (run_state now w s)
      → IsCoveredStep (act now instr next s) next end (run_state now w s) new

-- Each step of the instruction at an offset, from a state that is covered there, lands after it;
-- what was covered at other offsets is still covered. The end of the code represents the end of a
-- run.
pub record CoversStepsAt (code : List ℕ) (offset : ℕ) (old new : List (Option Known)) : Type 0 where
  pub keeps : (q : ℕ) → q ≢ offset → (h : RunState) → CoversAt old q h → CoversAt new q h
  pub lands : (instr : Instr) (next now : ℕ) (w : Setting) (s : State)
      → instr_at code offset ≡ Some (instr, next) → CoversAt old offset (run_state now w s)
      → IsCoveredStep (act now instr next s) (offset + 1) (length code) (run_state now w s) new
