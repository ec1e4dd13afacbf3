-- Inner: the states of the machine of typed values in verified code, and what one step of the
-- machine of words does there. An offset counts octets of the code from 0.
use Rattle.std.specs.Prelude.{ℕ, ℤ, ◌≡◌, ◌≤◌, IsSome, if◌then◌else◌, true, List, [], ◌∷◌, length, slice_get, Option, Some, None}
use Rattle.bay_base.specs.declared.types.ElementaryType.{ElementaryType}
use Rattle.il_image.specs.declared.kind.CellKind.{CellKind}
use Rattle.il_image.specs.declared.timer.TimerState.{TimerState}
use Rattle.il_image.specs.declared.value.Value.{Value}
use Rattle.il_image.specs.Images.{Each, Image, IsValue}
use Rattle.il_image.specs.Kinds.{HasKind}
use Rattle.il_image.specs.Machine.{Continues, Halted, Halts, State, run_from, initial_state, step_at}
use Rattle.il_image.specs.Tables.{Agrees, IsHalt, IsSuccessor, Table, slot_types}
use Rattle.il_verify.specs.Judging.{is_read_only}
use Rattle.il_verify.specs.Slots.{slots_of}
use Rattle.il_verify.specs.Verdicts.{IsBudget, IsDepth, WritesNoReadOnly}
use Rattle.il_image.specs.declared.image.ImagePoint.{ImagePoint}
use Rattle.il_image.specs.Values.{value_of}
use Rattle.il_scan.specs.Scans.{IsWithin}
use Rattle.il_scan.specs.PointIndices.{writable_count}
use Rattle.il_scan.specs.PointIndices.{read_indices, write_indices}
use Rattle.il_scan.specs.Words.{AreTyped, EncodeValues, value_at, values_of, words_of}
use Rattle.il_scan.specs.WordEffects.{Words, words}

-- Each value has the kind at the same index, and is in the range of its type.
abbrev pub HaveKinds : List Value → List CellKind → Type 0
HaveKinds [] [] = Unit {0}
HaveKinds (v ∷ values) (k ∷ kinds) = (HasKind v k × IsValue v) × HaveKinds values kinds
HaveKinds [] (k ∷ kinds) = ⊥
HaveKinds (v ∷ values) [] = ⊥

-- PT and ET are in the range of TIME.
abbrev pub IsTimer : TimerState → Type 0
IsTimer t = (t.preset ≤ 0x7FFF_FFFF) × (t.elapsed ≤ 0x7FFF_FFFF)

-- The slots hold values of these types, and there are `count` timers.
pub record HaveTypes (types : List ElementaryType) (count : ℕ) (slots : List Value)
    (timers : List TimerState) : Type 0 where
  pub of_types : AreTyped types slots
  pub timer_count : length timers ≡ count
  pub times : Each IsTimer timers

-- An agreeing table allows the cells at the state's offset, and the code writes only what it may.
pub record IsAllowedAt (image : Image) (s : State) : Type 0 where
  pub table : Table
  pub agrees : Agrees image table
  pub writes : WritesNoReadOnly image
  pub kinds : List CellKind
  pub here : table s.offset ≡ Some kinds
  pub fit : HaveKinds s.cells kinds
  pub typed : HaveTypes (slot_types image) (length image.timers) s.slots s.timers

-- the words that encode a state's values, and its timers
abbrev pub words_at : State → Words
words_at s = words (words_of s.cells) (words_of s.slots) s.timers

-- The words encode this state, which is at this offset in the code.
pub record EncodesStateAt (image : Image) (offset : ℕ) (w : Words) (s : State) : Type 0 where
  pub allowed : IsAllowedAt image s
  pub there : s.offset ≡ offset
  pub are : words_at s ≡ w

-- The words encode a state of some image with this code, at this offset.
abbrev pub EncodesAt : List ℕ → ℕ → Words → Type 0
EncodesAt code offset w =
    (image : Image) × (s : State) × (image.code ≡ code) × EncodesStateAt image offset w s

-- The slots of points that may only be read are unchanged.
abbrev pub KeepsSlots : Image → Words → Words → Type 0
KeepsSlots image old new = (n : ℕ) → is_read_only (slots_of image) n ≡ true
    → slice_get new.slots n ≡ slice_get old.slots n

-- One step of the machine of typed values from the state results in these words: the machine halts
-- if there is no next offset, and otherwise goes to that offset.
abbrev pub StepsTo : Image → ℕ → State → Option ℕ → Words → Type 0
StepsTo image now s None after =
    (step_at image.code now s ≡ Halts) × (after ≡ words_at s) × IsHalt image.code s.offset
StepsTo image now s (Some to) after =
    IsSuccessor image.code s.offset to
    × ((t : State) × (step_at image.code now s ≡ Continues t) × EncodesStateAt image to after t)
    × KeepsSlots image (words_at s) after

-- ---- between runs

-- The words encode values of the slots' types, and the timers are as many as the image has.
pub record EncodesMemory (image : Image) (slots : List ℤ) (timers : List TimerState) : Type 0 where
  pub stand : EncodeValues (slot_types image) slots (values_of (slot_types image) slots)
  pub timer_count : length timers ≡ length image.timers
  pub times : Each IsTimer timers

-- the state in which a run starts, given as words
abbrev pub first_state : Image → List ℤ → List TimerState → State
first_state image slots timers = initial_state (values_of (slot_types image) slots) timers

-- The run of the image's code from these slots and timers ends with the new ones, after `steps`
-- steps.
pub record RunsTo (image : Image) (now : ℕ) (slots : List ℤ) (timers : List TimerState)
    (new_slots : List ℤ) (new_timers : List TimerState) (steps : ℕ) : Type 0 where
  pub halts : (most : ℕ) → steps ≤ most
      → run_from image.code now most (first_state image slots timers) 0
      ≡ Halted (values_of (slot_types image) new_slots) new_timers steps
  pub within : (budget : ℕ) → IsBudget image.code budget → steps ≤ budget
  pub few : steps ≤ length image.code
  pub depth : (most : ℕ) (count : ℕ) → IsDepth image most
      → IsWithin image.code now most count (first_state image slots timers)
  pub keeps : (n : ℕ) → is_read_only (slots_of image) n ≡ true
      → slice_get new_slots n ≡ slice_get slots n
  pub held : EncodesMemory image new_slots new_timers

-- ---- the machine

-- The content of a machine: the words of its slots, its timers, the indices of the points that may
-- only be read and of those that may be written, and room for an output for each of the latter.
pub record IsContentOf (image : Image) (slots : List ℤ) (timers : List TimerState)
    (reads writes : List ℕ) (outputs : List Value) : Type 0 where
  pub held : EncodesMemory image slots timers
  pub read : reads ≡ read_indices 0 image.points
  pub written : writes ≡ write_indices 0 image.points
  pub room : length outputs ≡ writable_count image.points

-- There is a word for each point, and it encodes a value of the point's type.
abbrev pub AreWords : List ImagePoint → List ℤ → Type 0
AreWords [] words = Unit {0}
AreWords (p ∷ points) [] = ⊥
AreWords (p ∷ points) (w ∷ words) = IsSome (value_of p.elementary w) × AreWords points words

-- the values of the points that may be written
abbrev pub outputs_by : List ImagePoint → List ℤ → List Value
outputs_by [] words = []
outputs_by (p ∷ points) [] = []
outputs_by (p ∷ points) (w ∷ words) =
    if p.writable
    then value_at p.elementary w ∷ outputs_by points words
    else outputs_by points words
