-- Inner: the effect of each instruction on words, which are not tested, and what the instruction
-- requires for that. An offset counts octets of the code from 0.
use Rattle.std.specs.Prelude.{ℕ, ℤ, zero, suc, pos, ◌≡◌, ◌+◌, ◌<◌, ◌≤◌, Bool, not, List, ◌∷◌, length, drop, slice_index_or, slice_set, unsigned_abs, Option, Some, None, if◌then◌else◌}
use Rattle.std.specs.Ordering.{int_eq}
use Rattle.il_image.specs.declared.instr.Instr.{Instr}
use Rattle.il_image.specs.declared.instr.Instr.TheVariants.{Halt, Push, Drop, Slot, Not, Combine, Compute, Compare, Widen, Jump, Timer}
use Rattle.il_image.specs.declared.opcode.Connective.{Connective}
use Rattle.il_image.specs.declared.opcode.Connective.TheVariants.{And, Or, Xor}
use Rattle.il_image.specs.declared.opcode.SlotUse.{SlotUse}
use Rattle.il_image.specs.declared.opcode.SlotUse.TheVariants.{Load, Store, SetIf, ResetIf}
use Rattle.il_image.specs.declared.opcode.When.TheVariants.{Always, IfTrue, IfFalse}
use Rattle.il_image.specs.declared.opcode.TimerUse.{TimerUse}
use Rattle.il_image.specs.declared.opcode.TimerUse.TheVariants.{SetInput, SetPreset, Run, LoadOutput, LoadElapsed}
use Rattle.il_image.specs.declared.timer.TimerState.{TimerState}
use Rattle.bay_base.specs.declared.types.TimerKind.TheVariants.{OnDelay}
use Rattle.il_image.specs.Arithmetic.{DividesBy, comparison_holds, computation_of}
use Rattle.il_image.specs.Timers.{after_call, first_state}
use Rattle.il_image.specs.Values.{number_of}
use Rattle.il_image.specs.Machine.{most_cells}
use Rattle.il_image.specs.Reading.{instr_at}
use Rattle.il_scan.specs.Words.{slot_at}

-- ---- the effect of an instruction on words

-- the words of the stack, the top first, and of the slots; and the timers
pub record Words : Type 0 where
  pub stack : List ℤ
  pub slots : List ℤ
  pub timers : List TimerState

-- the words of this stack and of these slots, and these timers
abbrev pub words : List ℤ → List ℤ → List TimerState → Words
words stack slots timers = record { stack = stack; slots = slots; timers = timers }

-- the word on top
abbrev pub top : List ℤ → ℤ
top stack = slice_index_or stack 0 (pos 0)

-- the word below the top
abbrev pub below_top : List ℤ → ℤ
below_top stack = slice_index_or stack 1 (pos 0)

-- the timer of this number
abbrev pub timer_at : List TimerState → ℕ → TimerState
timer_at timers n = slice_index_or timers n (first_state OnDelay)

-- the word of a BOOL
abbrev pub word_of : Bool → ℤ
word_of b = if b then pos 1 else pos 0

-- the BOOL of a word, which is TRUE for any word but 0
abbrev pub is_not_zero : ℤ → Bool
is_not_zero w = not (int_eq w (pos 0))

-- AND, OR and XOR of the words of two BOOLs
abbrev pub logic_word : Connective → ℤ → ℤ → ℤ
logic_word And a b = if int_eq a (pos 0) then pos 0 else b
logic_word Or a b = if int_eq a (pos 0) then b else pos 1
logic_word Xor a b = word_of (not (int_eq a b))

-- the words after an instruction that uses a slot
abbrev pub after_slot_use : SlotUse → ℕ → Words → Words
after_slot_use Load n m = record m { stack = slot_at m.slots n ∷ m.stack }
after_slot_use Store n m = record m { slots = slice_set m.slots n (top m.stack) }
after_slot_use SetIf n m =
    record m {
      slots = slice_set m.slots n
          (if int_eq (top m.stack) (pos 0) then slot_at m.slots n else pos 1);
    }
after_slot_use ResetIf n m =
    record m {
      slots = slice_set m.slots n
          (if int_eq (top m.stack) (pos 0) then slot_at m.slots n else pos 0);
    }

-- the words after an instruction that uses a timer at this moment
abbrev pub after_timer_use : ℕ → TimerUse → ℕ → Words → Words
after_timer_use now SetInput n m =
    record m {
      stack = drop 1 m.stack;
      timers = slice_set m.timers n
          (record (timer_at m.timers n) { input = is_not_zero (top m.stack) });
    }
after_timer_use now SetPreset n m =
    record m {
      stack = drop 1 m.stack;
      timers = slice_set m.timers n
          (record (timer_at m.timers n) { preset = unsigned_abs (top m.stack) });
    }
after_timer_use now Run n m =
    record m { timers = slice_set m.timers n (after_call (timer_at m.timers n) now) }
after_timer_use now LoadOutput n m =
    record m { stack = word_of (timer_at m.timers n).output ∷ m.stack }
after_timer_use now LoadElapsed n m =
    record m { stack = pos (timer_at m.timers n).elapsed ∷ m.stack }

-- the words after an instruction at this moment; a widened number has the same word
abbrev pub words_after : ℕ → Instr → Words → Words
words_after now Halt m = m
words_after now (Push v) m = record m { stack = number_of v ∷ m.stack }
words_after now Drop m = record m { stack = drop 1 m.stack }
words_after now (Slot use_of n) m = after_slot_use use_of n m
words_after now Not m = record m { stack = word_of (int_eq (top m.stack) (pos 0)) ∷ drop 1 m.stack }
words_after now (Combine c) m =
    record m { stack = logic_word c (below_top m.stack) (top m.stack) ∷ drop 2 m.stack }
words_after now (Compute o w) m =
    record m { stack = computation_of o w (below_top m.stack) (top m.stack) ∷ drop 2 m.stack }
words_after now (Compare c) m =
    record m {
      stack = word_of (comparison_holds c (below_top m.stack) (top m.stack))
          ∷ drop 2 m.stack;
    }
words_after now (Widen w) m = m
words_after now (Jump when distance) m = m
words_after now (Timer use_of n) m = after_timer_use now use_of n m

-- the offset of the next instruction, if there is one
abbrev pub next_offset : Instr → ℕ → List ℤ → Option ℕ
next_offset Halt next stack = None
next_offset (Jump Always distance) next stack = Some (next + distance)
next_offset (Jump IfTrue distance) next stack =
    Some (if int_eq (top stack) (pos 0) then next else next + distance)
next_offset (Jump IfFalse distance) next stack =
    Some (if int_eq (top stack) (pos 0) then next + distance else next)
next_offset (Push v) next stack = Some next
next_offset Drop next stack = Some next
next_offset (Slot use_of n) next stack = Some next
next_offset Not next stack = Some next
next_offset (Combine c) next stack = Some next
next_offset (Compute o w) next stack = Some next
next_offset (Compare c) next stack = Some next
next_offset (Widen w) next stack = Some next
next_offset (Timer use_of n) next stack = Some next

-- ---- what an instruction requires, so that nothing is tested

-- The word is the number of a TIME.
abbrev pub IsSpan : ℤ → Type 0
IsSpan w = (n : ℕ) × (w ≡ pos n) × (n ≤ 0x7FFF_FFFF)

-- The instruction has what it requires: words, room, its slot or timer, and a divisor other than 0.
abbrev pub IsReady : Instr → Words → Type 0
IsReady Halt m = Unit {0}
IsReady (Push v) m = length m.stack < most_cells
IsReady Drop m = 0 < length m.stack
IsReady (Slot Load n) m = (length m.stack < most_cells) × (n < length m.slots)
IsReady (Slot Store n) m = (0 < length m.stack) × (n < length m.slots)
IsReady (Slot SetIf n) m = (0 < length m.stack) × (n < length m.slots)
IsReady (Slot ResetIf n) m = (0 < length m.stack) × (n < length m.slots)
IsReady Not m = 0 < length m.stack
IsReady (Combine c) m = 1 < length m.stack
IsReady (Compute o w) m = (1 < length m.stack) × DividesBy o (top m.stack)
IsReady (Compare c) m = 1 < length m.stack
IsReady (Widen w) m = 0 < length m.stack
IsReady (Jump Always distance) m = Unit {0}
IsReady (Jump IfTrue distance) m = 0 < length m.stack
IsReady (Jump IfFalse distance) m = 0 < length m.stack
IsReady (Timer SetInput n) m = (0 < length m.stack) × (n < length m.timers)
IsReady (Timer SetPreset n) m = (0 < length m.stack) × (n < length m.timers) × IsSpan (top m.stack)
IsReady (Timer Run n) m = n < length m.timers
IsReady (Timer LoadOutput n) m = (length m.stack < most_cells) × (n < length m.timers)
IsReady (Timer LoadElapsed n) m = (length m.stack < most_cells) × (n < length m.timers)

-- ---- instructions of code

-- one instruction at an offset: its effect on words, and the offset of the next one
pub record Step (now : ℕ) (code : List ℕ) (offset : ℕ) (w : Words) (to : Option ℕ) (after : Words)
    : Type 0 where
  pub instr : Instr
  pub next : ℕ
  pub here : instr_at code offset ≡ Some (instr, next)
  pub leads_to : to ≡ next_offset instr next w.stack
  pub words_are : after ≡ words_after now instr w

-- n instructions from an offset on, one after the other
abbrev pub Steps : ℕ → List ℕ → ℕ → ℕ → Words → Option ℕ → Words → Type 0
Steps now code zero offset w to after = ⊥
Steps now code (suc zero) offset w to after = Step now code offset w to after
Steps now code (suc (suc n)) offset w to after =
    (mid : ℕ) × (between : Words) × Step now code offset w (Some mid) between
    × Steps now code (suc n) mid between to after
