-- Inner: the effect of an instruction without a jump on ranges.
use Rattle.std.specs.Bool.{beq}
use Rattle.std.specs.Prelude.{ℕ, ℤ, pos, negsuc, ◌+ℤ◌, ◌-ℤ◌, max, min, Bool, true, false, List, [], ◌∷◌, not, ◌&&◌, ◌||◌, ◌==◌, int_lt, int_le, slice_get, slice_set, Option, Some, None, option_and_then, if◌then◌else◌}
use Rattle.il_image.specs.declared.arithmetic.Comparison.{Comparison}
use Rattle.il_image.specs.declared.arithmetic.Comparison.TheVariants.{Gt, Ge, Eq, Ne, Le, Lt}
use Rattle.il_image.specs.declared.arithmetic.ArithmeticOperation.{ArithmeticOperation}
use Rattle.il_image.specs.declared.arithmetic.ArithmeticOperation.TheVariants.{Add, Sub}
use Rattle.il_image.specs.declared.arithmetic.Width.{Width}
use Rattle.il_image.specs.declared.arithmetic.Width.TheVariants as width
use Rattle.il_image.specs.declared.instr.Instr.{Instr}
use Rattle.il_image.specs.declared.instr.Instr.TheVariants.{Halt, Push, Drop, Slot, Not, Combine, Compute, Compare, Widen, Jump, Timer}
use Rattle.il_image.specs.declared.opcode.Connective.{Connective}
use Rattle.il_image.specs.declared.opcode.Connective.TheVariants.{And, Or, Xor}
use Rattle.il_image.specs.declared.opcode.SlotUse.TheVariants.{Load, Store, SetIf, ResetIf}
use Rattle.il_image.specs.declared.opcode.TimerUse.TheVariants.{SetInput, SetPreset, Run, LoadOutput, LoadElapsed}
use Rattle.il_image.specs.declared.value.Value.{Value}
use Rattle.il_image.specs.declared.value.Value.TheVariants.{Truth, Short, Long, Wide, Span}
use Rattle.bay_base.specs.declared.types.TimerKind.{TimerKind}
use Rattle.bay_base.specs.declared.types.TimerKind.TheVariants.{OnDelay, OffDelay}
use Rattle.il_range.specs.declared.delay.KnownDelay.{KnownDelay}
use Rattle.il_range.specs.declared.delay.KnownDelay.TheVariants.{Unknown, Below, Begun, AtLeast}
use Rattle.il_range.specs.declared.timer.KnownTimer.{KnownTimer}
use Rattle.il_range.specs.Ranges.{among}
use Rattle.il_range.specs.declared.range.Range.{Range}
use Rattle.il_range.specs.declared.range.Positions.{Positions}
use Rattle.il_range.specs.declared.range.Range.TheVariants.{Any, No, Yes, Either, Between, Among}

-- the range of this value alone
abbrev pub value_range : Value → Range
value_range (Truth true) = Yes
value_range (Truth false) = No
value_range (Short z) = Between z z
value_range (Long z) = Between z z
value_range (Wide z) = Between z z
value_range (Span n) = Between (pos n) (pos n)

-- ---- sets of positions

-- the positions that are not in the set
abbrev pub other_positions : Positions → Positions
other_positions s = record {
  intermediate = not s.intermediate;
  off = not s.off;
  on = not s.on;
  bad = not s.bad;
}

-- the positions that are in both sets
abbrev pub common_positions : Positions → Positions → Positions
common_positions s t = record {
  intermediate = s.intermediate && t.intermediate;
  off = s.off && t.off;
  on = s.on && t.on;
  bad = s.bad && t.bad;
}

-- whether two sets are equal
abbrev pub same_positions : Positions → Positions → Bool
same_positions s t =
    beq s.intermediate t.intermediate && (beq s.off t.off && (beq s.on t.on && beq s.bad t.bad))

-- ---- ranges

-- the lesser of two numbers
abbrev pub lesser : ℤ → ℤ → ℤ
lesser a b = if int_le a b then a else b

-- the greater of two numbers
abbrev pub greater : ℤ → ℤ → ℤ
greater a b = if int_le a b then b else a

-- a range that includes both
abbrev pub join : Range → Range → Range
join Any b = Any
join No No = No
join No Yes = Either
join No Either = Either
join No Any = Any
join No (Between c d) = Any
join No (Among k t) = Either
join Yes Yes = Yes
join Yes No = Either
join Yes Either = Either
join Yes Any = Any
join Yes (Between c d) = Any
join Yes (Among k t) = Either
join Either No = Either
join Either Yes = Either
join Either Either = Either
join Either Any = Any
join Either (Between c d) = Any
join Either (Among k t) = Either
join (Between a b) (Between c d) = Between (lesser a c) (greater b d)
join (Between a b) No = Any
join (Between a b) Yes = Any
join (Between a b) Either = Any
join (Between a b) Any = Any
join (Between a b) (Among k t) = Any
join (Among j s) No = Either
join (Among j s) Yes = Either
join (Among j s) Either = Either
join (Among j s) Any = Any
join (Among j s) (Between c d) = Any
join (Among j s) (Among k t) = if j == k && same_positions s t then Among j s else Either

-- whether each value of the first range is one of the second
abbrev pub is_within : Range → Range → Bool
is_within a Any = true
is_within No No = true
is_within Yes Yes = true
is_within No Either = true
is_within Yes Either = true
is_within Either Either = true
is_within (Among j s) Either = true
is_within (Between a b) (Between c d) = int_le c a && int_le b d
is_within (Among j s) (Among k t) = j == k && same_positions s t
is_within a b = false

-- whether each range is within the other at the same index
abbrev pub are_within : List Range → List Range → Bool
are_within [] [] = true
are_within [] (b ∷ others) = false
are_within (a ∷ ranges) [] = false
are_within (a ∷ ranges) (b ∷ others) = is_within a b && are_within ranges others

-- a range that includes both: the first if it includes the second; a range that grows late is
-- unknown
abbrev pub widen_range : Bool → Range → Range → Range
widen_range is_late a b = if is_within b a then a else (if is_late then Any else join a b)

-- the join of two lists, index by index
abbrev pub join_lists : {A : Type 0} → (A → A → A) → List A → List A → List A
join_lists join [] others = []
join_lists join (a ∷ items) [] = a ∷ items
join_lists join (a ∷ items) (b ∷ others) = join a b ∷ join_lists join items others

-- ---- timers

-- the kind, if both have the same known kind
abbrev pub join_kind : Option TimerKind → Option TimerKind → Option TimerKind
join_kind (Some OnDelay) (Some OnDelay) = Some OnDelay
join_kind (Some OffDelay) (Some OffDelay) = Some OffDelay
join_kind a b = None

-- what is known of a delay that is one of either
abbrev pub join_delay : KnownDelay → KnownDelay → KnownDelay
join_delay Unknown b = Unknown
join_delay (Below m) (Below n) = Below (max m n)
join_delay (Below m) Unknown = Unknown
join_delay (Below m) Begun = Unknown
join_delay (Below m) (AtLeast n) = Unknown
join_delay Begun Begun = Begun
join_delay Begun (AtLeast n) = Begun
join_delay Begun Unknown = Unknown
join_delay Begun (Below n) = Unknown
join_delay (AtLeast m) (AtLeast n) = AtLeast (min m n)
join_delay (AtLeast m) Begun = Begun
join_delay (AtLeast m) Unknown = Unknown
join_delay (AtLeast m) (Below n) = Unknown

-- what is known of a timer that is one of either
abbrev pub join_timer : KnownTimer → KnownTimer → KnownTimer
join_timer a b =
    record {
      kind = join_kind a.kind b.kind;
      input = join a.input b.input;
      preset = join a.preset b.preset;
      output = join a.output b.output;
      elapsed = join a.elapsed b.elapsed;
      delay = join_delay a.delay b.delay;
    }

-- a delay that has begun or begins now
abbrev pub begun_delay : KnownDelay → KnownDelay
begun_delay (AtLeast n) = AtLeast n
begun_delay Unknown = Begun
begun_delay (Below n) = Begun
begun_delay Begun = Begun

-- The delay of a TON after a call: no delay runs if IN is FALSE, one runs if IN is TRUE, and one
-- that begins with the call has run for 0 ms.
abbrev pub delay_of_ton : Range → KnownDelay → KnownDelay
delay_of_ton No delay = Below 0
delay_of_ton Yes (Below n) = Below (max 1 n)
delay_of_ton Yes Unknown = begun_delay Unknown
delay_of_ton Yes Begun = begun_delay Begun
delay_of_ton Yes (AtLeast n) = begun_delay (AtLeast n)
delay_of_ton Either (Below n) = Below (max 1 n)
delay_of_ton Any (Below n) = Below (max 1 n)
delay_of_ton (Between l h) (Below n) = Below (max 1 n)
delay_of_ton (Among k s) (Below n) = Below (max 1 n)
delay_of_ton input delay = Unknown

-- the delay of a TOF after a call: it goes on or begins if IN is FALSE
abbrev pub delay_of_tof : Range → KnownDelay → KnownDelay
delay_of_tof No delay = begun_delay delay
delay_of_tof Yes delay = Unknown
delay_of_tof Either delay = Unknown
delay_of_tof Any delay = Unknown
delay_of_tof (Between l h) delay = Unknown
delay_of_tof (Among k s) delay = Unknown

-- what is known of the delay after a call of a timer of this kind with this IN
abbrev pub delay_after : Option TimerKind → Range → KnownDelay → KnownDelay
delay_after None input delay = Unknown
delay_after (Some OnDelay) input delay = delay_of_ton input delay
delay_after (Some OffDelay) input delay = delay_of_tof input delay

-- the range of whether PT has passed since the delay began
abbrev pub has_passed : KnownDelay → Range → Range
has_passed (Below n) (Between low high) = if int_le (pos n) low then No else Either
has_passed (AtLeast n) (Between low high) = if int_le high (pos n) then Yes else Either
has_passed delay preset = Either

-- Q of a TOF with IN FALSE, or with an IN that is not known
abbrev pub output_of_tof : Range → Range
output_of_tof Yes = No
output_of_tof No = Either
output_of_tof Either = Either
output_of_tof Any = Either
output_of_tof (Between l h) = Either
output_of_tof (Among k s) = Either

-- Q after a call: FALSE for a TON whose IN is FALSE, and TRUE for a TOF whose IN is TRUE; else by
-- whether PT has passed since the delay began
abbrev pub output_after : Option TimerKind → Range → Range → Range
output_after (Some OnDelay) No passed = No
output_after (Some OffDelay) Yes passed = Yes
output_after (Some OnDelay) input passed = passed
output_after (Some OffDelay) input passed = output_of_tof passed
output_after None input passed = Either

-- the numbers that are at most PT, if PT is known
abbrev pub up_to : Range → Range
up_to (Between low high) = Between (pos 0) high
up_to No = Any
up_to Yes = Any
up_to Either = Any
up_to Any = Any
up_to (Among k s) = Any

-- ET after a call: 0 if no delay runs, and never more than PT
abbrev pub elapsed_after : Option TimerKind → Range → Range → Range
elapsed_after (Some OnDelay) No preset = Between (pos 0) (pos 0)
elapsed_after (Some OffDelay) Yes preset = Between (pos 0) (pos 0)
elapsed_after kind input preset = up_to preset

-- what is known of a timer after a call
abbrev pub timer_after_call : KnownTimer → KnownTimer
timer_after_call u =
    let delay = delay_after u.kind u.input u.delay in
    record {
      kind = u.kind;
      input = u.input;
      preset = u.preset;
      output = output_after u.kind u.input (has_passed delay u.preset);
      elapsed = elapsed_after u.kind u.input u.preset;
      delay = delay;
    }

-- the timer with another IN
abbrev pub with_input : Range → KnownTimer → KnownTimer
with_input input u = record u { input = input }

-- the timer with another PT
abbrev pub with_preset : Range → KnownTimer → KnownTimer
with_preset preset u = record u { preset = preset }

-- ---- truths

-- the range of NOT of a BOOL
abbrev pub not_range : Range → Range
not_range No = Yes
not_range Yes = No
not_range Any = Either
not_range Either = Either
not_range (Between low high) = Either
not_range (Among k s) = Among k (other_positions s)

-- the range of AND of two BOOLs
abbrev pub and_ranges : Range → Range → Range
and_ranges No b = No
and_ranges Yes No = No
and_ranges Yes Yes = Yes
and_ranges Yes Any = Either
and_ranges Yes Either = Either
and_ranges Yes (Between c d) = Either
and_ranges Yes (Among k t) = Among k t
and_ranges Any No = No
and_ranges Any Yes = Either
and_ranges Any Any = Either
and_ranges Any Either = Either
and_ranges Any (Between c d) = Either
and_ranges Any (Among k t) = Either
and_ranges Either No = No
and_ranges Either Yes = Either
and_ranges Either Any = Either
and_ranges Either Either = Either
and_ranges Either (Between c d) = Either
and_ranges Either (Among k t) = Either
and_ranges (Between l h) No = No
and_ranges (Between l h) Yes = Either
and_ranges (Between l h) Any = Either
and_ranges (Between l h) Either = Either
and_ranges (Between l h) (Between c d) = Either
and_ranges (Between l h) (Among k t) = Either
and_ranges (Among j s) No = No
and_ranges (Among j s) Yes = Among j s
and_ranges (Among j s) Any = Either
and_ranges (Among j s) Either = Either
and_ranges (Among j s) (Between c d) = Either
and_ranges (Among j s) (Among k t) = if j == k then among j (common_positions s t) else Either

-- the range of OR of two BOOLs
abbrev pub or_ranges : Range → Range → Range
or_ranges a b = not_range (and_ranges (not_range a) (not_range b))

-- the range of XOR of two BOOLs
abbrev pub xor_ranges : Range → Range → Range
xor_ranges No No = No
xor_ranges No Yes = Yes
xor_ranges Yes No = Yes
xor_ranges Yes Yes = No
xor_ranges a b = Either

-- the range of a connective of two BOOLs
abbrev pub connect_ranges : Connective → Range → Range → Range
connect_ranges And a b = and_ranges a b
connect_ranges Or a b = or_ranges a b
connect_ranges Xor a b = xor_ranges a b

-- ---- comparisons

-- the least number of a range, if it is known
abbrev pub low_of : Range → Option ℤ
low_of Any = None
low_of No = Some (pos 0)
low_of Yes = Some (pos 1)
low_of Either = Some (pos 0)
low_of (Between low high) = Some low
low_of (Among k s) = Some (pos 0)

-- the greatest number of a range, if it is known
abbrev pub high_of : Range → Option ℤ
high_of Any = None
high_of No = Some (pos 0)
high_of Yes = Some (pos 1)
high_of Either = Some (pos 1)
high_of (Between low high) = Some high
high_of (Among k s) = Some (pos 1)

-- whether both numbers are known and the test holds for them
abbrev pub holds_if_known : (ℤ → ℤ → Bool) → Option ℤ → Option ℤ → Bool
holds_if_known test (Some a) (Some b) = test a b
holds_if_known test (Some a) None = false
holds_if_known test None b = false

-- whether each number of the first range is known to be less than each of the second
abbrev pub surely_lt : Range → Range → Bool
surely_lt a b = holds_if_known int_lt (high_of a) (low_of b)

-- whether each number of the first range is known to be at most each of the second
abbrev pub surely_le : Range → Range → Bool
surely_le a b = holds_if_known int_le (high_of a) (low_of b)

-- the range of a BOOL that is known to be TRUE, known to be FALSE, or neither
abbrev pub bool_range : Bool → Bool → Range
bool_range is_yes is_no = if is_yes then Yes else (if is_no then No else Either)

-- the range of the result of a comparison
abbrev pub compare_ranges : Comparison → Range → Range → Range
compare_ranges Lt a b = bool_range (surely_lt a b) (surely_le b a)
compare_ranges Gt a b = bool_range (surely_lt b a) (surely_le a b)
compare_ranges Le a b = bool_range (surely_le a b) (surely_lt b a)
compare_ranges Ge a b = bool_range (surely_le b a) (surely_lt a b)
compare_ranges Eq a b = bool_range (surely_le a b && surely_le b a) (surely_lt a b || surely_lt b a)
compare_ranges Ne a b = bool_range (surely_lt a b || surely_lt b a) (surely_le a b && surely_le b a)

-- ---- arithmetic

-- the least number of a width
abbrev pub least_of : Width → ℤ
least_of width.Int = negsuc 0x7FFF
least_of width.Dint = negsuc 0x7FFF_FFFF
least_of width.Lint = negsuc 0x7FFF_FFFF_FFFF_FFFF

-- the greatest number of a width
abbrev pub greatest_of : Width → ℤ
greatest_of width.Int = pos 0x7FFF
greatest_of width.Dint = pos 0x7FFF_FFFF
greatest_of width.Lint = pos 0x7FFF_FFFF_FFFF_FFFF

-- all numbers of a width
abbrev pub full_range : Width → Range
full_range w = Between (least_of w) (greatest_of w)

-- whether the number is one of the width
abbrev pub fits_in : Width → ℤ → Bool
fits_in w z = int_le (least_of w) z && int_le z (greatest_of w)

-- the range of the numbers between these two, wrapped to the width
abbrev pub wrap_range : Width → ℤ → ℤ → Range
wrap_range w low high = if fits_in w low && fits_in w high then Between low high else full_range w

-- the range of the numbers between these two, wrapped to the width; none is a number that does not
-- fit into 64 bits
abbrev pub wrapped_of : Width → Option ℤ → Option ℤ → Range
wrapped_of w (Some low) (Some high) = wrap_range w low high
wrapped_of w (Some low) None = full_range w
wrapped_of w None high = full_range w

-- the range of the result of an arithmetic operation: a sum or a difference that cannot wrap is
-- between its ends, and any other result may be each number of the width
abbrev pub compute_range : ArithmeticOperation → Width → Range → Range → Range
compute_range Add w (Between a b) (Between c d) = wrap_range w (a +ℤ c) (b +ℤ d)
compute_range Sub w (Between a b) (Between c d) = wrap_range w (a -ℤ d) (b -ℤ c)
compute_range o w a b = full_range w

-- ---- instructions

-- the ranges of the stack, the top first, and of the slots, and what is known of the timers
pub record KnownData : Type 0 where
  pub cells : List Range
  pub slots : List Range
  pub timers : List KnownTimer

-- the same slots and timers, with these cells
abbrev pub with_cells : List Range → KnownData → Option KnownData
with_cells cells p = Some (record { cells = cells; slots = p.slots; timers = p.timers })

-- applies a function to the top and the cells below it; none if the stack is empty
abbrev pub top_of : List Range → (Range → List Range → Option KnownData) → Option KnownData
top_of [] act = None
top_of (top ∷ below) act = act top below

-- applies a function to the range of a slot; none if there is no such slot
abbrev pub slot_of : ℕ → List Range → (Range → Option KnownData) → Option KnownData
slot_of n slots act = option_and_then act (slice_get slots n)

-- changes a slot depending on the top, which stays
abbrev pub change_slot : (Range → Range → Range) → ℕ → KnownData → Option KnownData
change_slot change n p =
    slot_of n p.slots (λ old. top_of p.cells
    (λ top below. Some (record {
      cells = p.cells;
      slots = slice_set p.slots n (change top old);
      timers = p.timers;
    })))

-- replaces the two cells on top by the result of a function; none if there are fewer
abbrev pub replace_two : (Range → Range → Range) → KnownData → Option KnownData
replace_two f p =
    top_of p.cells (λ b rest. top_of rest (λ a below. with_cells (f a b ∷ below) p))

-- applies a function to a timer; none if there is no such timer
abbrev pub timer_of : ℕ → List KnownTimer → (KnownTimer → Option KnownData) → Option KnownData
timer_of n timers act = option_and_then act (slice_get timers n)

-- what is known with this timer in the place of the one at `n`, and these cells on the stack
abbrev pub with_timer : List Range → ℕ → KnownTimer → KnownData → Option KnownData
with_timer cells n u p =
    Some (record { cells = cells; slots = p.slots; timers = slice_set p.timers n u })

-- what is known after an instruction; none for HALT and a jump, and if a cell, a slot or a timer is
-- missing
abbrev pub known_after : Instr → KnownData → Option KnownData
known_after Halt p = None
known_after (Push v) p = with_cells (value_range v ∷ p.cells) p
known_after Drop p = top_of p.cells (λ top below. with_cells below p)
known_after (Slot Load n) p = slot_of n p.slots (λ r. with_cells (r ∷ p.cells) p)
known_after (Slot Store n) p = change_slot (λ top old. top) n p
known_after (Slot SetIf n) p = change_slot or_ranges n p
known_after (Slot ResetIf n) p = change_slot (λ top old. and_ranges (not_range top) old) n p
known_after Not p = top_of p.cells (λ top below. with_cells (not_range top ∷ below) p)
known_after (Combine c) p = replace_two (connect_ranges c) p
known_after (Compute o w) p = replace_two (compute_range o w) p
known_after (Compare c) p = replace_two (compare_ranges c) p
known_after (Widen w) p = Some p
known_after (Jump when distance) p = None
known_after (Timer SetInput n) p =
    timer_of n p.timers (λ u. top_of p.cells (λ top below. with_timer below n (with_input top u) p))
known_after (Timer SetPreset n) p =
    timer_of n p.timers (λ u. top_of p.cells
    (λ top below. with_timer below n (with_preset top u) p))
known_after (Timer Run n) p = timer_of n p.timers (λ u. with_timer p.cells n (timer_after_call u) p)
known_after (Timer LoadOutput n) p = timer_of n p.timers (λ u. with_cells (u.output ∷ p.cells) p)
known_after (Timer LoadElapsed n) p = timer_of n p.timers (λ u. with_cells (u.elapsed ∷ p.cells) p)
