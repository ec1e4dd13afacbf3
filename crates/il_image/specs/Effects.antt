-- The transfer function of the verifier: the kinds on the operand stack, top first, after an
-- instruction; none if the instruction is not allowed.
use Rattle.std.specs.Prelude.{ℕ, ℤ, pos, ◌&&◌, ◌||◌, Bool, not, List, [], ◌∷◌, nat_lt, slice_get, Option, Some, None, if◌then◌else◌}
use Rattle.std.specs.Ordering.{int_eq}
use Rattle.bay_base.specs.declared.types.ElementaryType.{ElementaryType}
use Rattle.bay_base.specs.declared.types.ElementaryType.TheVariants as elementary
use Rattle.bay_base.specs.Options.{◌>>=◌}
use Rattle.bay_base.specs.Types.{same_type}
use Rattle.il_image.specs.declared.arithmetic.Width.{Width}
use Rattle.il_image.specs.declared.arithmetic.Width.TheVariants as width
use Rattle.il_image.specs.declared.arithmetic.ArithmeticOperation.{ArithmeticOperation}
use Rattle.il_image.specs.declared.arithmetic.Comparison.{Comparison}
use Rattle.il_image.specs.declared.instr.Instr.{Instr}
use Rattle.il_image.specs.declared.instr.Instr.TheVariants.{Halt, Push, Drop, Slot, Not, Combine, Compute, Compare, Widen, Jump, Timer}
use Rattle.il_image.specs.declared.kind.CellKind.{CellKind}
use Rattle.il_image.specs.declared.kind.CellKind.TheVariants.{Any, Plain, NotZero}
use Rattle.il_image.specs.declared.opcode.SlotUse.TheVariants.{Load, Store, SetIf, ResetIf}
use Rattle.il_image.specs.declared.opcode.Widening.TheVariants.{IntToDint, DintToLint}
use Rattle.il_image.specs.declared.opcode.When.TheVariants.{Always, IfTrue, IfFalse}
use Rattle.il_image.specs.declared.opcode.TimerUse.TheVariants.{SetInput, SetPreset, Run, LoadOutput, LoadElapsed}
use Rattle.il_image.specs.declared.value.Value.{Value}
use Rattle.il_image.specs.declared.value.Value.TheVariants.{Truth, Short, Long, Wide, Span}
use Rattle.il_image.specs.Arithmetic.{type_of_width}
use Rattle.il_image.specs.Kinds.{is_within}
use Rattle.il_image.specs.Machine.{divides, is_equality_test}

-- ---- own: what the verifier knows of cells

-- the kinds below the top, if the top is within the wanted kind
abbrev pub below : CellKind → List CellKind → Option (List CellKind)
below wanted [] = None
below wanted (top ∷ rest) = if is_within top wanted then Some rest else None

-- the kinds unchanged, if the top is within the wanted kind
abbrev pub peek_kind : CellKind → List CellKind → Option (List CellKind)
peek_kind wanted kinds = below wanted kinds >>= (λ rest. Some kinds)

-- replaces two cells within the wanted kinds, the top first, by one of the kind `gives`
abbrev pub replace_two : CellKind → CellKind → CellKind → List CellKind → Option (List CellKind)
replace_two top second gives kinds =
    below top kinds >>= (λ more. below second more >>= (λ rest. Some (gives ∷ rest)))

-- the kind of a number of a width: nonzero, or only its type
abbrev pub kind_of_number : Width → ℤ → CellKind
kind_of_number w z = if int_eq z (pos 0) then Plain (type_of_width w) else NotZero w

-- the kind of a value; a number other than 0 is known to be nonzero
abbrev pub kind_of : Value → CellKind
kind_of (Truth b) = Plain elementary.Bool
kind_of (Short z) = kind_of_number width.Int z
kind_of (Long z) = kind_of_number width.Dint z
kind_of (Wide z) = kind_of_number width.Lint z
kind_of (Span n) = Plain elementary.Time

-- the kind that an operation requires of its second operand, the top
abbrev pub second_kind : ArithmeticOperation → Width → CellKind
second_kind o w = if divides o then NotZero w else Plain (type_of_width w)

-- the type that a kind determines, if any
abbrev pub type_of_kind : CellKind → Option ElementaryType
type_of_kind Any = None
type_of_kind (Plain t) = Some t
type_of_kind (NotZero w) = Some (type_of_width w)

-- whether values of these types may be compared: both of one type, and BOOLs only for equality
abbrev pub are_compared : Comparison → ElementaryType → ElementaryType → Bool
are_compared c t u = same_type t u && (not (same_type t elementary.Bool) || is_equality_test c)

-- replaces two cells of one known type, which may be compared, by a BOOL
abbrev pub compares : Comparison → List CellKind → Option (List CellKind)
compares c (top ∷ second ∷ rest) =
    type_of_kind top >>= (λ t. type_of_kind second
    >>= (λ u. if are_compared c u t then Some (Plain elementary.Bool ∷ rest) else None))
compares c (top ∷ []) = None
compares c [] = None

-- widens the top; a nonzero number remains nonzero
abbrev pub widens : Width → Width → List CellKind → Option (List CellKind)
widens from to [] = None
widens from to (top ∷ rest) =
    if is_within top (NotZero from)
    then Some (NotZero to ∷ rest)
    else (if is_within top (Plain (type_of_width from))
    then Some (Plain (type_of_width to) ∷ rest) else None)

-- the kinds unchanged, if the slot and the top are BOOLs
abbrev pub with_truth : List ElementaryType → ℕ → List CellKind → Option (List CellKind)
with_truth slots n kinds =
    slice_get slots n >>= (λ t. if same_type t elementary.Bool
    then peek_kind (Plain elementary.Bool) kinds else None)

-- the kinds, if there is a timer with this number
abbrev pub with_timer : ℕ → ℕ → Option (List CellKind) → Option (List CellKind)
with_timer timers n kinds = if nat_lt n timers then kinds else None

-- the kinds after an instruction, given the types of the slots and the number of timers; none if
-- the instruction is not allowed
abbrev pub kinds_after : List ElementaryType → ℕ → Instr → List CellKind → Option (List CellKind)
kinds_after slots timers Halt kinds = Some kinds
kinds_after slots timers (Push v) kinds = Some (kind_of v ∷ kinds)
kinds_after slots timers Drop kinds = below Any kinds
kinds_after slots timers (Slot Load n) kinds = slice_get slots n >>= (λ t. Some (Plain t ∷ kinds))
kinds_after slots timers (Slot Store n) kinds =
    slice_get slots n >>= (λ t. peek_kind (Plain t) kinds)
kinds_after slots timers (Slot SetIf n) kinds = with_truth slots n kinds
kinds_after slots timers (Slot ResetIf n) kinds = with_truth slots n kinds
kinds_after slots timers Not kinds =
    below (Plain elementary.Bool) kinds >>= (λ rest. Some (Plain elementary.Bool ∷ rest))
kinds_after slots timers (Combine c) kinds =
    replace_two (Plain elementary.Bool) (Plain elementary.Bool) (Plain elementary.Bool) kinds
kinds_after slots timers (Compute o w) kinds =
    replace_two (second_kind o w) (Plain (type_of_width w)) (Plain (type_of_width w)) kinds
kinds_after slots timers (Compare c) kinds = compares c kinds
kinds_after slots timers (Widen IntToDint) kinds = widens width.Int width.Dint kinds
kinds_after slots timers (Widen DintToLint) kinds = widens width.Dint width.Lint kinds
kinds_after slots timers (Jump Always distance) kinds = Some kinds
kinds_after slots timers (Jump IfTrue distance) kinds = peek_kind (Plain elementary.Bool) kinds
kinds_after slots timers (Jump IfFalse distance) kinds = peek_kind (Plain elementary.Bool) kinds
kinds_after slots timers (Timer SetInput n) kinds =
    with_timer timers n (below (Plain elementary.Bool) kinds)
kinds_after slots timers (Timer SetPreset n) kinds =
    with_timer timers n (below (Plain elementary.Time) kinds)
kinds_after slots timers (Timer Run n) kinds = with_timer timers n (Some kinds)
kinds_after slots timers (Timer LoadOutput n) kinds =
    with_timer timers n (Some (Plain elementary.Bool ∷ kinds))
kinds_after slots timers (Timer LoadElapsed n) kinds =
    with_timer timers n (Some (Plain elementary.Time ∷ kinds))
