-- Instructions with their names resolved (IEC 61131-3:2003, 2.4.3 and 3.2).
use Rattle.std.specs.Prelude.{ℕ, ℤ, pos, negsuc, Bool, false, not, ◌==◌, is_some, List, [], ◌∷◌, Option, None, Some, if◌then◌else◌}
use Rattle.bay_base.specs.declared.types.ElementaryType.{ElementaryType}
use Rattle.bay_base.specs.declared.types.ElementaryType.TheVariants as elementary
use Rattle.il_text.specs.Listing as text
use Rattle.il_text.specs.declared.program.Literal.{Literal}
use Rattle.il_text.specs.declared.program.Literal.TheVariants as literal
use Rattle.il_text.specs.declared.program.TimerOutput.{TimerOutput}
use Rattle.il_text.specs.declared.program.TimerOutput.TheVariants as output
use Rattle.il_text.specs.declared.program.Input.{Input}
use Rattle.il_image.specs.declared.value.Value.{Value}
use Rattle.il_image.specs.declared.value.Value.TheVariants as value
use Rattle.il_image.specs.Values.{type_of, value_of}
use Rattle.il_check.specs.declared.typed.TypedOperand.TheVariants as operand
use Rattle.il_check.specs.declared.source_operand.Meaning.{Meaning}
use Rattle.il_check.specs.declared.source_operand.Meaning.TheVariants as meaning
use Rattle.il_check.specs.declared.source_operand.SourceOperand.{SourceOperand}
use Rattle.il_check.specs.declared.source_operand.SourceOperand.TheVariants.{Missing, Misused, Known, Number}
use Rattle.il_check.specs.declared.source_operand.CalledTimer.{CalledTimer}
use Rattle.il_check.specs.declared.source_operand.CalledTimer.TheVariants as called
use Rattle.il_check.specs.declared.source_operand.SourceArgument.{SourceArgument}
use Rattle.il_check.specs.declared.source_operand.SourceArguments.{SourceArguments}
use Rattle.il_check.specs.declared.source_operand.SourceArguments.TheVariants as arguments
use Rattle.il_check.specs.declared.source_operand.Resolved.{Resolved}
use Rattle.il_check.specs.declared.source_operand.Resolved.TheVariants.{Load, Store, Combine, Not, Convert, Jump, Return, Call}

-- ---- own: instructions with their names resolved

-- the meanings of a program's names: of its variables and timers, and the numbers of its labels
pub record ProgramNames : Type 0 where
  pub meaning : List ℕ → Option Meaning
  pub label : List ℕ → Option ℕ

-- the value of a literal that has a type, if its number is in the range of the type (IEC 61131-3,
-- 2.2.1)
abbrev pub typed_value : Literal → Option Value
typed_value (literal.Truth b) = Some (value.Truth b)
typed_value (literal.Number z) = None
typed_value (literal.Int z) = value_of elementary.Int z
typed_value (literal.Dint z) = value_of elementary.Dint z
typed_value (literal.Lint z) = value_of elementary.Lint z
typed_value (literal.Time n) = value_of elementary.Time (pos n)

-- a literal's value as an operand; a number outside its type is misused
abbrev pub source_operand : Option Value → SourceOperand
source_operand None = Misused
source_operand (Some v) =
    Known (record { operand = operand.Literal v; kind = type_of v; writable = false })

-- an untyped number as an operand; it must be in the range of LINT
abbrev pub number_operand : ℤ → SourceOperand
number_operand z = if is_some (value_of elementary.Lint z) then Number z else Misused

-- a literal as an operand
abbrev pub literal_operand : Literal → SourceOperand
literal_operand (literal.Truth b) = source_operand (typed_value (literal.Truth b))
literal_operand (literal.Number z) = number_operand z
literal_operand (literal.Int z) = source_operand (typed_value (literal.Int z))
literal_operand (literal.Dint z) = source_operand (typed_value (literal.Dint z))
literal_operand (literal.Lint z) = source_operand (typed_value (literal.Lint z))
literal_operand (literal.Time n) = source_operand (typed_value (literal.Time n))

-- a name as a variable; a timer's name is misused
abbrev pub resolve_variable : Option Meaning → SourceOperand
resolve_variable None = Missing
resolve_variable (Some (meaning.Variable slot kind writable)) =
    Known (record { operand = operand.Slot slot; kind = kind; writable = writable })
resolve_variable (Some (meaning.Timer timer)) = Misused

-- Q is a BOOL, and ET a TIME (IEC 61131-3, table 37)
abbrev pub output_type : TimerOutput → ElementaryType
output_type output.Q = elementary.Bool
output_type output.Et = elementary.Time

-- an output of the timer of a name, which may only be read; a variable's name is misused (IEC
-- 61131-3, table 37)
abbrev pub resolve_output : Option Meaning → TimerOutput → SourceOperand
resolve_output None gives = Missing
resolve_output (Some (meaning.Variable slot kind writable)) gives = Misused
resolve_output (Some (meaning.Timer timer)) gives =
    Known (record {
      operand = operand.TimerOutput timer gives;
      kind = output_type gives;
      writable = false;
    })

-- a variable, or an output of a timer, by its name
abbrev pub resolve_variable_or_output : ProgramNames → text.VariableData → SourceOperand
resolve_variable_or_output names (text.named name) = resolve_variable (names.meaning name)
resolve_variable_or_output names (text.output timer gives) =
    resolve_output (names.meaning timer) gives

-- an operand
abbrev pub resolve_operand : ProgramNames → text.OperandData → SourceOperand
resolve_operand names (text.constant value) = literal_operand value
resolve_operand names (text.variable place) = resolve_variable_or_output names place

-- whether the number is 0
abbrev pub is_zero : ℤ → Bool
is_zero (pos n) = n == 0
is_zero (negsuc n) = false

-- whether a literal is other than 0, by its value; TRUE counts as 1
abbrev pub is_nonzero_literal : Literal → Bool
is_nonzero_literal (literal.Truth b) = b
is_nonzero_literal (literal.Number z) = not (is_zero z)
is_nonzero_literal (literal.Int z) = not (is_zero z)
is_nonzero_literal (literal.Dint z) = not (is_zero z)
is_nonzero_literal (literal.Lint z) = not (is_zero z)
is_nonzero_literal (literal.Time n) = not (n == 0)

-- whether the operand is a literal other than 0
abbrev pub is_nonzero : text.OperandData → Bool
is_nonzero (text.constant value) = is_nonzero_literal value
is_nonzero (text.variable place) = false

-- a name in the place of the timer of a call; the name of a variable is misused there
abbrev pub called_of : Option Meaning → CalledTimer
called_of None = called.Missing
called_of (Some (meaning.Variable slot kind writable)) = called.Misused
called_of (Some (meaning.Timer timer)) = called.Timer timer

-- an argument of a call with its names resolved
abbrev pub resolve_argument : ProgramNames → Input × text.OperandData → SourceArgument
resolve_argument names a = record { input = a.0; operand = resolve_operand names a.1 }

-- the arguments of a call, at most two, with their names resolved
abbrev pub resolve_arguments : ProgramNames → List (Input × text.OperandData) → SourceArguments
resolve_arguments names [] = arguments.None
resolve_arguments names (a ∷ []) = arguments.One (resolve_argument names a)
resolve_arguments names (a ∷ b ∷ more) =
    arguments.Two (resolve_argument names a) (resolve_argument names b)

-- an instruction with its names resolved
abbrev pub resolution_of : ProgramNames → text.Action → Resolved
resolution_of names (text.load negated source) = Load negated (resolve_operand names source)
resolution_of names (text.store kind place) = Store kind (resolve_variable_or_output names place)
resolution_of names (text.combine operator negated source) =
    Combine operator negated (resolve_operand names source) (is_nonzero source)
resolution_of names text.invert = Not
resolution_of names (text.convert conversion) = Convert conversion
resolution_of names (text.jump condition name) = Jump condition (names.label name)
resolution_of names (text.leave condition) = Return condition
resolution_of names (text.call timer arguments) =
    Call (called_of (names.meaning timer)) (resolve_arguments names arguments)
