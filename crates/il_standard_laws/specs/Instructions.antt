-- Which instructions of the text are valid, with the meanings of its names, by the language's
-- tables (IEC 61131-3:2003, 2.2, 3.2.2 and table 52).
use Rattle.std.specs.Prelude.{◌≡◌, ℕ, pos, ◌≤◌, Bool, true, List, [], ◌∷◌, Option, Some, None}
use Rattle.bay_base.specs.declared.types.ElementaryType.{ElementaryType}
use Rattle.bay_base.specs.declared.types.ElementaryType.TheVariants as elementary
use Rattle.il_text.specs.Listing as text
use Rattle.il_text.specs.declared.program.Input.{Input}
use Rattle.il_text.specs.declared.program.Literal.{Literal}
use Rattle.il_text.specs.declared.program.Literal.TheVariants as literal
use Rattle.il_text.specs.declared.program.Operator.{Operator}
use Rattle.il_text.specs.declared.program.Operator.TheVariants.{Div, Mod}
use Rattle.il_text.specs.declared.program.TimerOutput.{TimerOutput}
use Rattle.il_check.specs.SourceOperands.{ProgramNames, output_type}
use Rattle.il_check.specs.declared.source_operand.Meaning.{Meaning}
use Rattle.il_check.specs.declared.source_operand.Meaning.TheVariants as meaning
use Rattle.il_check.specs.Rules.{converted_from, converted_to, input_type}
use Rattle.il_check.specs.Operators.{result_type}
use Rattle.il_standard_laws.specs.Table.{IsFirstFit, IsNumberOf, MayNegate, Stores, Tests}

-- ---- operands

-- The literal can have the type: an untyped number can have each type in whose range it is, except
-- TIME.
abbrev pub IsLiteralOf : Literal → ElementaryType → Type 0
IsLiteralOf (literal.Truth b) kind = kind ≡ elementary.Bool
IsLiteralOf (literal.Number z) kind = IsNumberOf kind z × (kind ≡ elementary.Time → ⊥)
IsLiteralOf (literal.Int z) kind = (kind ≡ elementary.Int) × IsNumberOf elementary.Int z
IsLiteralOf (literal.Dint z) kind = (kind ≡ elementary.Dint) × IsNumberOf elementary.Dint z
IsLiteralOf (literal.Lint z) kind = (kind ≡ elementary.Lint) × IsNumberOf elementary.Lint z
IsLiteralOf (literal.Time n) kind = (kind ≡ elementary.Time) × IsNumberOf elementary.Time (pos n)

-- the type of a name that is declared as a variable
abbrev pub variable_kind : Option Meaning → Option ElementaryType
variable_kind (Some (meaning.Variable slot kind writable)) = Some kind
variable_kind other = None

-- the type of an output of a name that is declared as a timer
abbrev pub timer_output : TimerOutput → Option Meaning → Option ElementaryType
timer_output what (Some (meaning.Timer timer)) = Some (output_type what)
timer_output what other = None

-- the type of a variable or of an output
abbrev pub operand_kind : ProgramNames → text.VariableData → Option ElementaryType
operand_kind names (text.named name) = variable_kind (names.meaning name)
operand_kind names (text.output timer what) = timer_output what (names.meaning timer)

-- The operand can have the type.
abbrev pub CanHaveType : ProgramNames → text.OperandData → ElementaryType → Type 0
CanHaveType names (text.constant l) kind = IsLiteralOf l kind
CanHaveType names (text.variable place) kind = operand_kind names place ≡ Some kind

-- A load of the operand results in this type: an untyped number has the first of INT, DINT and LINT
-- that it fits.
abbrev pub IsLoaded : ProgramNames → text.OperandData → ElementaryType → Type 0
IsLoaded names (text.constant (literal.Number z)) kind = IsFirstFit z kind
IsLoaded names source kind = CanHaveType names source kind

-- ---- what else an instruction needs

-- The name is a variable that the program may write.
abbrev pub IsWritable : Option Meaning → Type 0
IsWritable (Some (meaning.Variable slot kind writable)) = writable ≡ true
IsWritable other = ⊥

-- The target is a variable that the program may write.
abbrev pub MayWrite : ProgramNames → text.VariableData → Type 0
MayWrite names (text.named name) = IsWritable (names.meaning name)
MayWrite names (text.output timer what) = ⊥

-- The literal is not 0.
abbrev pub IsNotZero : Literal → Type 0
IsNotZero (literal.Truth b) = b ≡ true
IsNotZero (literal.Number z) = z ≡ pos 0 → ⊥
IsNotZero (literal.Int z) = z ≡ pos 0 → ⊥
IsNotZero (literal.Dint z) = z ≡ pos 0 → ⊥
IsNotZero (literal.Lint z) = z ≡ pos 0 → ⊥
IsNotZero (literal.Time n) = n ≡ 0 → ⊥

-- The operand is a literal other than 0.
abbrev pub IsDivisor : text.OperandData → Type 0
IsDivisor (text.constant l) = IsNotZero l
IsDivisor (text.variable place) = ⊥

-- DIV and MOD divide only by a literal other than 0.
abbrev pub MayDivide : Operator → text.OperandData → Type 0
MayDivide Div source = IsDivisor source
MayDivide Mod source = IsDivisor source
MayDivide operator source = Unit {0}

-- The operator is not DIV or MOD.
abbrev pub DoesNotDivide : Operator → Type 0
DoesNotDivide Div = ⊥
DoesNotDivide Mod = ⊥
DoesNotDivide operator = Unit {0}

-- The name is a timer's.
abbrev pub IsTimer : Option Meaning → Type 0
IsTimer (Some (meaning.Timer timer)) = Unit {0}
IsTimer other = ⊥

-- Each argument of a call, at most two, can have the type of its input.
abbrev pub AreArguments : ProgramNames → List (Input × text.OperandData) → Type 0
AreArguments names [] = Unit {0}
AreArguments names (a ∷ []) = CanHaveType names a.1 (input_type a.0)
AreArguments names (a ∷ b ∷ more) =
    CanHaveType names a.1 (input_type a.0) × CanHaveType names b.1 (input_type b.0)

-- ---- instructions and parentheses, on a result of type t, which leave one of type u; none is an
-- unset result

-- An operator on a result of type t, with an operand of the second type, leaves a result of type u.
pub record Combines (operator : Operator) (negated : Bool) (t u : Option ElementaryType)
    (second : ElementaryType) : Type 0 where
  pub first : ElementaryType
  pub new : ElementaryType
  pub on : t ≡ Some first
  pub row : result_type operator first second ≡ Some new
  pub negation : MayNegate negated second
  pub leaves : u ≡ Some new

-- The instruction is valid with `passed` labels above it; a jump goes to a label below.
abbrev pub IsRightAction : ProgramNames → ℕ → text.Action → Option ElementaryType
    → Option ElementaryType
    → Type 0
IsRightAction names passed (text.load negated source) t u =
    (kind : ElementaryType) × IsLoaded names source kind × MayNegate negated kind
    × (u ≡ Some kind)
IsRightAction names passed (text.store how place) t u =
    (kind : ElementaryType) × (target : ElementaryType) × (t ≡ Some kind)
    × (operand_kind names place ≡ Some target) × Stores how kind target × MayWrite names place
    × (u ≡ t)
IsRightAction names passed (text.combine operator negated source) t u =
    (second : ElementaryType) × CanHaveType names source second
    × Combines operator negated t u second
    × MayDivide operator source
IsRightAction names passed text.invert t u = (t ≡ Some elementary.Bool) × (u ≡ t)
IsRightAction names passed (text.convert conversion) t u =
    (t ≡ Some (converted_from conversion)) × (u ≡ Some (converted_to conversion))
IsRightAction names passed (text.jump condition name) t u =
    (number : ℕ) × (names.label name ≡ Some number) × (passed ≤ number) × Tests condition t
    × (u ≡ t)
IsRightAction names passed (text.leave condition) t u = Tests condition t × (u ≡ t)
IsRightAction names passed (text.call timer args) t u =
    IsTimer (names.meaning timer) × AreArguments names args × (u ≡ None)

-- The operator of a parenthesis, which has a result of the inner type, is valid. DIV and MOD have
-- no parenthesis.
abbrev pub IsRightBlock : Operator → Bool → Option ElementaryType → Option ElementaryType
    → Option ElementaryType → Type 0
IsRightBlock operator negated inner t u =
    (second : ElementaryType) × (inner ≡ Some second) × Combines operator negated t u second
    × DoesNotDivide operator
