-- What an instruction requires of the current result, and the result after it (IEC 61131-3:2003,
-- 3.2.2 and table 52).
use Rattle.std.specs.Prelude.{ℕ, ℤ, Bool, true, false, not, ◌&&◌, ◌||◌, is_some, is_none, nat_lt, Option, None, Some, option_map, if◌then◌else◌}
use Rattle.bay_base.specs.declared.types.ElementaryType.{ElementaryType}
use Rattle.bay_base.specs.declared.types.ElementaryType.TheVariants as elementary
use Rattle.bay_base.specs.Types.{same_type}
use Rattle.il_text.specs.declared.program.Operator.{Operator}
use Rattle.il_text.specs.declared.program.Operator.TheVariants.{Div, Mod}
use Rattle.il_text.specs.declared.program.StoreKind.{StoreKind}
use Rattle.il_text.specs.declared.program.StoreKind.TheVariants as store
use Rattle.il_text.specs.declared.program.Condition.{Condition}
use Rattle.il_text.specs.declared.program.Condition.TheVariants.{Always, IfTrue, IfFalse}
use Rattle.il_text.specs.declared.program.Conversion.{Conversion}
use Rattle.il_text.specs.declared.program.Conversion.TheVariants.{IntToDint, DintToLint}
use Rattle.il_text.specs.declared.program.Input.{Input}
use Rattle.il_text.specs.declared.program.Input.TheVariants as input
use Rattle.il_image.specs.declared.value.Value.{Value}
use Rattle.il_image.specs.Values.{value_of}
use Rattle.il_check.specs.Operators.{result_type}
use Rattle.il_check.specs.declared.typed.TypedOperand.{TypedOperand}
use Rattle.il_check.specs.declared.typed.TypedOperand.TheVariants as operand
use Rattle.il_check.specs.declared.source_operand.SourceOperand.{SourceOperand}
use Rattle.il_check.specs.declared.source_operand.SourceOperand.TheVariants.{Missing, Misused, Known, Number}
use Rattle.il_check.specs.declared.source_operand.CalledTimer.{CalledTimer}
use Rattle.il_check.specs.declared.source_operand.CalledTimer.TheVariants as called
use Rattle.il_check.specs.declared.source_operand.SourceArgument.{SourceArgument}
use Rattle.il_check.specs.declared.source_operand.SourceArguments.{SourceArguments}
use Rattle.il_check.specs.declared.source_operand.SourceArguments.TheVariants as arguments
use Rattle.il_check.specs.declared.source_operand.Resolved.{Resolved}
use Rattle.il_check.specs.declared.source_operand.Resolved.TheVariants.{Load, Store, Combine, Not, Convert, Jump, Return, Call}

-- ---- own: operands of a type

-- the value of a type that an untyped number denotes; no number is a TIME
abbrev pub typed_number : ElementaryType → ℤ → Option Value
typed_number elementary.Bool z = value_of elementary.Bool z
typed_number elementary.Int z = value_of elementary.Int z
typed_number elementary.Dint z = value_of elementary.Dint z
typed_number elementary.Lint z = value_of elementary.Lint z
typed_number elementary.Time z = None

-- the operand as one of a type, if it can be one
abbrev pub typed_operand : ElementaryType → SourceOperand → Option TypedOperand
typed_operand kind Missing = None
typed_operand kind Misused = None
typed_operand kind (Known source) = if same_type source.kind kind then Some source.operand else None
typed_operand kind (Number z) = option_map (λ v. operand.Literal v) (typed_number kind z)

-- whether the operand can be one of the type
abbrev pub operand_fits : ElementaryType → SourceOperand → Bool
operand_fits kind operand = is_some (typed_operand kind operand)

-- the type of an untyped number by itself: INT if it fits, else DINT if it fits, else LINT
abbrev pub own_type : ℤ → ElementaryType
own_type z =
    if is_some (typed_number elementary.Int z) then elementary.Int
    else (if is_some (typed_number elementary.Dint z) then elementary.Dint else elementary.Lint)

-- the type of the result of a load; none for a name or literal that can't be loaded
abbrev pub load_type : SourceOperand → Option ElementaryType
load_type Missing = None
load_type Misused = None
load_type (Known source) = Some source.kind
load_type (Number z) = Some (own_type z)

-- ---- own: types

-- whether the type is BOOL
abbrev pub is_boolean : ElementaryType → Bool
is_boolean kind = same_type elementary.Bool kind

-- whether the type is INT, DINT or LINT
abbrev pub is_number : ElementaryType → Bool
is_number elementary.Bool = false
is_number elementary.Time = false
is_number other = true

-- the given type, if there is one, or else `kind`
abbrev pub or_same : ElementaryType → Option ElementaryType → ElementaryType
or_same kind None = kind
or_same kind (Some given) = given

-- ---- IEC 61131-3 3.2.2, table 52: operands and results of operators

-- whether an operator works with this type on both sides: its table has a row
abbrev pub accepts_type : Operator → ElementaryType → Bool
accepts_type operator kind = is_some (result_type operator kind kind)

-- the type of an operator's result, if the operator works with the type
abbrev pub type_of_result : Operator → ElementaryType → ElementaryType
type_of_result operator kind = or_same kind (result_type operator kind kind)

-- whether the operator divides by its operand (own)
abbrev pub divides : Operator → Bool
divides Div = true
divides Mod = true
divides other = false

-- whether a negation, if there is one, is allowed: only a BOOL is negated
abbrev pub may_negate : Bool → ElementaryType → Bool
may_negate negated kind = not negated || is_boolean kind

-- whether an operator, which may negate its operand, works on a type
abbrev pub works : Operator → Bool → ElementaryType → Bool
works operator negated kind = accepts_type operator kind && may_negate negated kind

-- whether a store writes the result as it is
abbrev pub is_plain : StoreKind → Bool
is_plain store.Plain = true
is_plain store.Negated = false
is_plain store.Set = false
is_plain store.Reset = false

-- whether a jump or a return depends on the result
abbrev pub is_conditional : Condition → Bool
is_conditional Always = false
is_conditional IfTrue = true
is_conditional IfFalse = true

-- ---- IEC 61131-3 table 22: conversions

-- the type that a conversion converts
abbrev pub converted_from : Conversion → ElementaryType
converted_from IntToDint = elementary.Int
converted_from DintToLint = elementary.Dint

-- the type that a conversion results in
abbrev pub converted_to : Conversion → ElementaryType
converted_to IntToDint = elementary.Dint
converted_to DintToLint = elementary.Lint

-- ---- IEC 61131-3 table 37: inputs of timers

-- the type of an input of a timer
abbrev pub input_type : Input → ElementaryType
input_type input.In = elementary.Bool
input_type input.Pt = elementary.Time

-- whether an argument has its input's type
abbrev pub argument_fits : SourceArgument → Bool
argument_fits a = operand_fits (input_type a.input) a.operand

-- whether each argument has its input's type
abbrev pub arguments_fit : SourceArguments → Bool
arguments_fit arguments.None = true
arguments_fit (arguments.One a) = argument_fits a
arguments_fit (arguments.Two a b) = argument_fits a && argument_fits b

-- whether the called name is a timer (own)
abbrev pub is_timer : CalledTimer → Bool
is_timer called.Missing = false
is_timer called.Misused = false
is_timer (called.Timer timer) = true

-- ---- IEC 61131-3 3.2.2: the current result

-- whether a value of this type, if there is one, may be loaded, negated or not
abbrev pub may_load : Bool → Option ElementaryType → Bool
may_load negated None = false
may_load negated (Some kind) = may_negate negated kind

-- whether the instruction is valid if the current result has this type
abbrev pub is_valid_on : Resolved → ElementaryType → Bool
is_valid_on (Load negated operand) kind = may_load negated (load_type operand)
is_valid_on (Store how target) kind =
    operand_fits kind target && may_negate (not (is_plain how)) kind
is_valid_on (Combine operator negated operand is_nonzero) kind =
    works operator negated kind && operand_fits kind operand
is_valid_on Not kind = is_boolean kind
is_valid_on (Convert conversion) kind = same_type kind (converted_from conversion)
is_valid_on (Jump condition label) kind = may_negate (is_conditional condition) kind
is_valid_on (Return condition) kind = may_negate (is_conditional condition) kind
is_valid_on (Call called arguments) kind = is_timer called && arguments_fit arguments

-- whether the instruction uses the current result
abbrev pub uses_result : Resolved → Bool
uses_result (Load negated operand) = false
uses_result (Store how target) = true
uses_result (Combine operator negated operand is_nonzero) = true
uses_result Not = true
uses_result (Convert conversion) = true
uses_result (Jump condition label) = is_conditional condition
uses_result (Return condition) = is_conditional condition
uses_result (Call called arguments) = false

-- ---- own: what is wrong with a result

-- whether some type passes the test
abbrev pub any_type : (ElementaryType → Bool) → Bool
any_type test =
    test elementary.Bool || test elementary.Int || test elementary.Dint || test elementary.Lint
    || test elementary.Time

-- whether no type that the result may have makes the instruction valid
abbrev pub is_wrong : Resolved → Option ElementaryType → Bool
is_wrong r None = not (any_type (is_valid_on r))
is_wrong r (Some kind) = not (is_valid_on r kind)

-- whether the instruction uses a result that is unset
abbrev pub is_unset : Resolved → Option ElementaryType → Bool
is_unset r result = uses_result r && is_none result

-- ---- IEC 61131-3 3.2.2: the result after an instruction, and after a parenthesis

-- the type of the result after the instruction; none if it is unset
abbrev pub type_after : Resolved → Option ElementaryType → Option ElementaryType
type_after (Load negated operand) result = load_type operand
type_after (Store how target) result = result
type_after (Combine operator negated operand is_nonzero) result =
    option_map (type_of_result operator) result
type_after Not result = result
type_after (Convert conversion) result = Some (converted_to conversion)
type_after (Jump condition label) result = result
type_after (Return condition) result = result
type_after (Call called arguments) result = None

-- whether the result of a parenthesis may have this type (own)
abbrev pub may_have_type : ElementaryType → Option ElementaryType → Bool
may_have_type kind None = true
may_have_type kind (Some inner) = same_type inner kind

-- whether the operator of a parenthesis is valid on a result of this type
abbrev pub combines : Operator → Bool → Option ElementaryType → ElementaryType → Bool
combines operator negated inner kind = works operator negated kind && may_have_type kind inner

-- ---- own: what is wrong with an instruction

-- whether no type that the result may have makes the operator of a parenthesis valid
abbrev pub combines_wrong : Operator → Bool → Option ElementaryType → Option ElementaryType → Bool
combines_wrong operator negated inner None = not (any_type (combines operator negated inner))
combines_wrong operator negated inner (Some kind) = not (combines operator negated inner kind)

-- whether the result is unset at the end of the parenthesis, or before it
abbrev pub combines_unset : Option ElementaryType → Option ElementaryType → Bool
combines_unset inner result = is_none inner || is_none result

-- whether the operand is an undeclared name
abbrev pub is_undeclared : SourceOperand → Bool
is_undeclared Missing = true
is_undeclared other = false

-- whether an argument is an undeclared name
abbrev pub has_undeclared_argument : SourceArguments → Bool
has_undeclared_argument arguments.None = false
has_undeclared_argument (arguments.One a) = is_undeclared a.operand
has_undeclared_argument (arguments.Two a b) = is_undeclared a.operand || is_undeclared b.operand

-- whether the called name is undeclared
abbrev pub is_undeclared_timer : CalledTimer → Bool
is_undeclared_timer called.Missing = true
is_undeclared_timer other = false

-- whether a name of the instruction is undeclared
abbrev pub uses_undeclared_name : Resolved → Bool
uses_undeclared_name (Load negated operand) = is_undeclared operand
uses_undeclared_name (Store how target) = is_undeclared target
uses_undeclared_name (Combine operator negated operand is_nonzero) = is_undeclared operand
uses_undeclared_name (Call called arguments) =
    is_undeclared_timer called || has_undeclared_argument arguments
uses_undeclared_name other = false

-- whether the label is above; `passed` is the number of labels above
abbrev pub is_above : ℕ → Option ℕ → Bool
is_above passed None = false
is_above passed (Some label) = nat_lt label passed

-- whether the instruction jumps to a label above
abbrev pub jumps_back : ℕ → Resolved → Bool
jumps_back passed (Jump condition label) = is_above passed label
jumps_back passed other = false

-- whether the instruction jumps to a label that does not exist
abbrev pub jumps_to_undefined_label : Resolved → Bool
jumps_to_undefined_label (Jump condition label) = is_none label
jumps_to_undefined_label other = false

-- whether the operand may only be read
abbrev pub is_read_only : SourceOperand → Bool
is_read_only (Known source) = not source.writable
is_read_only other = false

-- whether the instruction writes what may only be read
abbrev pub writes_read_only : Resolved → Bool
writes_read_only (Store how target) = is_read_only target
writes_read_only other = false

-- whether the instruction divides by anything but a literal other than 0
abbrev pub may_divide_by_zero : Resolved → Bool
may_divide_by_zero (Combine operator negated operand is_nonzero) = divides operator && not is_nonzero
may_divide_by_zero other = false

-- ---- own: successors of an instruction

-- whether the next item of the text can be reached from the instruction
abbrev pub falls_through : Resolved → Bool
falls_through (Jump condition label) = is_conditional condition
falls_through (Return condition) = is_conditional condition
falls_through other = true

-- the label that a jump goes to, if there is one
abbrev pub target_of : Resolved → Option ℕ
target_of (Jump condition label) = label
target_of other = None
