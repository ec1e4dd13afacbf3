-- The typed form of a valid instruction: its operands have the type that it works on.
use Rattle.std.specs.Prelude.{ℕ, Bool, Option, None, Some, option_map}
use Rattle.bay_base.specs.declared.types.ElementaryType.{ElementaryType}
use Rattle.il_text.specs.declared.program.Operator.{Operator}
use Rattle.il_text.specs.declared.program.StoreKind.{StoreKind}
use Rattle.il_text.specs.declared.program.Condition.{Condition}
use Rattle.il_check.specs.Program.{Entry, operation, block, Entries, ProgramItem, transfer, plain}
use Rattle.il_check.specs.Rules.{typed_operand, load_type, input_type}
use Rattle.il_check.specs.declared.typed.TypedOperand.{TypedOperand}
use Rattle.il_check.specs.declared.typed.TypedOperand.TheVariants as operand
use Rattle.il_check.specs.declared.typed.SimpleOperation.{SimpleOperation}
use Rattle.il_check.specs.declared.typed.SimpleOperation.TheVariants as op
use Rattle.il_check.specs.declared.typed.Transfer.{Transfer}
use Rattle.il_check.specs.declared.typed.Transfer.TheVariants as go
use Rattle.il_check.specs.declared.typed.Slot.{Slot}
use Rattle.il_check.specs.declared.typed.TypedArgument.{TypedArgument}
use Rattle.il_check.specs.declared.typed.TypedArguments.{TypedArguments}
use Rattle.il_check.specs.declared.typed.TypedArguments.TheVariants as typed
use Rattle.il_check.specs.declared.source_operand.SourceOperand.{SourceOperand}
use Rattle.il_check.specs.declared.source_operand.SourceOperand.TheVariants.{Known}
use Rattle.il_check.specs.declared.source_operand.CalledTimer.{CalledTimer}
use Rattle.il_check.specs.declared.source_operand.CalledTimer.TheVariants as called
use Rattle.il_check.specs.declared.source_operand.SourceArgument.{SourceArgument}
use Rattle.il_check.specs.declared.source_operand.SourceArguments.{SourceArguments}
use Rattle.il_check.specs.declared.source_operand.SourceArguments.TheVariants as arguments
use Rattle.il_check.specs.declared.source_operand.Resolved.{Resolved}
use Rattle.il_check.specs.declared.source_operand.Resolved.TheVariants.{Load, Store, Combine, Not, Convert, Jump, Return, Call}

-- ---- own: typed forms of instructions

-- a load of the operand, if there is one
abbrev pub load_operation : Bool → Option TypedOperand → Option SimpleOperation
load_operation negated None = None
load_operation negated (Some o) = Some (op.Load negated o)

-- a load of the operand as one of this type
abbrev pub typed_load : Bool → SourceOperand → Option ElementaryType → Option SimpleOperation
typed_load negated operand None = None
typed_load negated operand (Some kind) = load_operation negated (typed_operand kind operand)

-- the slot of an operand that is a variable
abbrev pub slot_in : TypedOperand → Option Slot
slot_in (operand.Slot slot) = Some slot
slot_in other = None

-- the slot of a target that is a variable
abbrev pub target_slot : SourceOperand → Option Slot
target_slot (Known source) = slot_in source.operand
target_slot other = None

-- a store into the slot, if there is one
abbrev pub store_operation : StoreKind → Option Slot → Option SimpleOperation
store_operation kind None = None
store_operation kind (Some slot) = Some (op.Store kind slot)

-- an operator with its operand, if there is one
abbrev pub combine_operation : Operator → ElementaryType → Bool → Option TypedOperand
    → Option SimpleOperation
combine_operation operator kind negated None = None
combine_operation operator kind negated (Some o) = Some (op.Combine operator kind negated o)

-- an operator on a result of this type, with the operand as one of the type
abbrev pub typed_combine : Operator → Bool → SourceOperand → Option ElementaryType
    → Option SimpleOperation
typed_combine operator negated operand None = None
typed_combine operator negated operand (Some kind) =
    combine_operation operator kind negated (typed_operand kind operand)

-- the typed operation of an instruction on a result of this type, if it is an operation
abbrev pub typed_operation : Resolved → Option ElementaryType → Option SimpleOperation
typed_operation (Load negated operand) result = typed_load negated operand (load_type operand)
typed_operation (Store kind target) result = store_operation kind (target_slot target)
typed_operation (Combine operator negated operand is_nonzero) result =
    typed_combine operator negated operand result
typed_operation Not result = Some op.Not
typed_operation (Convert conversion) result = Some (op.Convert conversion)
typed_operation other result = None

-- an argument with its input's type, if its operand can have it
abbrev pub typed_argument : SourceArgument → Option TypedArgument
typed_argument a =
    option_map (λ o. record { input = a.input; operand = o })
    (typed_operand (input_type a.input) a.operand)

-- one argument as the arguments of a call, if it is valid
abbrev pub one_argument : Option TypedArgument → Option TypedArguments
one_argument None = None
one_argument (Some a) = Some (typed.One a)

-- two arguments as the arguments of a call, if both are valid
abbrev pub two_arguments : Option TypedArgument → Option TypedArgument → Option TypedArguments
two_arguments (Some a) (Some b) = Some (typed.Two a b)
two_arguments a b = None

-- the arguments of a call, each with its input's type
abbrev pub typed_arguments : SourceArguments → Option TypedArguments
typed_arguments arguments.None = Some typed.None
typed_arguments (arguments.One a) = one_argument (typed_argument a)
typed_arguments (arguments.Two a b) = two_arguments (typed_argument a) (typed_argument b)

-- a call of a timer, if its arguments are valid
abbrev pub call_with : ℕ → Option TypedArguments → Option Transfer
call_with timer None = None
call_with timer (Some as_typed) = Some (go.Call timer as_typed)

-- a call, if a timer is called
abbrev pub typed_call : CalledTimer → Option TypedArguments → Option Transfer
typed_call (called.Timer timer) args = call_with timer args
typed_call other args = None

-- a jump to a label, if the label exists
abbrev pub typed_jump : Condition → Option ℕ → Option Transfer
typed_jump condition None = None
typed_jump condition (Some label) = Some (go.Jump condition label)

-- the jump, return or call of an instruction, if it is one
abbrev pub typed_transfer : Resolved → Option Transfer
typed_transfer (Jump condition label) = typed_jump condition label
typed_transfer (Return condition) = Some (go.Return condition)
typed_transfer (Call timer args) = typed_call timer (typed_arguments args)
typed_transfer other = None

-- the typed form of an instruction as an entry
abbrev pub action_entry : Resolved → Option ElementaryType → Option Entry
action_entry r result = option_map operation (typed_operation r result)

-- the item of a jump, a return or a call; of any other instruction that of its entry, if it has one
abbrev pub or_entry : Option Transfer → Option Entry → Option ProgramItem
or_entry (Some t) e = Some (transfer t)
or_entry None e = option_map plain e

-- the typed form of an instruction as an item
abbrev pub action_item : Resolved → Option ElementaryType → Option ProgramItem
action_item r result = or_entry (typed_transfer r) (action_entry r result)

-- a parenthesis whose operator works on a result of this type
abbrev pub typed_block : Operator → Bool → Entries → Option ElementaryType → Option Entry
typed_block operator negated inner None = None
typed_block operator negated inner (Some kind) = Some (block operator kind negated inner)
