-- Which checked programs are well typed (IEC 61131-3:2003, 2.4.3 and 3.2), without names: each
-- operand has its type, each target may be written, and each instruction is reached.
use Rattle.std.specs.Prelude.{◌≡◌, ℕ, pos, suc, ◌+◌, ◌<◌, ◌≤◌, ◌&&◌, ◌||◌, ◌==◌, max, Bool, true, false, not, List, [], ◌∷◌, length, slice_get, Option, None, Some, option_map}
use Rattle.std.specs.Ordering.{int_eq}
use Rattle.bay_base.specs.declared.types.ElementaryType.{ElementaryType}
use Rattle.bay_base.specs.declared.types.ElementaryType.TheVariants as elementary
use Rattle.il_text.specs.declared.program.Condition.{Condition}
use Rattle.il_text.specs.declared.program.Condition.TheVariants.{Always, IfTrue, IfFalse}
use Rattle.il_image.specs.Images.{Each, IsName, IsValue}
use Rattle.il_image.specs.Values.{number_of, type_of}
use Rattle.il_image.specs.Machine.{most_slots, most_timers}
use Rattle.il_check.specs.SourceOperands.{output_type}
use Rattle.il_check.specs.Labelling.{Labelling, Incoming, FlowState, flow_state, initial_flow, FallAgrees, JumpAgrees, with_target, flow_after_label}
use Rattle.il_check.specs.Program.{Entry, operation, block, Entries, no_entries, entry, ProgramItem, label, transfer, plain, Checked}
use Rattle.il_check.specs.Rules.{may_negate, is_plain, works, type_of_result, divides, input_type, converted_from, converted_to}
use Rattle.il_check.specs.declared.typed.External.{External}
use Rattle.il_check.specs.declared.typed.Variable.{Variable}
use Rattle.il_check.specs.declared.typed.Slot.{Slot}
use Rattle.il_check.specs.declared.typed.Slot.TheVariants as slot
use Rattle.il_check.specs.declared.typed.TypedOperand.{TypedOperand}
use Rattle.il_check.specs.declared.typed.TypedOperand.TheVariants as operand
use Rattle.il_check.specs.declared.typed.TypedArgument.{TypedArgument}
use Rattle.il_check.specs.declared.typed.TypedArguments.{TypedArguments}
use Rattle.il_check.specs.declared.typed.TypedArguments.TheVariants as arguments
use Rattle.il_check.specs.declared.typed.SimpleOperation.{SimpleOperation}
use Rattle.il_check.specs.declared.typed.SimpleOperation.TheVariants as op
use Rattle.il_check.specs.declared.typed.Transfer.{Transfer}
use Rattle.il_check.specs.declared.typed.Transfer.TheVariants as go
use Rattle.il_check.specs.Limits.{most_labels, most_nested}

-- ---- own: what is read and written

-- the type of the values in a slot, if the slot exists
abbrev pub slot_type : Checked → Slot → Option ElementaryType
slot_type c (slot.External n) = option_map (λ e. e.kind) (slice_get c.externals n)
slot_type c (slot.Variable n) = option_map (λ v. type_of v.initial) (slice_get c.variables n)

-- whether there is an external and the program may write it
abbrev pub is_writable : Option External → Bool
is_writable None = false
is_writable (Some e) = e.writable

-- whether the program may write the slot
abbrev pub may_write : Checked → Slot → Bool
may_write c (slot.External n) = is_writable (slice_get c.externals n)
may_write c (slot.Variable n) = true

-- The operand exists and has this type.
abbrev pub IsOperand : Checked → TypedOperand → ElementaryType → Type 0
IsOperand c (operand.Literal v) kind = IsValue v × (type_of v ≡ kind)
IsOperand c (operand.Slot s) kind = slot_type c s ≡ Some kind
IsOperand c (operand.TimerOutput timer gives_what) kind =
    (timer < length c.timers) × (output_type gives_what ≡ kind)

-- whether the operand is a literal other than 0
abbrev pub is_divisor : TypedOperand → Bool
is_divisor (operand.Literal v) = not (int_eq (number_of v) (pos 0))
is_divisor (operand.Slot s) = false
is_divisor (operand.TimerOutput timer gives_what) = false

-- ---- IEC 61131-3 3.2.2, table 52: operations

-- An operation on a result of type t leaves one of type u; none is an unset result.
abbrev pub IsOperation : Checked → SimpleOperation → Option ElementaryType → Option ElementaryType
    → Type 0
IsOperation c (op.Load negated x) t u =
    (kind : ElementaryType) × IsOperand c x kind × (may_negate negated kind ≡ true)
    × (u ≡ Some kind)
IsOperation c (op.Store how s) t u =
    (kind : ElementaryType) × (slot_type c s ≡ Some kind) × (may_write c s ≡ true)
    × (may_negate (not (is_plain how)) kind ≡ true) × (t ≡ Some kind) × (u ≡ t)
IsOperation c (op.Combine operator kind negated x) t u =
    IsOperand c x kind × (works operator negated kind ≡ true)
    × (divides operator && not (is_divisor x) ≡ false) × (t ≡ Some kind)
    × (u ≡ Some (type_of_result operator kind))
IsOperation c op.Not t u = (t ≡ Some elementary.Bool) × (u ≡ t)
IsOperation c (op.Convert conversion) t u =
    (t ≡ Some (converted_from conversion)) × (u ≡ Some (converted_to conversion))

-- A parenthesis begins with an unset result, and its operator does not divide.
abbrev mutual
  pub IsEntry : Checked → Entry → Option ElementaryType → Option ElementaryType → Type 0
  IsEntry c (operation o) t u = IsOperation c o t u
  IsEntry c (block operator kind negated es) t u =
      AreEntries c es None (Some kind) × (works operator negated kind ≡ true)
      × (divides operator ≡ false) × (t ≡ Some kind) × (u ≡ Some (type_of_result operator kind))

  pub AreEntries : Checked → Entries → Option ElementaryType → Option ElementaryType → Type 0
  AreEntries c no_entries t u = u ≡ t
  AreEntries c (entry e es) t u =
      (w : Option ElementaryType) × IsEntry c e t w × AreEntries c es w u

-- the nesting depth of parentheses (own)
abbrev mutual
  pub entry_depth : Entry → ℕ
  entry_depth (operation o) = 0
  entry_depth (block operator kind negated es) = suc (entries_depth es)

  pub entries_depth : Entries → ℕ
  entries_depth no_entries = 0
  entries_depth (entry e es) = max (entry_depth e) (entries_depth es)

-- ---- IEC 61131-3 3.2.2, table 52: jumps, returns and calls

-- The argument has its input's type.
abbrev pub IsArgument : Checked → TypedArgument → Type 0
IsArgument c a = IsOperand c a.operand (input_type a.input)

-- Each argument has its input's type.
abbrev pub AreArguments : Checked → TypedArguments → Type 0
AreArguments c arguments.None = Unit {0}
AreArguments c (arguments.One a) = IsArgument c a
AreArguments c (arguments.Two a b) = IsArgument c a × IsArgument c b

-- A condition needs a result of type BOOL.
abbrev pub TestsBool : Condition → Option ElementaryType → Type 0
TestsBool Always t = Unit {0}
TestsBool IfTrue t = t ≡ Some elementary.Bool
TestsBool IfFalse t = t ≡ Some elementary.Bool

-- whether one of the items is the label with this number (own)
abbrev pub has_label : List ProgramItem → ℕ → Bool
has_label [] number = false
has_label (label n ∷ is) number = (n == number) || has_label is number
has_label (transfer t ∷ is) number = has_label is number
has_label (plain e ∷ is) number = has_label is number

-- The jump, return or call is valid on a result of this type; a jump goes to a label below.
abbrev pub IsTransfer : Checked → List ProgramItem → Transfer → Option ElementaryType → Type 0
IsTransfer c below (go.Jump condition number) t =
    TestsBool condition t × (has_label below number ≡ true)
IsTransfer c below (go.Return condition) t = TestsBool condition t
IsTransfer c below (go.Call timer args) t = (timer < length c.timers) × AreArguments c args

-- the label that a jump goes to (own)
abbrev pub target_of : Transfer → Option ℕ
target_of (go.Jump condition number) = Some number
target_of (go.Return condition) = None
target_of (go.Call timer args) = None

-- what a jump or a return on a result of this type brings to the next item (own)
abbrev pub incoming_after_condition : Condition → Option ElementaryType → Incoming
incoming_after_condition Always t = None
incoming_after_condition IfTrue t = Some t
incoming_after_condition IfFalse t = Some t

-- what a jump, a return or a call brings to the next item (own)
abbrev pub incoming_after_transfer : Transfer → Option ElementaryType → Incoming
incoming_after_transfer (go.Jump condition number) t = incoming_after_condition condition t
incoming_after_transfer (go.Return condition) t = incoming_after_condition condition t
incoming_after_transfer (go.Call timer args) t = Some None

-- ---- own: types of the current result, over the items

-- the state after a jump, a return or a call on a result of this type
abbrev pub flow_after_transfer : Transfer → Option ElementaryType → FlowState → FlowState
flow_after_transfer x t k =
    flow_state k.passed (with_target (target_of x) k.named) (incoming_after_transfer x t)

-- the state after an operation or a parenthesis that leaves a result of this type
abbrev pub flow_after_entry : Option ElementaryType → FlowState → FlowState
flow_after_entry u k = flow_state k.passed k.named (Some u)

-- The label has the next number and is not too many, and the path from above brings its type.
abbrev pub IsLabel : Labelling → ℕ → FlowState → Type 0
IsLabel labels n k = (n ≡ k.passed) × (k.passed < most_labels) × FallAgrees labels k.passed k.now

-- The jump, return or call is reached with a result of this type, is valid on it, and brings it to
-- the label that it jumps to.
abbrev pub IsReachedTransfer : Checked → Labelling → List ProgramItem → Transfer
    → Option ElementaryType
    → FlowState → Type 0
IsReachedTransfer c labels below x t k =
    (k.now ≡ Some t) × IsTransfer c below x t × JumpAgrees labels (target_of x) t

-- The operation or parenthesis is reached with a result of type t, and leaves one of type u.
abbrev pub IsReachedEntry : Checked → Entry → Option ElementaryType → Option ElementaryType
    → FlowState
    → Type 0
IsReachedEntry c e t u k = (k.now ≡ Some t) × IsEntry c e t u × (entry_depth e ≤ most_nested)

-- Each item is reached, and valid in the state before it.
abbrev pub AreItems : Checked → Labelling → List ProgramItem → FlowState → Type 0
AreItems c labels [] k = Unit {0}
AreItems c labels (label n ∷ is) k =
    IsLabel labels n k × AreItems c labels is (flow_after_label labels k)
AreItems c labels (transfer x ∷ is) k =
    (t : Option ElementaryType) × IsReachedTransfer c labels is x t k
    × AreItems c labels is (flow_after_transfer x t k)
AreItems c labels (plain e ∷ is) k =
    (t : Option ElementaryType) × (u : Option ElementaryType) × IsReachedEntry c e t u k
    × AreItems c labels is (flow_after_entry u k)

-- An image can represent the name of the external.
abbrev pub HasName : External → Type 0
HasName e = IsName e.name

-- The initial value of the variable is in the range of its type.
abbrev pub HasValidInitial : Variable → Type 0
HasValidInitial v = IsValue v.initial

-- There are no more slots and timers than a machine may have, and some labelling makes each item
-- reached and valid.
pub record IsTyped (c : Checked) : Type 0 where
  pub slots : length c.externals + length c.variables ≤ most_slots
  pub timers : length c.timers ≤ most_timers
  pub names : Each HasName c.externals
  pub initial : Each HasValidInitial c.variables
  pub labels : Labelling
  pub items : AreItems c labels c.items initial_flow
