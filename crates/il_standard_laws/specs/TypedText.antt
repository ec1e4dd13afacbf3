-- The types of a checked program, compared with its text, by the language's tables (IEC
-- 61131-3:2003, 2.2, 3.2.2 and table 52).
use Rattle.std.specs.Prelude.{◌≡◌, List, [], ◌∷◌, Option, Some, None}
use Rattle.bay_base.specs.declared.types.ElementaryType.{ElementaryType}
use Rattle.bay_base.specs.declared.types.ElementaryType.TheVariants as elementary
use Rattle.il_text.specs.Listing as text
use Rattle.il_text.specs.declared.program.Input.{Input}
use Rattle.il_text.specs.declared.program.Literal.TheVariants as literal
use Rattle.il_image.specs.Values.{type_of}
use Rattle.il_check.specs.Labelling.{FlowState, FallAgrees, JumpAgrees, Labelling, initial_flow, flow_after_label}
use Rattle.il_check.specs.Program.{Checked, Entries, Entry, ProgramItem, block, entry, label, no_entries, operation, plain, transfer}
use Rattle.il_check.specs.TypedProgram.{flow_after_entry, flow_after_transfer, slot_type, target_of}
use Rattle.il_check.specs.declared.typed.SimpleOperation.{SimpleOperation}
use Rattle.il_check.specs.declared.typed.SimpleOperation.TheVariants as op
use Rattle.il_check.specs.declared.typed.Transfer.{Transfer}
use Rattle.il_check.specs.declared.typed.Transfer.TheVariants as go
use Rattle.il_check.specs.declared.typed.TypedArgument.{TypedArgument}
use Rattle.il_check.specs.declared.typed.TypedArguments.{TypedArguments}
use Rattle.il_check.specs.declared.typed.TypedArguments.TheVariants as arguments
use Rattle.il_check.specs.declared.typed.TypedOperand.{TypedOperand}
use Rattle.il_check.specs.declared.typed.TypedOperand.TheVariants as operand
use Rattle.il_check.specs.SourceOperands.{output_type}
use Rattle.il_check.specs.Rules.{converted_from, converted_to, input_type}
use Rattle.il_check.specs.Operators.{result_type}
use Rattle.il_standard_laws.specs.Table.{IsFirstFit, MayNegate, Stores, Tests}

-- ---- operands

-- the type of an operand of the checked program
abbrev pub operand_type : Checked → TypedOperand → Option ElementaryType
operand_type c (operand.Literal v) = Some (type_of v)
operand_type c (operand.Slot s) = slot_type c s
operand_type c (operand.TimerOutput timer what) = Some (output_type what)

-- A literal that names a type has this type. An untyped number, and a variable, may have each type.
abbrev pub TextAllowsType : text.OperandData → ElementaryType → Type 0
TextAllowsType (text.constant (literal.Truth b)) kind = kind ≡ elementary.Bool
TextAllowsType (text.constant (literal.Number z)) kind = Unit {0}
TextAllowsType (text.constant (literal.Int z)) kind = kind ≡ elementary.Int
TextAllowsType (text.constant (literal.Dint z)) kind = kind ≡ elementary.Dint
TextAllowsType (text.constant (literal.Lint z)) kind = kind ≡ elementary.Lint
TextAllowsType (text.constant (literal.Time n)) kind = kind ≡ elementary.Time
TextAllowsType (text.variable place) kind = Unit {0}

-- An untyped number that is loaded has the first of INT, DINT and LINT that it fits.
abbrev pub IsLoadedAs : text.OperandData → ElementaryType → Type 0
IsLoadedAs (text.constant (literal.Number z)) kind = IsFirstFit z kind
IsLoadedAs source kind = TextAllowsType source kind

-- The operand of the checked program has the type, and the operand of the text may have it.
abbrev pub HasType : Checked → text.OperandData → TypedOperand → ElementaryType → Type 0
HasType c source x kind = (operand_type c x ≡ Some kind) × TextAllowsType source kind

-- ---- operations and parentheses, on a result of type t, which leave one of type u; none is an
-- unset result

abbrev pub OperationHasTypes : Checked → text.Action → SimpleOperation → Option ElementaryType
    → Option ElementaryType → Type 0
OperationHasTypes c (text.load negated source) (op.Load n x) t u =
    (kind : ElementaryType) × (operand_type c x ≡ Some kind) × IsLoadedAs source kind
    × MayNegate negated kind × (u ≡ Some kind)
OperationHasTypes c (text.store how place) (op.Store h s) t u =
    (kind : ElementaryType) × (target : ElementaryType) × (t ≡ Some kind)
    × (slot_type c s ≡ Some target) × Stores how kind target × (u ≡ t)
OperationHasTypes c (text.combine operator negated source) (op.Combine o kind n x) t u =
    (second : ElementaryType) × (new : ElementaryType) × (t ≡ Some kind) × HasType c source x second
    × MayNegate negated second × (result_type operator kind second ≡ Some new) × (u ≡ Some new)
OperationHasTypes c text.invert op.Not t u =
    (t ≡ Some elementary.Bool) × (u ≡ Some elementary.Bool)
OperationHasTypes c (text.convert conversion) (op.Convert k) t u =
    (t ≡ Some (converted_from conversion)) × (u ≡ Some (converted_to conversion))
OperationHasTypes c a o t u = ⊥

-- A parenthesis begins with an unset result; its result is the operand.
abbrev mutual
  pub EntryHasTypes : Checked → text.Entry → Entry → Option ElementaryType → Option ElementaryType
      → Type 0
  EntryHasTypes c (text.action line a) (operation o) t u = OperationHasTypes c a o t u
  EntryHasTypes c (text.block line operator negated items end) (block o kind n es) t u =
      (second : ElementaryType) × (new : ElementaryType) × (t ≡ Some kind)
      × EntriesHaveTypes c items es None (Some second) × MayNegate negated second
      × (result_type operator kind second ≡ Some new) × (u ≡ Some new)
  EntryHasTypes c e x t u = ⊥

  pub EntriesHaveTypes : Checked → text.Entries → Entries → Option ElementaryType
      → Option ElementaryType → Type 0
  EntriesHaveTypes c text.no_entries no_entries t u = u ≡ t
  EntriesHaveTypes c (text.entry e es) (entry x xs) t u =
      (w : Option ElementaryType) × EntryHasTypes c e x t w × EntriesHaveTypes c es xs w u
  EntriesHaveTypes c es xs t u = ⊥

-- ---- jumps, returns and calls

-- An argument has the type of its input.
abbrev pub ArgumentHasType : Checked → Input × text.OperandData → TypedArgument → Type 0
ArgumentHasType c a x = HasType c a.1 x.operand (input_type a.0)

-- Each argument of a call, at most two, has the type of its input.
abbrev pub ArgumentsHaveTypes : Checked → List (Input × text.OperandData) → TypedArguments → Type 0
ArgumentsHaveTypes c [] arguments.None = Unit {0}
ArgumentsHaveTypes c (a ∷ []) (arguments.One x) = ArgumentHasType c a x
ArgumentsHaveTypes c (a ∷ b ∷ more) (arguments.Two x y) =
    ArgumentHasType c a x × ArgumentHasType c b y
ArgumentsHaveTypes c args xs = ⊥

-- A jump or a return has the result that it tests, and the arguments of a call have their types.
abbrev pub TransferHasTypes : Checked → text.Action → Transfer → Option ElementaryType → Type 0
TransferHasTypes c (text.jump condition name) (go.Jump k n) t = Tests condition t
TransferHasTypes c (text.leave condition) (go.Return k) t = Tests condition t
TransferHasTypes c (text.call timer args) (go.Call n xs) t = ArgumentsHaveTypes c args xs
TransferHasTypes c a x t = ⊥

-- ---- the items

-- Each item has its types on the result that reaches it; what reaches a label, from above or by a
-- jump, has the label's type, or the label is unset.
abbrev pub ItemsHaveTypes : Checked → Labelling → List text.Entry → List ProgramItem → FlowState
    → Type 0
ItemsHaveTypes c labels [] [] k = Unit {0}
ItemsHaveTypes c labels (text.label line name ∷ es) (label n ∷ is) k =
    FallAgrees labels k.passed k.now × ItemsHaveTypes c labels es is (flow_after_label labels k)
ItemsHaveTypes c labels (text.action line a ∷ es) (transfer x ∷ is) k =
    (t : Option ElementaryType) × (k.now ≡ Some t) × TransferHasTypes c a x t
    × JumpAgrees labels (target_of x) t × ItemsHaveTypes c labels es is (flow_after_transfer x t k)
ItemsHaveTypes c labels (e ∷ es) (plain x ∷ is) k =
    (t : Option ElementaryType) × (u : Option ElementaryType) × (k.now ≡ Some t)
    × EntryHasTypes c e x t u × ItemsHaveTypes c labels es is (flow_after_entry u k)
ItemsHaveTypes c labels es is k = ⊥

-- With some labelling (a type of the current result, or unset, for each label) each item has its
-- types.
pub record HasTypes (program : text.PlainProgram) (c : Checked) : Type 0 where
  pub labels : Labelling
  pub items : ItemsHaveTypes c labels program.items c.items initial_flow
