-- A checked program has the content of the program that it was made of, declaration by declaration
-- and item by item.
use Rattle.std.specs.Prelude.{◌≡◌, ℕ, pos, List, [], ◌∷◌, slice_get, Option, Some, None, option_map}
use Rattle.bay_base.specs.Names.{upper}
use Rattle.bay_base.specs.declared.types.ElementaryType.{ElementaryType}
use Rattle.bay_base.specs.declared.types.ElementaryType.TheVariants as elementary
use Rattle.bay_base.specs.declared.point.Point.{Point}
use Rattle.il_text.specs.Listing as text
use Rattle.il_text.specs.declared.program.DeclaredType.{DeclaredType}
use Rattle.il_text.specs.declared.program.DeclaredType.TheVariants as type
use Rattle.il_text.specs.declared.program.Input.{Input}
use Rattle.il_text.specs.declared.program.Literal.{Literal}
use Rattle.il_text.specs.declared.program.Literal.TheVariants as literal
use Rattle.il_text.specs.declared.program.VariableScope.{VariableScope}
use Rattle.il_text.specs.declared.program.VariableScope.TheVariants as scope
use Rattle.il_image.specs.declared.value.Value.{Value}
use Rattle.il_image.specs.declared.value.Value.TheVariants as value
use Rattle.il_image.specs.Values.{number_of, type_of}
use Rattle.il_check.specs.Declaring.{point_of}
use Rattle.il_check.specs.Program.{Entry, operation, block, Entries, no_entries, entry, ProgramItem, label, transfer, plain, Checked}
use Rattle.il_check.specs.declared.typed.External.{External}
use Rattle.il_check.specs.declared.typed.Variable.{Variable}
use Rattle.il_check.specs.declared.typed.Timer.{Timer}
use Rattle.il_check.specs.declared.typed.Slot.{Slot}
use Rattle.il_check.specs.declared.typed.Slot.TheVariants as slot
use Rattle.il_check.specs.declared.typed.TypedOperand.{TypedOperand}
use Rattle.il_check.specs.declared.typed.TypedOperand.TheVariants as operand
use Rattle.il_check.specs.declared.typed.TypedArgument.{TypedArgument}
use Rattle.il_check.specs.declared.typed.TypedArguments.{TypedArguments}
use Rattle.il_check.specs.declared.typed.TypedArguments.TheVariants as arguments
use Rattle.il_check.specs.declared.typed.SimpleOperation.{SimpleOperation}
use Rattle.il_check.specs.declared.typed.SimpleOperation.TheVariants as op
use Rattle.il_check.specs.declared.typed.Transfer.{Transfer}
use Rattle.il_check.specs.declared.typed.Transfer.TheVariants as go

-- ---- own: names of slots, timers and labels

-- the name of the external or variable in a slot
abbrev pub slot_name : Checked → Slot → Option (List ℕ)
slot_name c (slot.External n) = option_map (λ e. e.name) (slice_get c.externals n)
slot_name c (slot.Variable n) = option_map (λ v. v.name) (slice_get c.variables n)

-- the name of a timer
abbrev pub timer_name : Checked → ℕ → Option (List ℕ)
timer_name c n = option_map (λ t. t.name) (slice_get c.timers n)

-- the names of the labels, in their order
abbrev pub label_names : List text.Entry → List (List ℕ)
label_names [] = []
label_names (text.label line name ∷ es) = upper name ∷ label_names es
label_names (text.action line a ∷ es) = label_names es
label_names (text.block line operator negated items end ∷ es) = label_names es

-- ---- own: preserved values

-- The value is that of the literal, and has the literal's type if it names one.
abbrev pub IsValueOf : Literal → Value → Type 0
IsValueOf (literal.Truth b) v = v ≡ value.Truth b
IsValueOf (literal.Number z) v = number_of v ≡ z
IsValueOf (literal.Int z) v = (type_of v ≡ elementary.Int) × (number_of v ≡ z)
IsValueOf (literal.Dint z) v = (type_of v ≡ elementary.Dint) × (number_of v ≡ z)
IsValueOf (literal.Lint z) v = (type_of v ≡ elementary.Lint) × (number_of v ≡ z)
IsValueOf (literal.Time n) v = (type_of v ≡ elementary.Time) × (number_of v ≡ pos n)

-- A variable begins with the literal, or with 0 if there is none.
abbrev pub BeginsWith : Option Literal → Value → Type 0
BeginsWith None v = number_of v ≡ pos 0
BeginsWith (Some l) v = IsValueOf l v

-- ---- own: preserved declarations

-- The external is the point of its name, with its type, its source, and whether it may be written.
pub record IsExternalOf (points : List Point) (d : text.DeclaredName) (kind : ElementaryType)
    (e : External) : Type 0 where
  pub point : Point
  pub found : point_of points d.name ≡ Some point
  pub name : e.name ≡ upper d.name
  pub kind_is : e.kind ≡ kind
  pub point_kind : point.kind ≡ kind
  pub source : e.source ≡ point.source
  pub writable : e.writable ≡ point.writable

-- The variable has the declared name, type and initial value.
pub record IsVariableOf (d : text.DeclaredName) (kind : ElementaryType) (v : Variable)
    : Type 0 where
  pub name : v.name ≡ upper d.name
  pub kind_is : type_of v.initial ≡ kind
  pub initial : BeginsWith d.initial v.initial

-- The first external, variable or timer, by the scope and type of the declaration, is the declared
-- one, and the later ones are those of later declarations.
abbrev pub IsDeclaredAs : List Point → text.DeclaredName → VariableScope → DeclaredType
    → List External
    → List Variable → List Timer → (List External → List Variable → List Timer → Type 0) → Type 0
IsDeclaredAs points d scope.External (type.Elementary kind) (e ∷ es) vs ts later =
    IsExternalOf points d kind e × later es vs ts
IsDeclaredAs points d scope.External (type.Elementary kind) [] vs ts later = ⊥
IsDeclaredAs points d scope.Local (type.Elementary kind) es (v ∷ vs) ts later =
    IsVariableOf d kind v × later es vs ts
IsDeclaredAs points d scope.Local (type.Elementary kind) es [] ts later = ⊥
IsDeclaredAs points d stands (type.Timer kind) es vs (t ∷ ts) later =
    (t ≡ record { name = upper d.name; kind = kind }) × later es vs ts
IsDeclaredAs points d stands (type.Timer kind) es vs [] later = ⊥

-- The externals, variables and timers are the declared ones, in the order of the declarations, and
-- no others.
abbrev pub AreDeclared : List Point → List text.DeclaredName → List External → List Variable
    → List Timer → Type 0
AreDeclared points [] es vs ts = (es ≡ []) × (vs ≡ []) × (ts ≡ [])
AreDeclared points (d ∷ ds) es vs ts =
    IsDeclaredAs points d d.scope d.kind es vs ts (AreDeclared points ds)

-- ---- own: preserved instructions

-- The operand is the literal's value, or the variable or timer output that the text names.
abbrev pub IsOperandOf : Checked → text.OperandData → TypedOperand → Type 0
IsOperandOf c (text.constant l) (operand.Literal v) = IsValueOf l v
IsOperandOf c (text.variable (text.named name)) (operand.Slot s) = slot_name c s ≡ Some (upper name)
IsOperandOf c (text.variable (text.output timer gives)) (operand.TimerOutput n what) =
    (timer_name c n ≡ Some (upper timer)) × (what ≡ gives)
IsOperandOf c source x = ⊥

-- The slot is that of the variable that the text names.
abbrev pub IsTargetOf : Checked → text.VariableData → Slot → Type 0
IsTargetOf c (text.named name) s = slot_name c s ≡ Some (upper name)
IsTargetOf c (text.output timer gives) s = ⊥

-- The operation is that of the text, with the same modifier and the same operand.
abbrev pub IsOperationOf : Checked → text.Action → SimpleOperation → Type 0
IsOperationOf c (text.load negated source) (op.Load n x) = (n ≡ negated) × IsOperandOf c source x
IsOperationOf c (text.store how place) (op.Store h s) = (h ≡ how) × IsTargetOf c place s
IsOperationOf c (text.combine operator negated source) (op.Combine o kind n x) =
    (o ≡ operator) × (n ≡ negated) × IsOperandOf c source x
IsOperationOf c text.invert op.Not = Unit {0}
IsOperationOf c (text.convert conversion) (op.Convert k) = k ≡ conversion
IsOperationOf c a o = ⊥

-- The argument has the same input and the same operand.
abbrev pub IsArgumentOf : Checked → Input × text.OperandData → TypedArgument → Type 0
IsArgumentOf c a x = (x.input ≡ a.0) × IsOperandOf c a.1 x.operand

-- The arguments of a call, at most two, are those of the text.
abbrev pub AreArgumentsOf : Checked → List (Input × text.OperandData) → TypedArguments → Type 0
AreArgumentsOf c [] arguments.None = Unit {0}
AreArgumentsOf c (a ∷ []) (arguments.One x) = IsArgumentOf c a x
AreArgumentsOf c (a ∷ b ∷ more) (arguments.Two x y) = IsArgumentOf c a x × IsArgumentOf c b y
AreArgumentsOf c args xs = ⊥

-- The jump, return or call is that of the text, with the same condition, and the same label or
-- timer.
abbrev pub IsTransferOf : Checked → List (List ℕ) → text.Action → Transfer → Type 0
IsTransferOf c labels (text.jump condition name) (go.Jump k n) =
    (k ≡ condition) × (slice_get labels n ≡ Some (upper name))
IsTransferOf c labels (text.leave condition) (go.Return k) = k ≡ condition
IsTransferOf c labels (text.call timer args) (go.Call n xs) =
    (timer_name c n ≡ Some (upper timer)) × AreArgumentsOf c args xs
IsTransferOf c labels a x = ⊥

-- ---- own: preserved items

abbrev mutual
  -- The entry is that of the text; a parenthesis has the same operator and entries.
  pub IsEntryOf : Checked → text.Entry → Entry → Type 0
  IsEntryOf c (text.action line a) (operation o) = IsOperationOf c a o
  IsEntryOf c (text.block line operator negated items end) (block o kind n es) =
      (o ≡ operator) × (n ≡ negated) × AreEntriesOf c items es
  IsEntryOf c e x = ⊥

  pub AreEntriesOf : Checked → text.Entries → Entries → Type 0
  AreEntriesOf c text.no_entries no_entries = Unit {0}
  AreEntriesOf c (text.entry e es) (entry x xs) = IsEntryOf c e x × AreEntriesOf c es xs
  AreEntriesOf c es xs = ⊥

-- The item is that of the text; the number of a label is the index of its name among the labels.
abbrev pub IsItemOf : Checked → List (List ℕ) → text.Entry → ProgramItem → Type 0
IsItemOf c labels (text.label line name) (label n) = slice_get labels n ≡ Some (upper name)
IsItemOf c labels (text.action line a) (transfer x) = IsTransferOf c labels a x
IsItemOf c labels e (plain x) = IsEntryOf c e x
IsItemOf c labels e x = ⊥

-- The items are those of the text, in order; none is left out, and none is added.
abbrev pub AreItemsOf : Checked → List (List ℕ) → List text.Entry → List ProgramItem → Type 0
AreItemsOf c labels [] [] = Unit {0}
AreItemsOf c labels (e ∷ es) (x ∷ xs) = IsItemOf c labels e x × AreItemsOf c labels es xs
AreItemsOf c labels es xs = ⊥

-- The checked program has the declarations and items of the text's program.
pub record Preserves (points : List Point) (program : text.PlainProgram) (c : Checked)
    : Type 0 where
  pub declared : AreDeclared points program.declarations c.externals c.variables c.timers
  pub items : AreItemsOf c (label_names program.items) program.items c.items
