-- A program as plain data (IEC 61131-3:2003, 2.5.3, 2.4.3 and 3.2): names are octets as spelled.
use Rattle.std.specs.Prelude.{ℕ, Bool, List, [], ◌∷◌, Option}
use Rattle.il_text.specs.declared.program.VariableScope.{VariableScope}
use Rattle.il_text.specs.declared.program.DeclaredType.{DeclaredType}
use Rattle.il_text.specs.declared.program.Literal.{Literal}
use Rattle.il_text.specs.declared.program.Operator.{Operator}
use Rattle.il_text.specs.declared.program.StoreKind.{StoreKind}
use Rattle.il_text.specs.declared.program.Condition.{Condition}
use Rattle.il_text.specs.declared.program.Conversion.{Conversion}
use Rattle.il_text.specs.declared.program.Input.{Input}
use Rattle.il_text.specs.declared.program.TimerOutput.{TimerOutput}

-- ---- IEC 61131-3 B.2.1: instructions as plain data

-- a name, or an output of the timer of that name
pub data VariableData : Type 0 where
  named : List ℕ → VariableData
  output : List ℕ → TimerOutput → VariableData

-- the operand that an instruction reads
pub data OperandData : Type 0 where
  constant : Literal → OperandData
  variable : VariableData → OperandData

-- An instruction: LD, or LDN if the flag is true; a store of some kind; an operator with its
-- operand, negated if the flag is true; NOT; a conversion; a jump to a label; a return; a call of a
-- timer with its arguments.
pub data Action : Type 0 where
  load : Bool → OperandData → Action
  store : StoreKind → VariableData → Action
  combine : Operator → Bool → OperandData → Action
  invert : Action
  convert : Conversion → Action
  jump : Condition → List ℕ → Action
  leave : Condition → Action
  call : List ℕ → List (Input × OperandData) → Action

mutual
  -- a label with its line; an instruction with its line; a parenthesis: the line of its operator,
  -- the operator, whether that is negated, its entries, and the line of its `)`
  pub data Entry : Type 0 where
    label : ℕ → List ℕ → Entry
    action : ℕ → Action → Entry
    block : ℕ → Operator → Bool → Entries → ℕ → Entry

  pub data Entries : Type 0 where
    no_entries : Entries
    entry : Entry → Entries → Entries

-- a list of entries as those of a parenthesis (own)
abbrev pub entries_of : List Entry → Entries
entries_of [] = no_entries
entries_of (e ∷ es) = entry e (entries_of es)

-- ---- IEC 61131-3 B.1.4.3, B.1.5.3: declarations and programs as plain data

-- one declared name, with its line, its type and its initial value in the text, if it has one
pub record DeclaredName : Type 0 where
  pub line : ℕ
  pub scope : VariableScope
  pub name : List ℕ
  pub kind : DeclaredType
  pub initial : Option Literal

-- a program: its name, what it declares, and its entries in the order of the text
pub record PlainProgram : Type 0 where
  pub name : List ℕ
  pub declarations : List DeclaredName
  pub items : List Entry
