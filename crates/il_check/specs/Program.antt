-- A checked program as plain data.
use Rattle.std.specs.Prelude.{ℕ, Bool, List, [], ◌∷◌, Option, Some, None}
use Rattle.bay_base.specs.declared.types.ElementaryType.{ElementaryType}
use Rattle.il_text.specs.declared.program.Operator.{Operator}
use Rattle.il_check.specs.declared.typed.External.{External}
use Rattle.il_check.specs.declared.typed.Variable.{Variable}
use Rattle.il_check.specs.declared.typed.Timer.{Timer}
use Rattle.il_check.specs.declared.typed.SimpleOperation.{SimpleOperation}
use Rattle.il_check.specs.declared.typed.Transfer.{Transfer}

-- ---- own: a checked program as plain data

mutual
  -- an operation; or a parenthesis: its operator, the type of both sides, whether it is negated,
  -- and its entries
  pub data Entry : Type 0 where
    operation : SimpleOperation → Entry
    block : Operator → ElementaryType → Bool → Entries → Entry

  -- the entries in a parenthesis, in their order
  pub data Entries : Type 0 where
    no_entries : Entries
    entry : Entry → Entries → Entries

-- a label by its number; a jump, a return or a call; an entry
pub data ProgramItem : Type 0 where
  label : ℕ → ProgramItem
  transfer : Transfer → ProgramItem
  plain : Entry → ProgramItem

-- externals, variables and timers in the order of their declarations, and the items in that of the
-- text
pub record Checked : Type 0 where
  pub externals : List External
  pub variables : List Variable
  pub timers : List Timer
  pub items : List ProgramItem

-- a list of entries as those of a parenthesis
abbrev pub entries_of : List Entry → Entries
entries_of [] = no_entries
entries_of (e ∷ es) = entry e (entries_of es)

-- an entry before others, if there is one
abbrev pub entry_before : Option Entry → Entries → Entries
entry_before None es = es
entry_before (Some e) es = entry e es
