-- A name means the declaration of that name, at its own index.
use Rattle.std.specs.Prelude.{◌≡◌, ℕ, true, List, slice_get, Some}
use Rattle.bay_base.specs.Names.{upper}
use Rattle.il_text.specs.Listing as text
use Rattle.il_image.specs.Values.{type_of}
use Rattle.il_check.specs.Declaring.{labels_from}
use Rattle.il_check.specs.SourceOperands.{ProgramNames}
use Rattle.il_check.specs.Program.{Checked}
use Rattle.il_check.specs.declared.source_operand.Meaning.{Meaning}
use Rattle.il_check.specs.declared.source_operand.Meaning.TheVariants as meaning
use Rattle.il_check.specs.declared.typed.External.{External}
use Rattle.il_check.specs.declared.typed.Slot.TheVariants as slot
use Rattle.il_check.specs.declared.typed.Timer.{Timer}
use Rattle.il_check.specs.declared.typed.Variable.{Variable}

-- ---- own: meanings of names

-- The index in the meaning is that of an external, variable or timer with this name in upper case.
abbrev pub IsOwnDeclaration : Checked → List ℕ → Meaning → Type 0
IsOwnDeclaration c name (meaning.Variable (slot.External n) kind writable) =
    (e : External) × (slice_get c.externals n ≡ Some e) × (e.name ≡ name) × (e.kind ≡ kind)
    × (e.writable ≡ writable)
IsOwnDeclaration c name (meaning.Variable (slot.Variable n) kind writable) =
    (v : Variable) × (slice_get c.variables n ≡ Some v) × (v.name ≡ name)
    × (type_of v.initial ≡ kind) × (writable ≡ true)
IsOwnDeclaration c name (meaning.Timer n) =
    (t : Timer) × (slice_get c.timers n ≡ Some t) × (t.name ≡ name)

-- A name means something that is declared by that name; and the name of each external, variable and
-- timer means this one, at its index. The name of a label means the number of the label of that
-- name.
pub record MeanOwnDeclarations (names : ProgramNames) (c : Checked) (items : List text.Entry)
    : Type 0 where
  pub own : (name : List ℕ) (m : Meaning) → names.meaning name ≡ Some m
      → IsOwnDeclaration c (upper name) m
  pub externals : (n : ℕ) (e : External) → slice_get c.externals n ≡ Some e
      → names.meaning e.name ≡ Some (meaning.Variable (slot.External n) e.kind e.writable)
  pub variables : (n : ℕ) (v : Variable) → slice_get c.variables n ≡ Some v
      → names.meaning v.name ≡ Some (meaning.Variable (slot.Variable n) (type_of v.initial) true)
  pub timers : (n : ℕ) (t : Timer) → slice_get c.timers n ≡ Some t
      → names.meaning t.name ≡ Some (meaning.Timer n)
  pub labels : (name : List ℕ) (n : ℕ) → names.label name ≡ Some n
      → slice_get (labels_from 0 items) n ≡ Some (upper name, n)
