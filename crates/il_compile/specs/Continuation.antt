-- Inner: what the compiler knows of the continuation, the items after the current one. The compiler
-- goes from the last item to the first.
use Rattle.std.specs.Prelude.{◌≡◌, ℕ, ◌+◌, ◌≤◌, List, min, reverse, Option, [], nat_eq}
use Rattle.std.specs.HashMap.{get}
use Rattle.std.specs.Option.{unwrap_or}
use Rattle.il_image.specs.Images.{Each}
use Rattle.il_image.specs.Spelling.{IsInstr}
use Rattle.il_image.specs.declared.instr.Instr.{Instr}
use Rattle.il_check.specs.Program.{Entry, operation, block, Entries, no_entries, entry, ProgramItem, label, transfer, plain}
use Rattle.il_compile.specs.declared.continuation.Continuation.{Continuation}
use Rattle.il_compile.specs.Code.{operation_code, transfer_code, octets, octets_before, items_code}
use Rattle.il_compile.specs.Compiled.{most_octets}

-- The format can represent the instructions of each operation.
abbrev mutual
  pub IsSpellableEntry : ℕ → Entry → Type 0
  IsSpellableEntry externals (operation o) = Each IsInstr (operation_code externals o)
  IsSpellableEntry externals (block operator kind negated es) = AreSpellableEntries externals es

  pub AreSpellableEntries : ℕ → Entries → Type 0
  AreSpellableEntries externals no_entries = Unit {0}
  AreSpellableEntries externals (entry e es) =
      IsSpellableEntry externals e × AreSpellableEntries externals es

-- The format can represent the instructions of the item, apart from the distance of a jump.
abbrev pub IsSpellable : ℕ → ProgramItem → Type 0
IsSpellable externals (label n) = Unit {0}
IsSpellable externals (transfer t) = Each IsInstr (transfer_code externals t 0)
IsSpellable externals (plain e) = IsSpellableEntry externals e

-- The format can represent the instructions of each item.
abbrev pub AreSpellable : ℕ → List ProgramItem → Type 0
AreSpellable externals is = Each (IsSpellable externals) is

-- For each label, `label_octets` has the number of octets from the label to the end of the items,
-- and nothing, or 0, if there is no such label.
abbrev pub KnowsLabels : ℕ → (ℕ → Option ℕ) → List ProgramItem → Type 0
KnowsLabels externals label_octets is = (l : ℕ)
    → octets_before externals l is + unwrap_or (label_octets l) 0 ≡ octets (items_code externals is)

-- the bound up to which octets are counted: one more than an image may have
abbrev pub octets_bound : ℕ
octets_bound = 65_536

-- These are the instructions of the items, the last first, and the number of their octets, counted
-- up to the bound. If there are no more octets than an image may have, the instructions are known,
-- and so is the number of octets after each label.
pub record IsContinuation (externals : ℕ) (is : List ProgramItem) (instrs : List Instr) (size : ℕ)
    (label_octets : ℕ → Option ℕ) : Type 0 where
  pub counted : size ≡ min (octets (items_code externals is)) octets_bound
  pub code : octets (items_code externals is) ≤ most_octets
      → reverse instrs ≡ items_code externals is
  pub known : octets (items_code externals is) ≤ most_octets → KnowsLabels externals label_octets is

-- No instruction is pending before the code of the continuation.
pub record HasNoPending (externals : ℕ) (is : List ProgramItem) (b : Continuation) : Type 0 where
  pub continuation : IsContinuation externals is b.instrs.items b.octets (get nat_eq b.label_octets)
  pub settled : b.pending.items ≡ []

-- These instructions are pending before the code of the continuation.
pub record HasPending (externals : ℕ) (is : List ProgramItem) (code : List Instr) (b : Continuation)
    : Type 0 where
  pub continuation : IsContinuation externals is b.instrs.items b.octets (get nat_eq b.label_octets)
  pub waits : b.pending.items ≡ code
