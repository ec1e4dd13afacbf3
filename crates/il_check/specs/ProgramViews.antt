-- Checked programs of the code as plain data.
use Rattle.std.specs.Prelude.{map}
use Rattle.il_check.specs.Contents.{Contents}
use Rattle.il_check.specs.Program as plain
use Rattle.il_check.specs.declared.typed.TypedEntry.{TypedEntry, fold-TypedEntry}
use Rattle.il_check.specs.declared.typed.TypedEntry.TheOpen.{TypedEntry-F}
use Rattle.il_check.specs.declared.typed.TypedItem.{TypedItem}
use Rattle.il_check.specs.declared.typed.TypedItem.TheVariants.{Label, Transfer, Entry}

-- ---- own: views of the code

-- an entry, given the entries in it as plain data
abbrev pub entry_step : TypedEntry-F plain.Entry → plain.Entry
entry_step (TypedEntry-F.Operation o) = plain.operation o
entry_step (TypedEntry-F.Block operator kind negated entries) =
    plain.block operator kind negated (plain.entries_of entries.items)

-- an entry, with the entries in it
abbrev pub entry_view : TypedEntry → plain.Entry
entry_view = fold-TypedEntry plain.Entry entry_step

-- an item
abbrev pub item_view : TypedItem → plain.ProgramItem
item_view (Label number) = plain.label number
item_view (Transfer t) = plain.transfer t
item_view (Entry e) = plain.plain (entry_view e)

-- a checked program
abbrev pub checked_view : Contents → plain.Checked
checked_view c =
    record {
      externals = c.externals;
      variables = c.variables;
      timers = c.timers;
      items = map item_view c.items;
    }
