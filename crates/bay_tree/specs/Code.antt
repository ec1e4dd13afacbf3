-- The number of each fault.
use Rattle.std.specs.Prelude.{ℕ, Option, Some, None}
use Rattle.bay_tree.specs.declared.fault.TreeFault.{TreeFault}
use Rattle.bay_tree.specs.declared.fault.TreeFault.TheVariants.{NoSuchName, WrongType}
use Rattle.bay_tree.specs.declared.fault.NamesFault.{NamesFault}
use Rattle.bay_tree.specs.declared.fault.NamesFault.TheVariants as names

-- the number of a fault of a look-up or a write, as documents and tools cite it
abbrev pub code_of : TreeFault → ℕ
code_of NoSuchName = 40
code_of WrongType = 41

-- the number of a fault of names; out of memory has none
abbrev pub names_code_of : NamesFault → Option ℕ
names_code_of names.NoSuchName = Some 40
names_code_of names.OutOfMemory = None
