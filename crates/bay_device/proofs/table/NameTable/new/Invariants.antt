use Rattle.std.proofs.Common.{map}
use Rattle.bay_device.proofs.TableLemmas.{Tabled}
use Rattle.bay_device.proofs.table.NameTable.new.Given as goal

abbrev pub invariant-loop-index : goal.invariant-loop-index
invariant-loop-index g l = Tabled (map g.T.Named.name l.items) l.index l.table.firsts
