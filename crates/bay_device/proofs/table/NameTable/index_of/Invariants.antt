use Rattle.bay_base.specs.Names.{same_name}
use Rattle.bay_device.proofs.TableLemmas.{Passed}
use Rattle.bay_device.proofs.table.NameTable.index_of.Given as goal

abbrev pub invariant-loop-index : goal.invariant-loop-index
invariant-loop-index g l = Passed (λ item. same_name (g.T.Named.name item) l.name) l.index l.items
