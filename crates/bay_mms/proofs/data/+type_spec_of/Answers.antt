use Rattle.std.proofs.Common.{sym}
use Rattle.bay_mms.specs.Views.{type_of, components_in}
use Rattle.bay_mms.proofs.DataLemmas.{types-first, types-then, types-all}
use Rattle.bay_mms.proofs.data.+type_spec_of.Goals as goal

pub loop-next-init : goal.loop-next-init
loop-next-init t c =
    rw c.new-parts.ensures.items
    (types-first c.args.tree.now c.args.handle c.below-next.result c.below-next.ensures.first
    c.below-next.ensures.after)

pub loop-next-preserved : goal.loop-next-preserved
loop-next-preserved t c =
    types-then c.args.tree.now c.args.handle c.in-Some-next.part
    (components_in c.loop-next.parts.items) (components_in c.push_component.new.parts.items)
    c.word.result.now (type_of c.in_ok-found-in-None.found) c.beside-next.result
    (rw c.in-Some-next.is at c.loop-next.invariant) c.word.ensures.word
    c.in_ok-found-in-None.ensures c.in_ok-push_component-in-None.ensures
    c.beside-next.ensures.next c.beside-next.ensures.after

pub returns-in_default : goal.returns-in_default
returns-in_default t c =
    types-all c.args.tree.now c.args.handle c.loop-next.parts (sym c.in-None.ensures.value)
    (rw c.in_default.is at c.loop-next.invariant)
