use Rattle.bay_mms.specs.Views.{datum_of, data_in}
use Rattle.bay_mms.proofs.DataLemmas.{found-first, found-more}
use Rattle.bay_mms.proofs.data.+data_of.Goals as goal

pub loop-next-init : goal.loop-next-init
loop-next-init t c =
    rw c.new-parts.ensures.items
    (found-first c.args.tree.now c.args.handle c.below-next.result c.below-next.ensures.first
    c.below-next.ensures.after)

pub loop-next-preserved : goal.loop-next-preserved
loop-next-preserved t c =
    found-more c.args.tree.now c.args.handle c.in-Some-next.part (data_in c.loop-next.parts.items)
    (data_in c.push_data.new.parts.items) (datum_of c.in_ok-found-in-None.found)
    c.beside-next.result (rw c.in-Some-next.is at c.loop-next.invariant)
    c.in_ok-found-in-None.ensures c.in_ok-push_data-in-None.ensures c.beside-next.ensures.next
    c.beside-next.ensures.after
