use Rattle.std.proofs.Common.{◌∙◌, refl, sym}
use Rattle.bay_ber.proofs.SheetLemmas.{is_open-put, closed-put, element-tagged}
use Rattle.bay_mms.specs.Data.{datum_text}
use Rattle.bay_ber.specs.Tags.{constructed}
use Rattle.bay_mms.specs.Nodes.{data_at}
use Rattle.bay_mms.proofs.NodeLemmas.{nodes_text, parts_at, written-first, written-more, written-end, structure-at}
use Rattle.bay_mms.proofs.value.+write_value.Goals as goal

pub loop-next-init : goal.loop-next-init
loop-next-init t c =
    written-first c.args.seen.now c.args.handle nodes_text 0xA2 c.args.writer.now _
    c.below-next.result (rw c.context_constructed.ensures at c.open-start.ensures.tag)
    c.below-next.ensures.first c.below-next.ensures.after

pub loop-next-preserved : goal.loop-next-preserved
loop-next-preserved t c =
    written-more c.args.seen.now c.args.handle c.in-Some-next.part nodes_text 0xA2
    c.args.writer.now c.loop-next.writer _
    (datum_text (data_at c.args.seen.now c.in-Some-next.part)) c.beside-next.result refl
    (rw c.in-Some-next.is at c.loop-next.invariant) c.write_value.ensures
    c.beside-next.ensures.next c.beside-next.ensures.after

pub close-requires : goal.close-requires
close-requires t c =
    let parts = nodes_text (parts_at c.args.seen.now c.args.handle) in
    rw (written-end c.args.seen.now c.args.handle nodes_text 0xA2 c.args.writer.now
    c.loop-next.writer refl (rw c.in_default.is at c.loop-next.invariant))
    (is_open-put c.args.writer.now c.open-start.result 0xA2 parts c.open-start.ensures.start)

pub returns-in_default : goal.returns-in_default
returns-in_default t c =
    let parts = nodes_text (parts_at c.args.seen.now c.args.handle) in
    c.close.ensures
    ∙ rw (
      written-end c.args.seen.now c.args.handle nodes_text 0xA2 c.args.writer.now
          c.loop-next.writer refl (rw c.in_default.is at c.loop-next.invariant),
      structure-at c.args.seen.now c.args.handle (sym c.in-None.ensures),
      element-tagged (constructed 2) parts,
    )
    (closed-put c.args.writer.now c.open-start.result 0xA2 parts c.open-start.ensures.start)
