use Rattle.std.proofs.Common.{◌∙◌, [], ◌∷◌, ◌++◌, refl, sym}
use Rattle.bay_ber.specs.EncoderBuffers.{buffer_with}
use Rattle.bay_ber.specs.Writing.{element}
use Rattle.bay_ber.proofs.SheetLemmas.{put-put, put-twice, open-value, long-value, is_open-put}
use Rattle.bay_tree.specs.Names.{word_of}
use Rattle.bay_tree.specs.Rows.{name_at}
use Rattle.bay_ber.specs.Tags.{context, constructed, sequence}
use Rattle.bay_mms.specs.Types.{type_text}
use Rattle.bay_mms.specs.Nodes.{type_at}
use Rattle.bay_mms.proofs.NodeLemmas.{nodes_types_text, component_text, parts_at, written-first, written-more, written-end, structure-type}
use Rattle.bay_mms.proofs.value.+write_type.Goals as goal

pub loop-next-init : goal.loop-next-init
loop-next-init t c =
    written-first c.args.tree.now c.args.handle nodes_types_text 0xA1
    (buffer_with c.args.writer.now (0xA2 ∷ 0 ∷ [])) _ c.below-next.result
    (rw (
      c.context_constructed-in-None.ensures,
      c.open-structure.ensures.tag,
      c.context_constructed.ensures,
    ) at c.open-components.ensures.tag)
    c.below-next.ensures.first c.below-next.ensures.after

pub close-requires : goal.close-requires
close-requires t c =
    open-value c.text.new.self _ _ (constructed 1) c.open-inner.result
    (type_text (type_at c.args.tree.now c.in-Some-next.part)) c.open-inner.ensures.start
    (rw c.context_constructed-in-Some-next.ensures at c.open-inner.ensures.tag) c.write_type.ensures

pub close-requires-in-Some-next : goal.close-requires-in-Some-next
close-requires-in-Some-next t c =
    let rows = c.args.tree.now in
    let part = c.in-Some-next.part in
    let name = element (context 0) (word_of (name_at rows part)) in
    let type = type_text (type_at rows part) in
    open-value c.loop-next.writer _ _ sequence c.open-component.result
    (name ++ element (constructed 1) type) c.open-component.ensures.start
    (rw c.sequence.ensures at c.open-component.ensures.tag)
    (put-twice c.open-component.new.self c.text.new.self _ name (element (constructed 1) type)
    (rw (c.context.ensures, c.word.ensures.word) at c.text.ensures)
    (long-value c.text.new.self _ _ _ (constructed 1) c.open-inner.result type
    c.open-inner.ensures.start
    (rw c.context_constructed-in-Some-next.ensures at c.open-inner.ensures.tag) c.write_type.ensures
    c.close.ensures))

pub loop-next-preserved : goal.loop-next-preserved
loop-next-preserved t c =
    let rows = c.args.tree.now in
    let part = c.in-Some-next.part in
    let name = element (context 0) (word_of (name_at rows part)) in
    let type = type_text (type_at rows part) in
    written-more rows c.args.handle part nodes_types_text 0xA1
    (buffer_with c.args.writer.now (0xA2 ∷ 0 ∷ [])) c.loop-next.writer _ (component_text rows part)
    c.beside-next.result refl (rw c.in-Some-next.is at c.loop-next.invariant)
    (long-value c.loop-next.writer _ _ _ sequence c.open-component.result
    (name ++ element (constructed 1) type) c.open-component.ensures.start
    (rw c.sequence.ensures at c.open-component.ensures.tag)
    (put-twice c.open-component.new.self c.text.new.self _ name (element (constructed 1) type)
    (rw (c.context.ensures, c.word.ensures.word) at c.text.ensures)
    (long-value c.text.new.self _ _ _ (constructed 1) c.open-inner.result type
    c.open-inner.ensures.start
    (rw c.context_constructed-in-Some-next.ensures at c.open-inner.ensures.tag) c.write_type.ensures
    c.close.ensures))
    c.close-in-Some-next.ensures)
    c.beside-next.ensures.next c.beside-next.ensures.after

pub close-requires-in-None : goal.close-requires-in-None
close-requires-in-None t c =
    let front = buffer_with c.args.writer.now (0xA2 ∷ 0 ∷ []) in
    let parts = nodes_types_text (parts_at c.args.tree.now c.args.handle) in
    rw (written-end c.args.tree.now c.args.handle nodes_types_text 0xA1 front c.loop-next.writer
    refl (rw c.in_default.is at c.loop-next.invariant))
    (is_open-put front c.open-components.result 0xA1 parts
    (rw (c.open-structure.ensures.tag, c.context_constructed.ensures) at
    c.open-components.ensures.start))

pub close-requires-in-None-2 : goal.close-requires-in-None-2
close-requires-in-None-2 t c =
    let front = buffer_with c.args.writer.now (0xA2 ∷ 0 ∷ []) in
    let parts = nodes_types_text (parts_at c.args.tree.now c.args.handle) in
    open-value c.args.writer.now front _ (constructed 2) c.open-structure.result
    (element (constructed 1) parts) c.open-structure.ensures.start refl
    (long-value front (buffer_with front (0xA1 ∷ 0 ∷ [])) c.loop-next.writer _ (constructed 1)
    c.open-components.result parts
    (rw (c.open-structure.ensures.tag, c.context_constructed.ensures) at
    c.open-components.ensures.start) refl
    (written-end c.args.tree.now c.args.handle nodes_types_text 0xA1 front c.loop-next.writer
    refl (rw c.in_default.is at c.loop-next.invariant)
    ∙ sym (put-put front (0xA1 ∷ 0 ∷ []) parts)) c.close-in-None.ensures)

pub returns-in_default : goal.returns-in_default
returns-in_default t c =
    let front = buffer_with c.args.writer.now (0xA2 ∷ 0 ∷ []) in
    let parts = nodes_types_text (parts_at c.args.tree.now c.args.handle) in
    rw (structure-type c.args.tree.now c.args.handle (sym c.in-None.ensures.value))
    (long-value c.args.writer.now front c.close-in-None.new.self _ (constructed 2)
    c.open-structure.result (element (constructed 1) parts) c.open-structure.ensures.start refl
    (long-value front (buffer_with front (0xA1 ∷ 0 ∷ [])) c.loop-next.writer _ (constructed 1)
    c.open-components.result parts
    (rw (c.open-structure.ensures.tag, c.context_constructed.ensures) at
    c.open-components.ensures.start) refl
    (written-end c.args.tree.now c.args.handle nodes_types_text 0xA1 front c.loop-next.writer
    refl (rw c.in_default.is at c.loop-next.invariant)
    ∙ sym (put-put front (0xA1 ∷ 0 ∷ []) parts)) c.close-in-None.ensures)
    c.close-in-None-2.ensures)
