use Rattle.std.proofs.Common.{refl, arith}
use Rattle.il_compile.proofs.EntryLemmas.{operation-spellable, operation-coded, entries-spellable, next-spellable, next-coded, block-coded}
use Rattle.il_compile.proofs.emit.+put_entry.Goals as goal

pub put_operation-requires : goal.put_operation-requires
put_operation-requires t c =
    operation-spellable c.args.externals c.in-Operation.operation c.args.entry.now c.in-Operation.is
    c.requires

pub returns-in-Operation : goal.returns-in-Operation
returns-in-Operation t c =
    rw (operation-coded c.args.externals c.in-Operation.operation c.args.entry.now
    c.in-Operation.is) c.put_operation.ensures

pub loop-inner-init : goal.loop-inner-init
loop-inner-init t c = record {
  rest = refl;
  spellable =
      entries-spellable c.args.externals c.in-Block.operator c.in-Block.kind c.in-Block.negated
      c.in-Block.entries c.args.entry.now c.deref-inner-items.result.now c.in-Block.is
      c.deref-inner-items.ensures.value c.requires;
}

pub loop-inner-preserved : goal.loop-inner-preserved
loop-inner-preserved t c = record {
  rest = next-coded c.args.externals c.deref-inner-items.result.now c.loop-inner.inner-index
      c.inner-item.result c.loop-inner.code.items c.put_entry.new.code.items _
      c.loop-inner-test.true c.inner-item.is
      c.in_ok-put_entry-in-Block.ensures c.loop-inner.invariant.rest;
  spellable =
      (next-spellable c.args.externals c.deref-inner-items.result.now c.loop-inner.inner-index
      c.inner-item.result c.loop-inner-test.true c.inner-item.is
      c.loop-inner.invariant.spellable).1;
}

pub returns-after-loop-inner : goal.returns-after-loop-inner
returns-after-loop-inner t c =
    block-coded c.put_operator.result c.args.externals c.in-Block.operator c.in-Block.kind
    c.in-Block.negated c.in-Block.entries c.args.entry.now c.deref-inner-items.result.now
    c.loop-inner.inner-index
    c.args.code.now.items _ c.loop-inner.code.items c.put_operator.new.code.items c.in-Block.is
    c.deref-inner-items.ensures.value c.loop-inner-test.false (grind arith)
    c.loop-inner.invariant.rest
    c.put_operator.ensures
