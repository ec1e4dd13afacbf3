use Rattle.std.proofs.Common.{◌-◌, List, drop, map, sym, subst, arith}
use Rattle.il_image.specs.Images.{Each}
use Rattle.il_check.specs.ProgramViews.{item_view}
use Rattle.il_check.specs.declared.typed.TypedItem.{TypedItem}
use Rattle.il_compile.specs.Continuation.{HasNoPending, IsSpellable}
use Rattle.il_compile.proofs.ContinuationLemmas.{one-back, each-drop, bounded, none-left}
use Rattle.il_compile.proofs.continuation.compile_all.Goals as goal

pub put_item-requires-clause-spellable : goal.put_item-requires-clause-spellable
put_item-requires-clause-spellable c =
    let items : List TypedItem = c.args.items.now in
    let e = one-back items c.loop-at.at c.index-items-at.result c.loop-at-test.true
    c.loop-at.invariant.within c.index-items-at.is in
    let each =
    each-drop (IsSpellable c.args.externals) item_view (c.loop-at.at - 1) items c.requires in
    (subst (λ (l : List TypedItem). Each (IsSpellable c.args.externals) (map item_view l)) e each).0

pub put_item-requires-clause-bounded : goal.put_item-requires-clause-bounded
put_item-requires-clause-bounded c =
    bounded c.args.externals (map item_view (drop c.loop-at.at c.args.items.now))
    c.loop-at.continuation
    c.loop-at.invariant.settled

pub loop-at-preserved : goal.loop-at-preserved
loop-at-preserved c =
    let items : List TypedItem = c.args.items.now in
    let within = c.loop-at.invariant.within in
    let e = one-back items c.loop-at.at c.index-items-at.result c.loop-at-test.true within
    c.index-items-at.is in
    let put =
    c.in_ok-put_item.ensures (map item_view (drop c.loop-at.at items))
    c.loop-at.invariant.settled in
    record {
      within = omega arith;
      settled = subst (λ (l : List TypedItem). HasNoPending c.args.externals (map item_view l)
          c.put_item.new.self) (sym e) put;
    }

pub loop-at-init : goal.loop-at-init
loop-at-init c =
    record {
      within = omega arith;
      settled =
          subst (λ (l : List TypedItem). HasNoPending c.args.externals (map item_view l)
          c.new-continuation.result) (sym (none-left c.args.items.now))
          (c.new-continuation.ensures c.args.externals);
    }
