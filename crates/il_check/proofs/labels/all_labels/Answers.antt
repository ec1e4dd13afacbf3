use Rattle.std.proofs.Common.{rules}
use Rattle.il_check.proofs.LabelLemmas.{labels-none, labels-more, labels-all}
use Rattle.il_check.proofs.labels.all_labels.Goals as goal

pub loop-item-init : goal.loop-item-init
loop-item-init c = labels-none c.args.items.now _ (search rules) c.new-2.ensures.items

pub loop-item-preserved : goal.loop-item-preserved
loop-item-preserved c =
    labels-more c.args.items.now c.loop-item.item-index c.item-item.result c.loop-item.labels
    c.add_item.new.self c.loop-item-test.true c.item-item.is
    c.loop-item.invariant c.in_ok-add_item.ensures

pub returns-clause-ok : goal.returns-clause-ok
returns-clause-ok c =
    labels-all c.args.items.now c.loop-item.item-index c.loop-item.labels c.loop-item-test.false
    c.loop-item.invariant
