use Rattle.std.proofs.Common.{inr}
use Rattle.std.proofs.lemmas.Result.{err_from_is_err_and}
use Rattle.il_image.proofs.ItemLemmas.{going-err, going-turn, going-end}
use Rattle.il_image.proofs.decode.items_at.Goals as goal

pub returns-in_err-item : goal.returns-in_err-item
returns-in_err-item g c =
    let p = err_from_is_err_and c.from_residual-in_err-item.result
    c.from_residual-in_err-item.ensures.1 in
    rw (p.1, p.2)
    (inr (going-err (g.T.ListItem.at c.args.version) c.args.octets.now c.in_ok-count.count
    c.items.counter c.items.items.items c.items.rest.now c.in_err-item.field-0.0
    c.items.invariant c.items-test.true c.in_err-item.ensures))

pub items-preserved : goal.items-preserved
items-preserved g c =
    going-turn (g.T.ListItem.at c.args.version) c.args.octets.now c.in_ok-count.count
    c.items.counter
    c.items.items.items c.push.new.self.items c.items.rest.now c.in_ok-item.behind.now
    c.in_ok-item.item c.items.invariant c.items-test.true c.in_ok-item.ensures
    c.in_ok-push.ensures.items

pub returns : goal.returns
returns g c =
    rw c.new.ensures (going-end (g.T.ListItem.at c.args.version) c.args.octets.now
    c.in_ok-count.count
    c.items.counter c.items.items.items c.items.rest.now c.items.invariant c.items-test.false)
