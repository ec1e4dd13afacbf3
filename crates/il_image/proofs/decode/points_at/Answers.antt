use Rattle.std.proofs.Common.{inl, inr}
use Rattle.std.proofs.lemmas.Result.{err_from_is_err_and}
use Rattle.il_image.specs.Decoding.{point_at}
use Rattle.il_image.proofs.ItemLemmas.{going-err, going-turn, going-end}
use Rattle.il_image.proofs.decode.points_at.Goals as goal

pub returns-in_err-point-clause-read : goal.returns-in_err-point-clause-read
returns-in_err-point-clause-read c =
    let p = err_from_is_err_and c.from_residual-in_err-point.result
    c.from_residual-in_err-point.ensures.1 in
    rw (p.1, p.2) (elim c.in_err-point.ensures [
      | inl m ↦ inl m
      | inr read ↦ inr (going-err (point_at c.args.version) c.args.octets.now c.in_ok-count.count
          c.items.counter c.items.points.items c.items.rest.now c.in_err-point.field-0.0
          c.items.invariant c.items-test.true read)
    ])

pub items-preserved : goal.items-preserved
items-preserved c =
    going-turn (point_at c.args.version) c.args.octets.now c.in_ok-count.count c.items.counter
    c.items.points.items c.push.new.self.items c.items.rest.now c.in_ok-point.behind.now
    c.in_ok-point.point c.items.invariant c.items-test.true c.in_ok-point.ensures
    c.in_ok-push.ensures.items

pub returns-clause-read : goal.returns-clause-read
returns-clause-read c =
    rw c.new.ensures (going-end (point_at c.args.version) c.args.octets.now c.in_ok-count.count
    c.items.counter c.items.points.items c.items.rest.now c.items.invariant c.items-test.false)
