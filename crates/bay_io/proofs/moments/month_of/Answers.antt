use Rattle.std.proofs.Common.{◌≡◌, ◌+◌, ◌-◌, ◌<◌, ◌≤◌, suc, sym, ◌∙◌, arith}
use Rattle.bay_io.specs.Moments.{days_in_month}
use Rattle.bay_io.proofs.MomentLemmas.{month-ends, month-goes, month-stops}
use Rattle.bay_io.proofs.moments.month_of.Goals as goal

pub loop-i-preserved : goal.loop-i-preserved
loop-i-preserved c =
    let more : 11 - c.loop-i.i ≡ suc (11 - (c.loop-i.i + 1)) = omega arith in
    let le : days_in_month c.args.year c.loop-i.month ≤ c.loop-i.left =
    rw c.days_in_month-length.ensures at c.if-left-length.false in
    record {
      within = omega arith;
      counted = omega (arith, c.loop-i.invariant.counted);
      less = omega (arith, c.loop-i.invariant.less);
      rest =
          rw c.days_in_month-length.ensures
          (sym (month-goes _ _ _ _ _ more le) ∙ c.loop-i.invariant.rest);
    }

pub returns-after-loop-i-clause-value : goal.returns-after-loop-i-clause-value
returns-after-loop-i-clause-value c =
    sym (month-ends (11 - c.loop-i.i) _ _ _ (omega arith)) ∙ c.loop-i.invariant.rest

pub returns-then-left-length-clause-value : goal.returns-then-left-length-clause-value
returns-then-left-length-clause-value c =
    let lt : c.loop-i.left < days_in_month c.args.year c.loop-i.month =
    rw c.days_in_month-length.ensures at c.if-left-length.true in
    sym (month-stops (11 - c.loop-i.i) _ _ _ lt) ∙ c.loop-i.invariant.rest
