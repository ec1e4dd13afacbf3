use Rattle.std.proofs.Common.{◌≡◌, ◌+◌, ◌-◌, ◌<◌, ◌≤◌, suc, sym, ◌∙◌, arith}
use Rattle.bay_io.specs.Moments.{days_in_year}
use Rattle.bay_io.proofs.MomentLemmas.{year-ends, year-goes, year-stops}
use Rattle.bay_io.proofs.moments.year_of.Goals as goal

pub loop-i-preserved : goal.loop-i-preserved
loop-i-preserved c =
    let more : 8029 - c.loop-i.i ≡ suc (8029 - (c.loop-i.i + 1)) = omega arith in
    let le : days_in_year c.loop-i.year ≤ c.loop-i.left =
    rw c.days_in_year-length.ensures at c.if-left-length.false in
    record {
      within = omega arith;
      counted = omega (arith, c.loop-i.invariant.counted);
      less = omega (arith, c.loop-i.invariant.less);
      rest =
          rw c.days_in_year-length.ensures
          (sym (year-goes _ _ _ _ more le) ∙ c.loop-i.invariant.rest);
    }

pub returns-after-loop-i-clause-value : goal.returns-after-loop-i-clause-value
returns-after-loop-i-clause-value c =
    sym (year-ends (8029 - c.loop-i.i) _ _ (omega arith)) ∙ c.loop-i.invariant.rest

pub returns-then-left-length-clause-value : goal.returns-then-left-length-clause-value
returns-then-left-length-clause-value c =
    let lt : c.loop-i.left < days_in_year c.loop-i.year =
    rw c.days_in_year-length.ensures at c.if-left-length.true in
    sym (year-stops (8029 - c.loop-i.i) _ _ lt) ∙ c.loop-i.invariant.rest
