-- Inner: the state before an item, in the code.
use Rattle.il_check.specs.WellTyped.{Progress}
use Rattle.il_check.specs.declared.walk.Walk.{Walk}

-- ---- own: views of the code

-- the state of the walk over the items
abbrev pub progress_of : Walk → Progress
progress_of w = record { now = w.reach; arrivals = w.arrivals.items; passed = w.passed }
