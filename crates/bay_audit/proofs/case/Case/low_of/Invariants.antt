use Rattle.std.proofs.Common.{◌≡◌, negsuc, take}
use Rattle.std.specs.Prelude.{fold}
use Rattle.bay_audit.specs.Cases.{low_after}
use Rattle.bay_audit.proofs.case.Case.low_of.Given as goal

abbrev pub invariant-loop-literal : goal.invariant-loop-literal
invariant-loop-literal l =
    l.low ≡ fold (low_after l.meter l.field) (negsuc 2147483647) (take l.literal-index l.fn.self)
