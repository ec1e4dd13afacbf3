use Rattle.std.proofs.Common.{◌≡◌, pos, take}
use Rattle.std.specs.Prelude.{fold}
use Rattle.bay_audit.specs.Cases.{high_after}
use Rattle.bay_audit.proofs.case.Case.high_of.Given as goal

abbrev pub invariant-loop-literal : goal.invariant-loop-literal
invariant-loop-literal l =
    l.high ≡ fold (high_after l.meter l.field) (pos 2147483647) (take l.literal-index l.fn.self)
