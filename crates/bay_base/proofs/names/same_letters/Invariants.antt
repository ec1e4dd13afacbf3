use Rattle.std.proofs.Common.{◌≡◌, drop}
use Rattle.bay_base.specs.Names.{same_name}
use Rattle.bay_base.proofs.names.same_letters.Given as goal

abbrev pub invariant-loop-i : goal.invariant-loop-i
invariant-loop-i l = same_name l.fn.a l.fn.b ≡ same_name (drop l.i l.fn.a) (drop l.i l.fn.b)
