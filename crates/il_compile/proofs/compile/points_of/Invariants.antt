use Rattle.std.proofs.Common.{◌≡◌, ◌++◌, drop, map}
use Rattle.il_compile.specs.Compiled.{point_of}
use Rattle.il_compile.proofs.compile.points_of.Given as goal

abbrev pub invariant-loop-external : goal.invariant-loop-external
invariant-loop-external l =
    l.points.items ++ map point_of (drop l.external-index l.externals) ≡ map point_of l.externals
