use Rattle.std.proofs.Common.{◌≡◌, ◌++◌, drop}
use Rattle.bay_process.specs.Sources.{sources_of}
use Rattle.bay_process.proofs.bind.sources_of.Given as goal

abbrev pub invariant-loop-point : goal.invariant-loop-point
invariant-loop-point l =
    sources_of l.writable l.bay l.points
    ≡ l.sources.items ++ sources_of l.writable l.bay (drop l.point-index l.points)
