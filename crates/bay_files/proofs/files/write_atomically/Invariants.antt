use Rattle.std.proofs.Common.{◌-◌}
use Rattle.bay_files.proofs.WriteLemmas.{Tried}
use Rattle.bay_files.proofs.files.write_atomically.Given as goal

abbrev pub invariant-loop-number : goal.invariant-loop-number
invariant-loop-number g l =
    Tried g.F.FileSystem.writes l.name l.octets l.initial.files (100 - l.number) l.number l.files
