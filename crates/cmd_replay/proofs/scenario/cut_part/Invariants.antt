use Rattle.std.proofs.Common.{length}
use Rattle.cmd_replay.proofs.PartLemmas.{PartSoFar}
use Rattle.cmd_replay.proofs.scenario.cut_part.Given as goal

abbrev pub invariant-loop-rest : goal.invariant-loop-rest
invariant-loop-rest l = PartSoFar l.text l.rest l.taken

abbrev pub decreases-loop-rest : goal.decreases-loop-rest
decreases-loop-rest l = length l.rest
