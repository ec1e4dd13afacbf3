use Rattle.std.proofs.Common.{◌≡◌, map, take}
use Rattle.cmd_audit.specs.Judged.{AreJudged, judged_way}
use Rattle.cmd_audit.proofs.judged.judge_releases.Given as goal

abbrev pub invariant-loop-way : goal.invariant-loop-way
invariant-loop-way l = record {
  right : AreJudged l.program l.network l.releases.items;
  all : map judged_way l.releases.items ≡ take l.way-index l.ways;
}
