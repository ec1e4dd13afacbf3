use Rattle.std.proofs.Common.{◌≡◌, map}
use Rattle.bay_audit.specs.Rules.{AreReleases, direction_of, directions}
use Rattle.bay_audit.proofs.release.find_releases.Given as goal

abbrev pub invariant-loop-switch : goal.invariant-loop-switch
invariant-loop-switch l = record {
  right : AreReleases l.bay l.program
      l.releases.items;
  all : map direction_of l.releases.items ≡ directions l.switch;
}
