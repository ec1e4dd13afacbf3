use Rattle.std.proofs.Common.{◌≡◌, ◌≤◌, ◌+◌, ◌*◌, drop}
use Rattle.il_image.specs.Images.{Each}
use Rattle.il_check.specs.TypedProgram.{HasName}
use Rattle.il_compile.specs.Compiled.{points_octets}
use Rattle.il_compile.proofs.compile.points_size.Given as goal

abbrev pub invariant-loop-external : goal.invariant-loop-external
invariant-loop-external l = record {
  counted : l.size + points_octets (drop l.external-index l.externals) ≡ points_octets l.externals;
  bounded : l.size ≤ 67 * l.external-index;
  names : Each HasName (drop l.external-index l.externals);
}
