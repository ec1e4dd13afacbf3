use Rattle.std.proofs.Common.{map}
use Rattle.il_scan.specs.Scans.{read_only, type_of_point}
use Rattle.il_scan.proofs.PlaceLemmas.{are-values, types_of}
use Rattle.bay_audit.proofs.early.scan_once.Goals as goal

pub invariant_of-scan_points : goal.invariant_of-scan_points
invariant_of-scan_points c =
    record {
      are = are-values (map type_of_point (read_only c.args.machine.now.image.points))
          c.args.inputs.now c.requires;
    }

pub scan_points-requires : goal.scan_points-requires
scan_points-requires c =
    types_of (map type_of_point (read_only c.args.machine.now.image.points)) c.args.inputs.now
    c.requires
