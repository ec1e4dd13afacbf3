use Rattle.std.proofs.Common.{◌≡◌, ℕ, List, length, refl, ap, arith}
use Rattle.bay_base.specs.declared.types.ElementaryType.{ElementaryType}
use Rattle.il_scan.specs.PointIndices.{read_indices}
use Rattle.il_scan.specs.Scans.{MachineData}
use Rattle.il_scan.proofs.HoldLemmas.{all-held}
use Rattle.il_scan.proofs.PlaceLemmas.{so-many-types}
use Rattle.il_scan.proofs.machine.Machine.scan_points.Goals as goal

pub scan_changed-requires-clause-hold : goal.scan_changed-requires-clause-hold
scan_changed-requires-clause-hold g c =
    let held = c.args.self.now in
    let inputs = g.I.Inputs.values c.args.inputs.now in
    let sized : length inputs ≡ length (g.I.Inputs.types c.args.inputs.now) =
    g.met.I.Inputs.sized c.args.inputs.now in
    let typed = ap (λ (ts : List ElementaryType). length ts) c.requires in
    let many = so-many-types 0 held.image.points in
    let read = ap (λ (ns : List ℕ). length ns) c.self.invariant.read in
    let image : length (read_indices 0 c.self.inside.verified.points)
    ≡ length (read_indices 0 held.image.points) =
    ap (λ (h : MachineData). length (read_indices 0 h.image.points)) c.self.view_is in
    all-held _ inputs _ refl (omega (arith, sized, typed, many, read, image, c.len.ensures))
