use Rattle.std.proofs.Common.{List, ap, sym, ◌∙◌, ◌≡◌}
use Rattle.il_image.specs.declared.image.ImagePoint.{ImagePoint}
use Rattle.il_scan.specs.PointIndices.{are_inputs}
use Rattle.il_scan.proofs.SlotLemmas.{tested}
use Rattle.il_scan.proofs.machine.Machine.fits.Goals as goal

pub returns : goal.returns
returns c =
    let points = c.args.self.now.image.points in
    let e : c.points.result.now ≡ c.args.self.now.image.points =
    cc (c.points.ensures.value, c.image.ensures.value, c.self.view_is) in
    let r : c.are_inputs.result ≡ are_inputs points c.args.inputs.now =
    c.are_inputs.ensures ∙ ap (λ (ps : List ImagePoint). are_inputs ps c.args.inputs.now) e in
    let t = tested points c.args.inputs.now in
    (λ h. t.0 (sym r ∙ h), λ h. r ∙ t.1 h)
