use Rattle.std.proofs.Common.{ap, ◌∙◌, subst}
use Rattle.std.proofs.lemmas.Result.{IfOk-weaker}
use Rattle.il_image.specs.Images.{Image}
use Rattle.il_scan.specs.Scans.{with_inputs}
use Rattle.il_range.specs.Predictions.{PredictsScans}
use Rattle.il_range.proofs.StartLemmas.{tells-given}
use Rattle.il_range.proofs.scan.scan_ranges.Goals as goal

pub returns-clause-predicts : goal.returns-clause-predicts
returns-clause-predicts c =
    IfOk-weaker c.predict.result _ _
    (λ f h. subst (λ (i : Image). PredictsScans i c.args.memory.now c.args.delays.now
    c.args.given.now
    f.delays.items f.ranges.items) c.image-image.ensures.value
    (tells-given c.image-image.result.now c.in_ok-start.start.items c.args.memory.now
    c.args.delays.now c.args.given.now f.delays.items f.ranges.items
    (c.in_ok-start.ensures
    ∙ ap (λ ps. with_inputs ps c.args.given.now c.args.memory.now) c.points.ensures.value)
    h)) c.predict.ensures.predicts
