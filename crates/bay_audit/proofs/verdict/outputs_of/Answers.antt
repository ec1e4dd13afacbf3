use Rattle.std.proofs.Common.{ap, ◌∙◌, arith}
use Rattle.std.proofs.lemmas.Option.{slice_get-get_or}
use Rattle.bay_audit.proofs.ListLemmas.{output-less, output-more}
use Rattle.bay_audit.proofs.verdict.outputs_of.Goals as goal
use Rattle.bay_audit.proofs.verdict.outputs_of.Goals.{then-point+in_ok-push, else-point}

pub loop-slot-preserved : goal.loop-slot-preserved
loop-slot-preserved c =
    elim c.if-point.branch [
      | then-point+in_ok-push w ↦
          output-more c.args.points.now c.args.ranges.now c.loop-slot.slot
          c.index-points-slot.result
          c.loop-slot.outputs.items c.if-point.outputs.items c.index-points-slot.is
          c.loop-slot-test.true _
          (slice_get-get_or c.args.ranges.now c.loop-slot.slot _
          (omega (arith, c.requires, c.loop-slot-test.true)))
          w.if-point.true c.loop-slot.invariant
          (ap (λ v. v.items) w.outputs-is ∙ w.in_ok-push.ensures.items)
      | else-point w ↦
          output-less c.args.points.now c.args.ranges.now c.loop-slot.slot
          c.index-points-slot.result
          c.loop-slot.outputs.items c.if-point.outputs.items c.index-points-slot.is
          c.loop-slot-test.true w.if-point.false c.loop-slot.invariant
          (ap (λ v. v.items) w.outputs-is)
    ]
