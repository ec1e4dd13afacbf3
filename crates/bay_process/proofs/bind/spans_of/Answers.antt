use Rattle.bay_process.specs.Scans.{HasPoints}
use Rattle.bay_process.proofs.ListLemmas.{each-snoc, length-snoc}
use Rattle.bay_process.proofs.bind.spans_of.Goals as goal

pub loop-switch-preserved : goal.loop-switch-preserved
loop-switch-preserved c =
    let items = c.loop-switch.spans.items in
    rw c.in_ok-push.ensures.items record {
      sized = length-snoc items _ c.loop-switch.switch c.loop-switch.invariant.sized;
      spanned = each-snoc (λ k. HasPoints c.args.reads.now k) items _
          c.loop-switch.invariant.spanned
          (rw c.loop-switch.invariant.sized c.span_of.ensures);
    }
