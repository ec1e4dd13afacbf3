use Rattle.std.proofs.Common.{List, Option, None, [], ◌∷◌, ap, length, length-append, arith, ◌∙◌}
use Rattle.il_verify.specs.declared.frame.Frame.{Frame}
use Rattle.il_verify.specs.Frames.{plain_frames}
use Rattle.il_verify.proofs.MapLemmas.{one-more}
use Rattle.il_verify.proofs.frame.extend_pending.Goals as goal

pub loop-preserved : goal.loop-preserved
loop-preserved c = record {
  counted =
      omega (
        arith,
        ap length c.in_ok-push.ensures.items,
        length-append c.loop.pending.items (None ∷ []),
        c.loop.invariant.counted,
      );
  same = λ q. ap (λ (l : List (Option Frame)). plain_frames l q) c.in_ok-push.ensures.items
      ∙ one-more c.loop.pending.items q ∙ c.loop.invariant.same q;
}
