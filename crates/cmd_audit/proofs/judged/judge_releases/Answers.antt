use Rattle.std.proofs.Common.{◌∙◌, ◌++◌, ◌∷◌, [], List, ℕ, ap, ap₂, map, subst, sym}
use Rattle.std.proofs.lemmas.List.{map-append, take_more}
use Rattle.bay_base.specs.declared.switch.Operation.{Operation}
use Rattle.cmd_audit.specs.Judged.{AreJudged, judged_way}
use Rattle.cmd_audit.specs.declared.judged.JudgedRelease.{JudgedRelease}
use Rattle.cmd_audit.proofs.HazardLemmas.{judged-more}
use Rattle.cmd_audit.proofs.judged.judge_releases.Goals as goal

pub loop-way-preserved : goal.loop-way-preserved
loop-way-preserved c =
    let before = c.loop-way.releases.items in
    let one = c.in_ok-judge_release.field-0 in
    record {
      right = subst (λ (rs : List JudgedRelease). AreJudged c.args.program.now c.args.network.now
          rs) (sym c.in_ok-push.ensures.items)
          (judged-more c.args.program.now c.args.network.now before one c.loop-way.invariant.right
          c.in_ok-judge_release.ensures.right);
      all = ap (map judged_way) c.in_ok-push.ensures.items
          ∙ map-append judged_way before (one ∷ [])
          ∙ ap₂ (λ (ws : List (ℕ × Operation)) (w : ℕ × Operation). ws ++ w ∷ [])
          c.loop-way.invariant.all c.in_ok-judge_release.ensures.way
          ∙ sym (take_more c.args.ways.now c.loop-way.way-index _ c.loop-way-test.true);
    }
