use Rattle.std.proofs.Common.{◌≡◌, ◌++◌, ◌∷◌, [], List, map, sym, ap, ◌∙◌, subst}
use Rattle.bay_audit.specs.Rules.{AreReleases, direction_of}
use Rattle.bay_audit.specs.declared.answer.Release.{Release}
use Rattle.bay_audit.proofs.ReleaseLemmas.{releases-more, ways-more}
use Rattle.bay_audit.proofs.release.find_releases.Goals as goal

pub loop-switch-preserved : goal.loop-switch-preserved
loop-switch-preserved c =
    let g = c.args.program.now in
    let before = c.loop-switch.releases.items in
    let a = c.in_ok-find_release.field-0 in
    let b = c.in_ok-find_release-2.field-0 in
    let items : c.push-in-loop-switch.new.self.items ≡ (before ++ a ∷ []) ++ b ∷ [] =
    c.in_ok-push-2.ensures.items
    ∙ ap (λ (rs : List Release). rs ++ b ∷ []) c.in_ok-push.ensures.items in
    record {
      right = subst (AreReleases c.args.bay.now g) (sym items)
          (releases-more c.args.bay.now g (before ++ a ∷ []) b
          (releases-more c.args.bay.now g before a c.loop-switch.invariant.right
          c.in_ok-find_release.ensures.right)
          c.in_ok-find_release-2.ensures.right);
      all = ap (map direction_of) items
          ∙ ways-more before a b c.loop-switch.switch c.loop-switch.invariant.all
          c.in_ok-find_release.ensures.way c.in_ok-find_release-2.ensures.way;
    }
