use Rattle.std.proofs.Common.{◌≡◌, ◌+◌, List, ℕ, length, map, rules, subst, sym, ap, ◌∙◌}
use Rattle.std.proofs.lemmas.Result.{IfOk-weaker}
use Rattle.il_range.specs.declared.timer.KnownTimer.{KnownTimer}
use Rattle.il_range.specs.declared.delay.KnownDelay.{KnownDelay}
use Rattle.il_range.specs.declared.range.Range.{Range}
use Rattle.il_range.specs.Outcomes.{PredictsRun, PredictsReached}
use Rattle.il_range.specs.Starts.{known_of_kinds}
use Rattle.il_range.proofs.StartLemmas.{pass-tells}
use Rattle.il_range.proofs.scan.predict.Goals as goal

pub returns-in-Ok-clause-size : goal.returns-in-Ok-clause-size
returns-in-Ok-clause-size c =
    let size : length c.in-Ok.end.slots.items
    ≡ length c.args.image.now.points + length c.args.image.now.variables = search rules in
    IfOk-weaker c.prediction_at.result _ _ (λ f is. ap (λ v. length v.items) is.0 ∙ size)
    c.prediction_at.ensures

pub returns-in-Ok-clause-predicts : goal.returns-in-Ok-clause-predicts
returns-in-Ok-clause-predicts c =
    let image = c.args.image.now in
    let delays = c.args.delays.now in
    let start = c.args.start.items in
    let end = c.in-Ok.end in
    let first = c.in_ok-first.first in
    let known = map (λ (u : KnownTimer). u.delay) end.timers.items in
    let predicts : PredictsReached image start delays known end.slots.items =
    pass-tells image start delays end.timers.items end.slots.items
    (subst
    (λ (code : List ℕ). PredictsRun code (known_of_kinds image.timers delays)
    start end.timers.items end.slots.items) c.code.ensures.value
    (subst (λ (timers : List KnownTimer). PredictsRun c.code.result.now timers
    start end.timers.items end.slots.items) c.in_ok-first.ensures.timers
    (subst (λ (slots : List Range). PredictsRun c.code.result.now first.timers.items slots
    end.timers.items end.slots.items) (ap (λ v. v.items) c.in_ok-first.ensures.slots)
    c.in-Ok.ensures))) in
    IfOk-weaker c.prediction_at.result _ _
    (λ f is.
    subst (λ (last : List KnownDelay). PredictsReached image start delays last f.ranges.items)
    (sym is.1)
    (subst (λ (rs : List Range). PredictsReached image start delays known rs)
    (sym (ap (λ v. v.items) is.0)) predicts)) c.prediction_at.ensures

pub returns-in_default-clause-predicts : goal.returns-in_default-clause-predicts
returns-in_default-clause-predicts c =
    c.predict_nothing.ensures.predicts c.args.start.items c.args.delays.now
