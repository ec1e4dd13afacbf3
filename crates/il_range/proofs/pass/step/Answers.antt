use Rattle.std.proofs.Common.{subst}
use Rattle.std.proofs.lemmas.Result.{on_ok_weaker}
use Rattle.il_range.specs.Effects.{KnownData}
use Rattle.il_range.specs.Pending.{JoinsKnown, known_view}
use Rattle.il_range.proofs.EffectLemmas.{step-moves}
use Rattle.il_range.proofs.pass.step.Goals as goal

pub returns-clause-ok : goal.returns-clause-ok
returns-clause-ok c =
    let old = c.args.pending.now.items in
    let new = c.arrive.new.pending.items in
    on_ok_weaker c.arrive.result
    (λ a. step-moves c.args.instr c.args.next (known_view c.args.here)
    (known_view c.apply.new.known) old new
    c.in_ok-apply.ensures
    (subst (λ (p : KnownData). JoinsKnown old new c.args.next p) c.update_dependencies.ensures a))
    c.arrive.ensures.ok
