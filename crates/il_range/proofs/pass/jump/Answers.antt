use Rattle.std.proofs.Common.{OnOk, subst, sym}
use Rattle.std.proofs.lemmas.Result.{on_ok_weaker}
use Rattle.il_image.specs.declared.instr.Instr.TheVariants.{Jump}
use Rattle.il_image.specs.declared.opcode.When.{When}
use Rattle.il_range.specs.declared.range.Range.{Range}
use Rattle.il_range.specs.Effects.{KnownData}
use Rattle.il_range.specs.Pending.{Branches, CoversSteps, known_view}
use Rattle.il_range.proofs.PendingLemmas.{always-moves, if-false-moves, if-true-moves}
use Rattle.il_range.proofs.pass.jump.Goals as goal

pub returns-in-Always-clause-ok : goal.returns-in-Always-clause-ok
returns-in-Always-clause-ok c =
    let old = c.args.pending.now.items in
    let new = c.jump_past.new.pending.items in
    subst (λ (w : When). OnOk c.jump_past.result
    (CoversSteps (Jump w c.args.distance) c.args.next (known_view c.args.here) old new))
    (sym c.in-Always.is)
    (on_ok_weaker c.jump_past.result
    (always-moves c.args.distance c.args.next (known_view c.args.here) old new)
    c.jump_past.ensures.ok)

pub returns-in_ok-top-in-IfTrue-clause-ok : goal.returns-in_ok-top-in-IfTrue-clause-ok
returns-in_ok-top-in-IfTrue-clause-ok c =
    let come = known_view c.args.here in
    let old = c.args.pending.now.items in
    let new = c.branch-alloc.new.pending.items in
    let r = c.in_ok-top-in-IfTrue.top in
    subst (λ (w : When). OnOk c.branch-alloc.result
    (CoversSteps (Jump w c.args.distance) c.args.next come old new)) (sym c.in-IfTrue.is)
    (on_ok_weaker c.branch-alloc.result
    (λ b. if-true-moves r c.args.distance c.args.next c.in_ok-top-in-IfTrue.ensures.top.0 come old
    new c.in_ok-top-in-IfTrue.ensures.top.1
    (subst (λ (p : KnownData). Branches r c.args.distance c.args.next p old new)
    c.in_ok-top-in-IfTrue.ensures.same b))
    c.branch-alloc.ensures.ok)

pub returns-in_ok-top-in-IfFalse-clause-ok : goal.returns-in_ok-top-in-IfFalse-clause-ok
returns-in_ok-top-in-IfFalse-clause-ok c =
    let come = known_view c.args.here in
    let old = c.args.pending.now.items in
    let new = c.branch-alloc-in-IfFalse.new.pending.items in
    let r = c.in_ok-top-in-IfFalse.top in
    subst (λ (w : When). OnOk c.branch-alloc-in-IfFalse.result
    (CoversSteps (Jump w c.args.distance) c.args.next come old new)) (sym c.in-IfFalse.is)
    (on_ok_weaker c.branch-alloc-in-IfFalse.result
    (λ b. if-false-moves r c.args.distance c.args.next c.in_ok-top-in-IfFalse.ensures.top.0 come old
    new c.in_ok-top-in-IfFalse.ensures.top.1
    (subst (λ (j : Range). Branches j c.args.distance c.args.next come old new) c.not_range.ensures
    (subst (λ (p : KnownData). Branches c.not_range.result c.args.distance c.args.next p old new)
    c.in_ok-top-in-IfFalse.ensures.same b)))
    c.branch-alloc-in-IfFalse.ensures.ok)
