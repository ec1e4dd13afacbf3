use Rattle.std.proofs.Common.{refl, reverse}
use Rattle.std.proofs.lemmas.Result.{on_ok_weaker}
use Rattle.il_verify.proofs.FrameLemmas.{if_err_weaker, plain}
use Rattle.il_verify.proofs.MapLemmas.{clash-at, pended, slot_at}
use Rattle.il_verify.proofs.frame.join_pending.Goals as goal

pub returns-clause-ok : goal.returns-clause-ok
returns-clause-ok c =
    let old = c.args.pending.now.items in
    let was =
    slot_at old c.args.place c.index_mut.result.now c.requires.room c.index_mut.ensures.value in
    on_ok_weaker c.join_at.result
    (λ h. pended old old c.args.place c.index_mut.result.now c.join_at.new.slot h.0
    (plain c.args.kinds.now c.args.longest) (λ q. refl) c.requires.room was h.1 h.2)
    c.join_at.ensures.ok

pub returns-clause-err : goal.returns-clause-err
returns-clause-err c =
    let old = c.args.pending.now.items in
    let was =
    slot_at old c.args.place c.index_mut.result.now c.requires.room c.index_mut.ensures.value in
    if_err_weaker c.join_at.result _ _
    (λ f h. (
      h.0,
      clash-at old c.args.place c.index_mut.result.now (reverse c.args.kinds.now) was h.1,
    ))
    c.join_at.ensures.err
