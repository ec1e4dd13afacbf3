use Rattle.std.proofs.Common.{Option, refl, subst, sym}
use Rattle.std.specs.Prelude.{option_map}
use Rattle.std.proofs.lemmas.Result.{on_ok_weaker}
use Rattle.il_verify.specs.declared.frame.Frame.{Frame}
use Rattle.il_verify.specs.Frames.{JoinsFrame, plain_frame}
use Rattle.il_verify.proofs.FrameLemmas.{begun-grows, clash-of, if_err_weaker, plain}
use Rattle.il_verify.proofs.frame.join_at.Goals as goal

pub returns-in-Some-clause-ok : goal.returns-in-Some-clause-ok
returns-in-Some-clause-ok c =
    let come = plain c.args.kinds.now c.args.longest in
    on_ok_weaker c.join_frame.result
    (λ g. (
      c.join_frame.new.frame,
      refl,
      subst (λ (o : Option Frame). JoinsFrame come (option_map plain_frame o)
          (plain_frame c.join_frame.new.frame)) (sym c.in-Some.is) g,
    )) c.join_frame.ensures.ok

pub returns-in-Some-clause-err : goal.returns-in-Some-clause-err
returns-in-Some-clause-err c =
    if_err_weaker c.join_frame.result _ _
    (λ f h. (h.0, clash-of c.args.slot.now c.in-Some.frame c.args.kinds.now c.in-Some.is h.1))
    c.join_frame.ensures.err

pub returns-clause-ok : goal.returns-clause-ok
returns-clause-ok c = (
  record { kinds = c.copy_of.result; longest = c.args.longest },
  refl,
  begun-grows c.args.slot.now c.args.kinds.now c.copy_of.result.items c.args.longest
      c.in_default.is c.copy_of.ensures,
)
