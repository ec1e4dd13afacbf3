use Rattle.std.proofs.Common.{List, Option, Some, reverse, refl, sym, subst, ◌∙◌}
use Rattle.std.specs.Prelude.{option_map}
use Rattle.il_image.specs.declared.kind.CellKind.{CellKind}
use Rattle.il_verify.specs.declared.frame.Frame.{Frame}
use Rattle.il_verify.specs.Frames.{HasOtherDepth, JoinsFrame, plain_frame}
use Rattle.il_verify.proofs.FrameLemmas.{begun-grows, clash-of, plain}
use Rattle.il_verify.proofs.MapLemmas.{clash-at, falls-to, stays-so}
use Rattle.il_verify.proofs.frame.next_frame.Goals as goal

pub returns-then-not-falls_through-clause-ok : goal.returns-then-not-falls_through-clause-ok
returns-then-not-falls_through-clause-ok c =
    stays-so c.args.instr c.args.next (plain_frame c.args.frame) c.args.pending.now.items
    c.take_pending-old.new.pending.items c.take_pending-old.result
    (sym c.falls_through.ensures ∙ c.if-not-falls_through.true) c.take_pending-old.ensures.value
    c.take_pending-old.ensures.others

pub returns-in-None-clause-ok : goal.returns-in-None-clause-ok
returns-in-None-clause-ok c =
    falls-to c.args.instr c.args.next (plain_frame c.args.frame) c.args.pending.now.items
    c.take_pending-old.new.pending.items c.take_pending-old.result (plain_frame c.args.frame)
    (sym c.falls_through.ensures ∙ c.if-not-falls_through.false) c.take_pending-old.ensures.value
    c.take_pending-old.ensures.others
    (begun-grows c.take_pending-old.result c.args.frame.kinds.items c.args.frame.kinds.items
    c.args.frame.longest c.in-None.is refl)

pub returns-in-Ok-clause-ok : goal.returns-in-Ok-clause-ok
returns-in-Ok-clause-ok c =
    let come = plain_frame c.args.frame in
    let grows =
    subst (λ (kinds : List CellKind). JoinsFrame (plain kinds c.args.frame.longest)
    (Some (plain_frame c.in-Some.other)) (plain_frame c.join_frame.new.frame))
    c.as_slice.ensures.value c.in-Ok.ensures.ok in
    falls-to c.args.instr c.args.next come c.args.pending.now.items
    c.take_pending-old.new.pending.items
    c.take_pending-old.result (plain_frame c.join_frame.new.frame)
    (sym c.falls_through.ensures ∙ c.if-not-falls_through.false) c.take_pending-old.ensures.value
    c.take_pending-old.ensures.others
    (subst (λ (o : Option Frame). JoinsFrame come (option_map plain_frame o)
    (plain_frame c.join_frame.new.frame)) (sym c.in-Some.is) grows)

pub returns-in-Err-clause-err : goal.returns-in-Err-clause-err
returns-in-Err-clause-err c =
    let h = c.in-Err.ensures.err in
    let clash =
    clash-of c.take_pending-old.result c.in-Some.other c.as_slice.result.now c.in-Some.is h.1 in
    let there =
    subst (λ (kinds : List CellKind). HasOtherDepth
    (option_map plain_frame c.take_pending-old.result)
    (reverse kinds)) c.as_slice.ensures.value clash in (
      h.0,
      (
        sym c.falls_through.ensures ∙ c.if-not-falls_through.false,
        clash-at c.args.pending.now.items c.args.next c.take_pending-old.result
            (reverse c.args.frame.kinds.items) c.take_pending-old.ensures.value there,
      ),
    )
