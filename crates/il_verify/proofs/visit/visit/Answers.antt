use Rattle.std.proofs.Common.{ℕ, List, ◌+◌, reverse, refl, subst, ◌∙◌, None, Some, inr}
use Rattle.il_image.specs.declared.kind.CellKind.{CellKind}
use Rattle.il_verify.specs.Frames.{Jumps, LeadsToInstrs, PlainFrame, plain_frames}
use Rattle.il_verify.proofs.VisitLemmas.{clash-before, effect-so, fault-there}
use Rattle.il_verify.proofs.visit.visit.Goals as goal

pub returns-in-Err-next_frame-clause-err : goal.returns-in-Err-next_frame-clause-err
returns-in-Err-next_frame-clause-err c =
    let image = c.args.image.now in
    let slots = c.as_slice.ensures.value ∙ c.requires.plan.slots in
    let kinds = reverse c.args.frame.kinds.items in
    let gives = reverse c.apply_instr.new.kinds.items in
    let come : PlainFrame = record { kinds = gives; longest = c.args.frame.longest + 1 } in
    let old = plain_frames c.args.pending.now.items in
    let mid = plain_frames c.follow_jump.new.pending.items in
    let jumps =
    subst (λ (items : List CellKind). Jumps c.args.instr c.args.next
    (record { kinds = reverse items; longest = c.args.frame.longest + 1 }) old mid)
    c.as_slice-3.ensures.value c.in-Ok-follow_jump.ensures.ok in
    let h = c.in-Err-next_frame.ensures.err in
    inr (inr (
      h.0,
      record {
        gives = gives;
        faultless =
            fault-there image c.as_slice.result.now c.args.plan.now.timers c.args.instr kinds None
            slots c.requires.plan.timers c.in-Ok.ensures.faultless;
        effect =
            effect-so image c.as_slice.result.now c.args.plan.now.timers c.args.instr kinds
            (Some gives) slots c.requires.plan.timers c.in-Ok.ensures.ok;
        right = subst (λ (code : List ℕ). LeadsToInstrs code c.args.instr c.args.next)
            c.code.ensures.value c.in-Ok-check_targets.ensures.ok;
        to = c.args.next;
        leads = inr (h.1.0, refl);
        clash = clash-before c.args.instr c.args.next come old mid jumps h.1.1;
      },
    ))

pub returns-clause-ok : goal.returns-clause-ok
returns-clause-ok c =
    let image = c.args.image.now in
    let slots = c.as_slice.ensures.value ∙ c.requires.plan.slots in
    let kinds = reverse c.args.frame.kinds.items in
    let gives = reverse c.apply_instr.new.kinds.items in
    let old = plain_frames c.args.pending.now.items in
    let mid = plain_frames c.follow_jump.new.pending.items in
    record {
      gives = gives;
      faultless =
          fault-there image c.as_slice.result.now c.args.plan.now.timers c.args.instr kinds None
          slots c.requires.plan.timers c.in-Ok.ensures.faultless;
      effect =
          effect-so image c.as_slice.result.now c.args.plan.now.timers c.args.instr kinds
          (Some gives) slots c.requires.plan.timers c.in-Ok.ensures.ok;
      right = subst (λ (code : List ℕ). LeadsToInstrs code c.args.instr c.args.next)
          c.code.ensures.value c.in-Ok-check_targets.ensures.ok;
      mid = mid;
      jumps = subst (λ (items : List CellKind). Jumps c.args.instr c.args.next
          (record { kinds = reverse items; longest = c.args.frame.longest + 1 }) old mid)
          c.as_slice-3.ensures.value c.in-Ok-follow_jump.ensures.ok;
      falls = c.in-Ok-next_frame.ensures.ok;
    }
