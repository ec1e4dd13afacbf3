use Rattle.std.proofs.Common.{◌≡◌, List, Option, Some, ap, length, subst, sym, arith, ◌∙◌}
use Rattle.std.proofs.lemmas.Result.{on_ok_weaker}
use Rattle.il_image.specs.declared.instr.Instr.{Instr}
use Rattle.il_image.specs.declared.instr.Instr.TheVariants.{Halt, Jump}
use Rattle.il_image.specs.Reading.{instr_at}
use Rattle.il_range.specs.declared.known.Known.{Known}
use Rattle.il_range.specs.Pending.{JoinsKnown, CoversSteps, CoversStepsAt, known_view}
use Rattle.il_range.proofs.PassLemmas.{visits-halt, visits-moves, visits-none}
use Rattle.il_range.proofs.pass.visit.Goals as goal

pub returns-in_default-clause-ok : goal.returns-in_default-clause-ok
returns-in_default-clause-ok c =
    let old = c.args.pending.now.items in
    subst (λ (new : List (Option Known)). CoversStepsAt c.args.code.now c.args.offset old new)
    (sym c.take_pending.ensures.after)
    (visits-none c.args.code.now c.args.offset old c.in_default.ensures.value)

pub returns-in-Halt-clause-ok : goal.returns-in-Halt-clause-ok
returns-in-Halt-clause-ok c =
    let code = c.args.code.now in
    let offset = c.args.offset in
    let old = c.args.pending.now.items in
    let new = c.arrive.new.pending.items in
    let next = c.in-Some-instr_at.next in
    let here = c.in-Some.here in
    let reads : instr_at code offset ≡ Some (Halt, next) =
    sym c.in-Some-instr_at.ensures.value ∙ ap (λ (i : Instr). Some (i, next)) c.in-Halt.is in
    on_ok_weaker c.arrive.result
    (λ a. visits-halt code offset next old new here reads c.in-Some.ensures.value
    (subst (λ (mid : List (Option Known)). JoinsKnown mid new (length code) (known_view here))
    c.take_pending.ensures.after a))
    c.arrive.ensures.ok

pub returns-in-Jump-clause-ok : goal.returns-in-Jump-clause-ok
returns-in-Jump-clause-ok c =
    let code = c.args.code.now in
    let offset = c.args.offset in
    let old = c.args.pending.now.items in
    let new = c.jump.new.pending.items in
    let next = c.in-Some-instr_at.next in
    let instr = Jump c.in-Jump.when c.in-Jump.distance in
    let reads : instr_at code offset ≡ Some (instr, next) =
    sym c.in-Some-instr_at.ensures.value ∙ ap (λ (i : Instr). Some (i, next)) c.in-Jump.is in
    on_ok_weaker c.jump.result
    (λ m. visits-moves code instr offset next old new c.in-Some.here reads
    c.in-Some-instr_at.ensures.forward.0 c.in-Some.ensures.value
    (subst (λ (mid : List (Option Known)). CoversSteps instr next (known_view c.in-Some.here) mid
    new)
    c.take_pending.ensures.after m))
    c.jump.ensures.ok

pub returns-in_default-instr : goal.returns-in_default-instr
returns-in_default-instr c =
    let code = c.args.code.now in
    let offset = c.args.offset in
    let old = c.args.pending.now.items in
    let new = c.step.new.pending.items in
    let next = c.in-Some-instr_at.next in
    let instr = c.in-Some-instr_at.instr in
    record {
      size = omega (arith, c.step.ensures.size, c.take_pending.ensures.size);
      ok = on_ok_weaker c.step.result
          (λ m. visits-moves code instr offset next old new c.in-Some.here
          (sym c.in-Some-instr_at.ensures.value) c.in-Some-instr_at.ensures.forward.0
          c.in-Some.ensures.value
          (subst (λ (mid : List (Option Known)). CoversSteps instr next (known_view c.in-Some.here)
          mid
          new)
          c.take_pending.ensures.after m))
          c.step.ensures.ok;
    }
