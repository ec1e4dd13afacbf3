use Rattle.std.proofs.Common.{ℕ, subst}
use Rattle.bay_base.specs.declared.switch.Operation.{Operation}
use Rattle.bay_audit_hazards.specs.Judged.{IsHazardAnswer, IsSureAnswer}
use Rattle.cmd_audit.proofs.HazardLemmas.{answer-shown}
use Rattle.cmd_audit.proofs.judged.judge_release.Goals as goal

pub returns-clause-right : goal.returns-clause-right
returns-clause-right c =
    let net = c.args.network.now in
    let answer = c.in_ok-answer.answer in
    record {
      right = subst (λ (w : ℕ × Operation). IsHazardAnswer c.args.program.now net w.0 w.1 answer)
          c.in_ok-found.ensures.way c.in_ok-answer.ensures.right;
      shown = answer-shown c.args.bay.now net c.args.way.0 c.args.way.1 answer c.in_ok-shown.shown
          (subst (λ (w : ℕ × Operation). IsSureAnswer c.args.bay.now net w.0 w.1 answer)
          c.in_ok-found.ensures.way c.in_ok-answer.ensures.sure)
          c.in_ok-shown.ensures;
    }
