use Rattle.cmd_audit.proofs.JudgeLemmas.{refused-text}
use Rattle.cmd_audit.proofs.judging.judge_text.Goals as goal

pub returns-in-Err : goal.returns-in-Err
returns-in-Err c =
    refused-text c.args.loaded.now c.args.rules.now c.in-Err.fault
    (rw c.bay.ensures at c.in-Err.ensures.refused) c.refused_verdict.result
    c.refused_verdict.ensures
