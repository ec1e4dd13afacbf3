use Rattle.std.proofs.Common.{Ok, Err, refl}
use Rattle.cmd_serve.proofs.FileLemmas.{permit-fails}
use Rattle.cmd_serve.proofs.permit.prove_rules.Goals as goal

pub returns-in_err-status : goal.returns-in_err-status
returns-in_err-status g c = rw c.in-Some.is (record {
  verdict = c.judge_rules-verdict.result;
  is = rw c.as_slice.ensures at c.judge_rules-verdict.ensures;
  status = Err c.in_err-status.field-0.0;
  printed = c.in_err-status.ensures;
  permits = permit-fails c.from_residual.result c.in_err-status.field-0.0 c.from_residual.ensures.0;
})

pub returns-in-Hold : goal.returns-in-Hold
returns-in-Hold g c = rw c.in-Some.is (record {
  verdict = c.judge_rules-verdict.result;
  is = rw c.as_slice.ensures at c.judge_rules-verdict.ensures;
  status = Ok c.in_ok-status.status;
  printed = c.in_ok-status.ensures;
  permits = rw c.in-Hold.is refl;
})

pub returns-in-Unproved : goal.returns-in-Unproved
returns-in-Unproved g c = rw c.in-Some.is (record {
  verdict = c.judge_rules-verdict.result;
  is = rw c.as_slice.ensures at c.judge_rules-verdict.ensures;
  status = Ok c.in_ok-status.status;
  printed = c.in_ok-status.ensures;
  permits = rw c.in-Unproved.is refl;
})

pub returns-in-Refused : goal.returns-in-Refused
returns-in-Refused g c = rw c.in-Some.is (record {
  verdict = c.judge_rules-verdict.result;
  is = rw c.as_slice.ensures at c.judge_rules-verdict.ensures;
  status = Ok c.in_ok-status.status;
  printed = c.in_ok-status.ensures;
  permits = rw c.in-Refused.is refl;
})

pub returns : goal.returns
returns g c = rw c.in-Some.is (record {
  verdict = c.judge_rules-verdict.result;
  is = rw c.as_slice.ensures at c.judge_rules-verdict.ensures;
  status = Ok c.in_ok-status.status;
  printed = c.in_ok-status.ensures;
  permits = rw c.in-OutOfMemory.is refl;
})
