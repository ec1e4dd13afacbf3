use Rattle.std.proofs.Common.{refl, sym}
use Rattle.cmd_replay.proofs.AnswerLemmas.{FinishesLogs-cut}
use Rattle.cmd_replay.proofs.replay.end_replay.Goals as goal

pub returns-in_err-status : goal.returns-in_err-status
returns-in_err-status g c =
    FinishesLogs-cut c.in_err-status.field-0.0 c.from_residual.result c.from_residual.ensures.0
    c.in_err-status.ensures.finishes

pub returns-in-Unreadable : goal.returns-in-Unreadable
returns-in-Unreadable g c = record {
  between = c.finish.new.writer;
  finishes = c.in_ok-status.ensures.finishes;
  status_is = c.in_ok-status.ensures.status;
  logged = rw (sym c.requires, c.in-Unreadable.is) c.log_unreadable.ensures;
}

pub returns-in-OutOfMemory : goal.returns-in-OutOfMemory
returns-in-OutOfMemory g c = record {
  between = c.finish.new.writer;
  finishes = c.in_ok-status.ensures.finishes;
  status_is = c.in_ok-status.ensures.status;
  logged = rw (sym c.requires, c.in-OutOfMemory.is) refl;
}
