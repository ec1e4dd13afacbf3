use Rattle.std.proofs.Common.{subst, ap₂}
use Rattle.bay_io.specs.Sent.{Puts}
use Rattle.bay_report.specs.Lines.{step_text}
use Rattle.cmd_replay.proofs.answer.answer_event.Goals as goal

pub returns : goal.returns
returns g c =
    let done = c.step-answer.ensures.steps in
    record {
      choice = done.choice;
      text = subst (λ t. Puts g.W.Sink.contents g.W.Sink.does c.args.writer.now t
          c.put_step.new.writer)
          (ap₂ (λ a d. step_text c.args.moment a d) done.answered done.left) c.put_step.ensures;
      after_is = done.left;
    }
