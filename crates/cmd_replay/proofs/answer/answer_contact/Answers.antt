use Rattle.std.proofs.Common.{ℕ, None, subst}
use Rattle.bay_device.specs.Steps.{quiet_answer}
use Rattle.bay_device.specs.declared.event.Event.TheVariants.{Contact}
use Rattle.cmd_replay.specs.Answering.{AppliesEvent}
use Rattle.cmd_replay.proofs.AnswerLemmas.{Does-put}
use Rattle.cmd_replay.proofs.answer.answer_contact.Goals as goal

pub returns : goal.returns
returns g c =
    let done = c.contact-answer.ensures in
    subst (λ (k : ℕ). AppliesEvent g.W.Sink.contents g.W.Sink.does c.args.writer.now c.args.moment
    (Contact k c.args.position) c.args.device.now c.put_contact.new.writer
    c.contact-answer.new.self) c.resolve_switch-switch.ensures
    (Does-put g.W.Sink.contents g.W.Sink.does c.args.writer.now c.args.moment
    (Contact c.resolve_switch-switch.result c.args.position) c.args.device.now
    c.put_contact.new.writer c.contact-answer.new.self None
    (quiet_answer c.contact-answer.result) done.answered done.left
    (c.put_contact.ensures c.contact-answer.new.self))
