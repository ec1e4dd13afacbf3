use Rattle.bay_server_turn.proofs.StepLemmas.{told}
use Rattle.bay_server_turn.proofs.turn.apply_event.Goals as goal

pub returns-in-Ok-clause-after : goal.returns-in-Ok-clause-after
returns-in-Ok-clause-after c =
    told c.args.now c.args.source_line.now c.args.event c.args.server.now c.step.new.self
    c.args.notes.now c.event.result c.step.result c.in-Ok.step _ c.event.ensures.event
    (c.step.ensures.sure c.event.ensures.quiet) c.in-Ok.is c.step.ensures.queues
    c.step.ensures.recording c.put_ended.ensures.after
