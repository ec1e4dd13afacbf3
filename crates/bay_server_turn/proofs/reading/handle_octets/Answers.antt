use Rattle.std.proofs.Common.{refl}
use Rattle.bay_server_turn.proofs.StepLemmas.{taken}
use Rattle.bay_server_turn.proofs.reading.handle_octets.Goals as goal

pub returns-clause-takes : goal.returns-clause-takes
returns-clause-takes c =
    taken _ _ _ _ _ _ _ _ _ _ _ _ _ _ _ _ c.step.ensures.steps c.in-Ok.is c.step.ensures.queues
    c.step.ensures.recording c.start_closing_if_closed.ensures c.put_ended.ensures.after
    c.as_slice.ensures c.put_all.ensures.after c.as_slice-2.ensures c.report_commands.ensures.after
    refl c.report_decisions.ensures
