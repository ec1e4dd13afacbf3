use Rattle.std.proofs.Common.{[], ap, ◌∙◌}
use Rattle.bay_server_turn.specs.Turns.{TurnState, close_at_once, mark_closed, with_noted, with_queue}
use Rattle.bay_server_turn.proofs.PartLemmas.{turning-as}
use Rattle.bay_server_turn.proofs.closing.close_at_once.Goals as goal

pub returns-clause-after : goal.returns-clause-after
unfolding close_at_once
returns-clause-after g c =
    let slot = c.args.slot in
    turning-as _ _ _ _ c.clear.ensures c.mark_closed.ensures
    ∙ ap (λ (t : TurnState). with_noted (mark_closed slot c.args.closing t.noted)
    (with_queue slot [] t))
    c.step_without_replies.ensures.after
