use Rattle.bay_server.proofs.ServeLemmas.{report-cut}
use Rattle.bay_server_turn.specs.Calls.{CountedCall}
use Rattle.bay_server.proofs.serving.report_and_poll.Goals as goal

pub returns-in_err-report_turn : goal.returns-in_err-report_turn
returns-in_err-report_turn g c =
    report-cut {H = Unit {0}} (CountedCall g.L.Link.does g.L.Link.failures) (λ _ _ _. Unit {0})
    g.W.Sink.contents
    g.W.Sink.does _ _ _ _ _ _ _ _ _ _ c.from_residual.result c.from_residual.ensures.0
    c.in_err-report_turn.ensures
