use Rattle.std.proofs.Common.{Ok, ap, refl, sym, ◌∙◌}
use Rattle.bay_report.proofs.ReportLemmas.{chosen, other}
use Rattle.bay_server.specs.TurnLines.{is_quiet}
use Rattle.bay_server.proofs.turns.print_turn.Goals as goal

pub returns-then-is_quiet : goal.returns-then-is_quiet
returns-then-is_quiet g c =
    chosen _ (is_quiet c.args.turn.now) (sym c.is_quiet.ensures ∙ c.if-is_quiet.true)
    (refl, ap Ok c.code.ensures)

pub returns-else-is_quiet : goal.returns-else-is_quiet
returns-else-is_quiet g c =
    other _ (is_quiet c.args.turn.now) (sym c.is_quiet.ensures ∙ c.if-is_quiet.false)
    c.write_turn.ensures
