use Rattle.std.proofs.Common.{subst}
use Rattle.bay_audit.specs.Rules.{IsAnswer, IsMet}
use Rattle.bay_audit.proofs.until.answer_by_dependency.Goals as goal

pub returns-in-Holds : goal.returns-in-Holds
returns-in-Holds c =
    subst (IsMet c.args.program.now) c.in_ok-demand.ensures
    (subst (IsAnswer c.args.program.now c.in_ok-demand.demand) c.in-Holds.is
    c.in_ok-found.ensures)
