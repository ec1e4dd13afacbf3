use Rattle.bay_diagram.specs.Reading.{reading_in}
use Rattle.bay_diagram.specs.Shown.{IsShownOf}
use Rattle.bay_diagram.proofs.ShowLemmas.{ok-more}
use Rattle.bay_audit_hazards.specs.Judged.{IsExplained}
use Rattle.bay_audit_hazards.proofs.CaseLemmas.{explained}
use Rattle.bay_audit_hazards.proofs.explain.explain.Goals as goal

pub returns : goal.returns
returns c =
    let bay = c.args.bay.now in
    let net = c.args.network.now in
    let k = c.args.switch in
    let known = c.in_ok-known.known in
    ok-more (IsShownOf net (reading_in known) k c.args.operation)
    (IsExplained bay net k c.args.operation c.args.case.now)
    (explained bay net k c.args.operation c.args.case.now known c.in_ok-known.ensures)
    c.show.result c.show.ensures
