use Rattle.std.proofs.Common.{◌≡◌, sym, true}
use Rattle.bay_diagram.specs.Hazards.{is_hazard, endangers}
use Rattle.bay_diagram.specs.Reading.{reading_in}
use Rattle.bay_diagram.specs.Shown.{IsFound, IsShownAt, is_shown}
use Rattle.bay_diagram.specs.declared.shown.ShownHazard.{ShownHazard}
use Rattle.bay_diagram.proofs.FoundLemmas.{find-none}
use Rattle.bay_diagram.proofs.ShowLemmas.{ok-more, shown-of}
use Rattle.bay_diagram.proofs.show.show.Goals as goal

pub returns-in_default : goal.returns-in_default
returns-in_default c =
    find-none _ c.args.network.now.branches (sym (rw c.in_default.is at c.endangered.ensures))

pub returns : goal.returns
returns c =
    let net = c.args.network.now in
    let r = reading_in c.args.known.now in
    ok-more
    (IsFound (IsShownAt net r c.in-Some.branch.now c.args.operation)
    (endangers net r c.in-Some.branch.now c.args.operation))
    (IsFound (λ (shown : ShownHazard). is_shown net r c.args.switch c.args.operation shown ≡ true)
    (is_hazard net r c.args.switch c.args.operation))
    (λ o. shown-of net r c.args.switch c.args.operation c.in-Some.branch.now o
    (sym c.in-Some.ensures)) c.show_at.result c.show_at.ensures
