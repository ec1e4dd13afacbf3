-- A hazard that is shown is one.
use Rattle.std.proofs.Common.{◌≡◌, true, ◌&&◌}
use Rattle.std.specs.Prelude.{◌==◌}
use Rattle.std.proofs.lemmas.Bool.{and_parts}
use Rattle.bay_base.specs.declared.switch.Operation.{Operation}
use Rattle.bay_base.specs.declared.switch.Operation.TheVariants.{Open, Close}
use Rattle.bay_base.specs.declared.switch.SwitchKind.{SwitchKind}
use Rattle.bay_base.specs.declared.switch.SwitchKind.TheVariants.{Breaker, Disconnector, Earthing}
use Rattle.bay_diagram.specs.declared.network.Branch.{Branch}
use Rattle.bay_diagram.specs.declared.network.Network.{Network}
use Rattle.bay_diagram.specs.declared.shown.HazardKind.{HazardKind}
use Rattle.bay_diagram.specs.declared.shown.HazardKind.TheVariants.{Earths, Bridges, Breaks, Makes, Leaves, Joins, Uncouples, Unearths}
use Rattle.bay_diagram.specs.Hazards.{breaks, bridges, endangers, endangers_by, leaves_any, makes_any}
use Rattle.bay_diagram.specs.Laws.{ShownIsHazard}
use Rattle.bay_diagram.specs.Network.{is_own}
use Rattle.bay_diagram.specs.Reading.{Reading}
use Rattle.bay_diagram.specs.Shown.{can_be, is_of_kind, shows_by}
use Rattle.bay_diagram.proofs.GrowthLemmas.{le-any, le-under}
use Rattle.bay_diagram.proofs.PathLemmas.{or-left, or-right}

module _ (net : Network) (r : Reading) (s : Branch) where
  kind-endangers : (kind : SwitchKind) (operation : Operation) (hazard : HazardKind)
      → can_be kind operation hazard ≡ true → is_of_kind net r s hazard ≡ true
      → endangers_by net r s kind operation ≡ true
  kind-endangers Earthing Close Earths can h = h
  kind-endangers Earthing Open Unearths can h = h
  kind-endangers Breaker Close Bridges can h = or-left _ _ h
  kind-endangers Breaker Close Makes can h =
      or-right (bridges net r s) _ (or-left _ _ h)
  kind-endangers Breaker Close Joins can h =
      or-right (bridges net r s) _ (or-right (makes_any net r s) _ h)
  kind-endangers Breaker Open Leaves can h = or-left _ _ h
  kind-endangers Breaker Open Uncouples can h = or-right (leaves_any net r s) _ h
  kind-endangers Disconnector Close Bridges can h = or-left _ _ h
  kind-endangers Disconnector Close Breaks can h =
      or-right (bridges net r s) _ (or-left _ _ h)
  kind-endangers Disconnector Close Makes can h =
      or-right (bridges net r s) _ (or-right (breaks net r s) _ h)
  kind-endangers Disconnector Open Breaks can h = or-left _ _ h
  kind-endangers Disconnector Open Leaves can h = or-right (breaks net r s) _ h
  kind-endangers kind operation hazard can h = cc

pub shown-is-hazard : ShownIsHazard
shown-is-hazard net r k operation shown =
    (le-any (λ (s : Branch). is_own k s.device && (s.number == shown.switch
    && (can_be s.kind operation shown.kind
    && (is_of_kind net r s shown.kind && shows_by net r s shown shown.kind))))
    (λ (s : Branch). is_own k s.device && endangers net r s operation)
    (λ s. le-under (is_own k s.device) _ (endangers net r s operation) (record {
      gives = λ h.
          let can = (and_parts (s.number == shown.switch) _ h).1 in
          let of = (and_parts (can_be s.kind operation shown.kind) _ can).1 in
          kind-endangers net r s s.kind operation shown.kind
          (and_parts (can_be s.kind operation shown.kind) _ can).0
          (and_parts (is_of_kind net r s shown.kind) _ of).0;
    })) net.branches).gives
