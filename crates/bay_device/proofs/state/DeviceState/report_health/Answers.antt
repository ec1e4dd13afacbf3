use Rattle.std.proofs.Common.{ap}
use Rattle.bay_nodes.specs.declared.profile.Profile.TheVariants.{Two}
use Rattle.bay_process.proofs.KeptLemmas.{kept-stays}
use Rattle.bay_process.proofs.ModelLemmas.{health-keeps}
use Rattle.bay_mms_services.specs.Bay.{Bay}
use Rattle.bay_device.proofs.HeldLemmas.{all-noted}
use Rattle.bay_device.proofs.state.DeviceState.report_health.Goals as goal

pub invariant_of-self : goal.invariant_of-self
invariant_of-self c =
    let d = c.args.self.now in
    let did = c.health.ensures in
    let written = ap (λ (b : Bay). b.rows) did.after in
    record {
      bound = rw (did.layout, did.switches) d.bound;
      metered = rw did.layout d.metered;
      valued = d.valued;
      modelled = rw (did.layout, did.switches) d.modelled;
      released = rw (written, did.switches) (kept-stays d.bay.tree _ _ d.releases d.released
          (health-keeps Two d.is_lost c.args.now d.bay.tree));
      tabled = rw did.switches d.tabled;
      typed = d.typed;
      spans_sized = rw did.switches d.spans_sized;
      few = d.few;
      spanned = d.spanned;
      held = all-noted c.all_points-all.result _ d.reads _ c.all_points-all.ensures.from
          c.all_points-all.ensures.to;
    }

pub invariant_of-self-else-health : goal.invariant_of-self-else-health
invariant_of-self-else-health c =
    let d = c.args.self.now in
    let did = c.health.ensures in
    let same = did.same c.if-health.false in
    record {
      bound = rw (did.layout, did.switches) d.bound;
      metered = rw did.layout d.metered;
      valued = d.valued;
      modelled = rw (did.layout, did.switches) d.modelled;
      released = rw (same, did.switches) d.released;
      tabled = rw did.switches d.tabled;
      typed = d.typed;
      spans_sized = rw did.switches d.spans_sized;
      few = d.few;
      spanned = d.spanned;
      held = rw (same, did.switches) d.held;
    }
