use Rattle.std.proofs.Common.{◌≡◌, false, length, subst, ap, ◌∙◌}
use Rattle.std.proofs.lemmas.List.{length-map}
use Rattle.bay_nodes.specs.declared.profile.Profile.TheVariants.{Two}
use Rattle.bay_process.specs.Layout.{layout_of, switches_of}
use Rattle.bay_process.specs.ModelRows.{IsModelBound, IsModelled}
use Rattle.bay_process.proofs.KeptLemmas.{kept-stays}
use Rattle.bay_process.proofs.ModelLemmas.{lost-inputs-keep}
use Rattle.bay_mms_services.specs.Bay.{Bay}
use Rattle.bay_device.proofs.HeldLemmas.{all-noted}
use Rattle.bay_device.proofs.state.DeviceState.lose_inputs.Goals as goal

pub invariant_of-self : goal.invariant_of-self
invariant_of-self c =
    let d = c.args.self.now in
    let ss = switches_of d.bay.switches in
    let did = c.lose_inputs.ensures in
    let model : IsModelBound (layout_of d.bay.tree) d.inputs ss c.in-Some.model =
    subst (IsModelled (layout_of d.bay.tree) d.inputs ss) c.in-Some.is d.modelled in
    let written = ap (λ (b : Bay). b.rows) (did.after d.inputs ss model) in
    record {
      bound = rw (did.layout, did.switches) d.bound;
      metered = rw did.layout d.metered;
      valued = ap length c.clear.ensures ∙ length-map d.input_values (λ _. false) ∙ d.valued;
      modelled = rw (did.layout, did.switches) d.modelled;
      released = rw (written, did.switches) (kept-stays d.bay.tree _ _ d.releases d.released
          (lost-inputs-keep Two d.inputs ss c.args.now d.bay.tree));
      tabled = rw did.switches d.tabled;
      typed = d.typed;
      spans_sized = rw did.switches d.spans_sized;
      few = d.few;
      spanned = d.spanned;
      held = all-noted c.all_points-self.result _ d.reads _ c.all_points-self.ensures.from
          c.all_points-self.ensures.to;
    }
