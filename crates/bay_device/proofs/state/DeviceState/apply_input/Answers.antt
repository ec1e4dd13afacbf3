use Rattle.std.proofs.Common.{◌≡◌, length, subst, ap, ◌∙◌}
use Rattle.std.proofs.lemmas.List.{length-set}
use Rattle.bay_nodes.specs.declared.profile.Profile.TheVariants.{Two}
use Rattle.bay_process.specs.Layout.{layout_of, switches_of}
use Rattle.bay_process.specs.ModelRows.{IsModelBound, IsModelled}
use Rattle.bay_process.proofs.KeptLemmas.{kept-stays}
use Rattle.bay_process.proofs.ModelLemmas.{input-keeps}
use Rattle.bay_mms_services.specs.Bay.{Bay}
use Rattle.bay_device.proofs.HeldLemmas.{all-noted}
use Rattle.bay_device.proofs.state.DeviceState.apply_input.Goals as goal

pub invariant_of-self : goal.invariant_of-self
invariant_of-self c =
    let d = c.args.self.now in
    let ss = switches_of d.bay.switches in
    let did = c.input.ensures in
    let model : IsModelBound (layout_of d.bay.tree) d.inputs ss c.in-Some.model =
    subst (IsModelled (layout_of d.bay.tree) d.inputs ss) c.in-Some.is d.modelled in
    let written = ap (λ (b : Bay). b.rows) (did.after d.inputs ss model) in
    record {
      bound = rw (did.layout, did.switches) d.bound;
      metered = rw did.layout d.metered;
      valued = ap length c.set.ensures ∙ length-set d.input_values c.args.input c.args.value
          ∙ d.valued;
      modelled = rw (did.layout, did.switches) d.modelled;
      released = rw (written, did.switches) (kept-stays d.bay.tree _ _ d.releases d.released
          (input-keeps Two d.inputs ss c.args.input c.args.value c.args.now d.bay.tree));
      tabled = rw did.switches d.tabled;
      typed = d.typed;
      spans_sized = rw did.switches d.spans_sized;
      few = d.few;
      spanned = d.spanned;
      held = all-noted c.all_points-self.result _ d.reads _ c.all_points-self.ensures.from
          c.all_points-self.ensures.to;
    }
