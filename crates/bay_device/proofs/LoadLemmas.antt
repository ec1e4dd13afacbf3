-- What load makes of a bay and a verified image.
use Rattle.std.proofs.Common.{◌≡◌, ◌≢◌, ℕ, Bool, true, false, cond, nat_le, Result, Ok, Err, List, [], length, refl, subst, ap, sym, ◌∙◌}
use Rattle.std.proofs.lemmas.List.{length-map}
use Rattle.bay_process.specs.Layout.{AreBound, Layout, bound_from, switches_of}
use Rattle.bay_process.specs.Nodes.{AreSwitchNodes}
use Rattle.bay_process.specs.Parts.{AreBoundSwitches}
use Rattle.bay_process.specs.declared.nodes.SwitchNodes.{SwitchNodes}
use Rattle.bay_process.proofs.BoundLemmas.{are-bound, bound-switches}
use Rattle.bay_process.specs.declared.switch.BoundSwitch.{BoundSwitch}
use Rattle.bay_mms_services.specs.Bay as services
use Rattle.bay_config.specs.declared.bay.Bay.{Bay}
use Rattle.bay_base.specs.declared.point.Source.{Source}
use Rattle.bay_nodes.specs.declared.profile.Profile.{Profile}
use Rattle.bay_nodes.specs.declared.switch.Switch.{Switch}
use Rattle.il_image.specs.Images.{Image}
use Rattle.il_check.specs.Program.{Checked}
use Rattle.il_compile.specs.Compiled.{compiled_of, image_of, image_size}
use Rattle.il_compile.specs.declared.fault.CompileFault.{CompileFault}
use Rattle.il_compile.specs.declared.fault.CompileFault.TheVariants.{CodeTooLong}
use Rattle.il_scan.specs.Scans.{MachineData}
use Rattle.bay_device.specs.Device.{State, bay_of, with_bay}
use Rattle.bay_device.specs.Load.{initial_device}

-- a device before its first event, of a bay that is bound
pub loaded-view : (bay : Bay) (image : Image) (served : services.Bay) (age : ℕ)
    (inputs : List (List ℕ)) (input_values : List Bool) (meters : List (List ℕ))
    (profile : Profile) (reads writes : List Source) (machine : MachineData)
    → let s : State = initial_device bay image in
    served ≡ record (bay_of s) { inputs = [] } → age ≡ s.scan_max_age_ms → inputs ≡ s.inputs
    → input_values ≡ s.input_values → meters ≡ s.meters → profile ≡ s.profile → reads ≡ s.reads
    → writes ≡ s.writes → machine ≡ s.machine
    → record (with_bay served s) {
      scan_max_age_ms = age;
      inputs = inputs;
      input_values = input_values;
      meters = meters;
      profile = profile;
      reads = reads;
      writes = writes;
      machine = machine;
    } ≡ s
loaded-view bay image served age inputs input_values meters profile reads writes machine b a n i m
    p e f h =
    let s : State = initial_device bay image in
    ap (λ x. record (with_bay x s) {
      scan_max_age_ms = age;
      inputs = inputs;
      input_values = input_values;
      meters = meters;
      profile = profile;
      reads = reads;
      writes = writes;
      machine = machine;
    }) b
    ∙ ap (λ x. record s {
      scan_max_age_ms = x;
      inputs = inputs;
      input_values = input_values;
      meters = meters;
      profile = profile;
      reads = reads;
      writes = writes;
      machine = machine;
    }) a
    ∙ ap (λ x. record s {
      inputs = x;
      input_values = input_values;
      meters = meters;
      profile = profile;
      reads = reads;
      writes = writes;
      machine = machine;
    }) n
    ∙ ap (λ x. record s {
      input_values = x;
      meters = meters;
      profile = profile;
      reads = reads;
      writes = writes;
      machine = machine;
    }) i
    ∙ ap (λ x. record s {
      meters = x;
      profile = profile;
      reads = reads;
      writes = writes;
      machine = machine;
    }) m
    ∙ ap (λ x. record s { profile = x; reads = reads; writes = writes; machine = machine }) p
    ∙ ap (λ x. record s { reads = x; writes = writes; machine = machine }) e
    ∙ ap (λ x. record s { writes = x; machine = machine }) f
    ∙ ap (λ x. record s { machine = x }) h

-- what was bound of a bay's switches
pub record IsBoundTo (bay : Bay) (layout : Layout) (writes : List Source)
    (bound : List BoundSwitch) : Type 0 where
  pub switches : switches_of bound ≡ bay.switches
  pub sized : length bound ≡ length bay.switches
  pub placed : AreBound layout writes bound

pub bound-to : (bay : Bay) (nodes : List SwitchNodes) (layout : Layout) (writes : List Source)
    (taken : List Switch) (bound : List BoundSwitch) → AreSwitchNodes bay nodes
    → length nodes ≡ length bay.switches → taken ≡ bay.switches
    → AreBoundSwitches layout writes taken nodes bound → IsBoundTo bay layout writes bound
bound-to bay nodes layout writes taken bound named sized same did =
    let is : bound ≡ bound_from writes 0 bay.switches did.rows =
    did.is ∙ ap (λ ss. bound_from writes 0 ss did.rows) same in
    let all : switches_of bound ≡ bay.switches =
    ap switches_of is
    ∙ bound-switches writes 0 bay.switches did.rows (sym (did.sized ∙ sized)) in
    record {
      switches = all;
      sized = sym (length-map bound (λ (b : BoundSwitch). b.switch)) ∙ ap length all;
      placed = subst (λ (bs : List BoundSwitch). AreBound layout writes bs) (sym is)
          (are-bound bay nodes layout writes did.rows named did.named sized did.sized);
    }

image-if : (b : Bool) (image made : Image)
    → cond b (Ok made) (Err CodeTooLong) ≡ (let r : Result Image CompileFault = Ok image in r)
    → image ≡ made
image-if true image made e = cc
image-if false image made e = absurd cc

-- what is compiled is the program's image
pub image-is : (c : Checked) (image : Image) → compiled_of c ≡ Ok image → image ≡ image_of c
image-is c image e = image-if (nat_le (image_size c) 65_535) image (image_of c) e
