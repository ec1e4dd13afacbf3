use Rattle.std.proofs.Common.{◌≡◌, ap, sym, length}
use Rattle.bay_nodes.specs.declared.profile.Profile.TheVariants.{Two}
use Rattle.bay_process.specs.Layout.{layout_of, switches_of}
use Rattle.bay_process.specs.Model.{rows_after_input}
use Rattle.bay_mms_services.specs.Views.{bay_view}
use Rattle.bay_mms_services.proofs.PlaceLemmas.{names-kept, rows-kept}
use Rattle.bay_device.proofs.ApartLemmas.{shows-input}
use Rattle.bay_device.proofs.process.input.Goals as goal

pub invariant_of-bay : goal.invariant_of-bay
invariant_of-bay c =
    let d = c.args.bay.now in
    let bound = c.requires.bound in
    let did = c.apply_input.ensures in
    let written : c.apply_input.new.tree
    ≡ rows_after_input Two bound.0 bound.1 c.args.input c.args.value c.args.now d.tree =
    did.rows bound.0 bound.1 bound.2 in
    record {
      listed = names-kept _ d.tree d.names (sym did.layout) d.listed;
      placed = rw did.layout d.placed;
      controlled = rows-kept _ d.tree d.control_rows (sym did.layout) d.controlled;
      sized = d.sized;
      timed = d.timed;
      quiet = rw written (shows-input (length (switches_of d.switches)) Two bound.0 bound.1
          c.args.input c.args.value c.args.now d.tree d.quiet);
    }

pub returns-clause-after : goal.returns-clause-after
returns-clause-after c inputs switches bound =
    ap (λ rows. record (bay_view c.args.bay.now) { rows = rows })
    (c.apply_input.ensures.rows inputs switches bound)
