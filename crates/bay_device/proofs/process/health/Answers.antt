use Rattle.std.proofs.Common.{◌≡◌, ap, sym, length}
use Rattle.bay_nodes.specs.declared.profile.Profile.TheVariants.{Two}
use Rattle.bay_process.specs.Layout.{layout_of, switches_of}
use Rattle.bay_mms_services.specs.Views.{bay_view}
use Rattle.bay_mms_services.proofs.PlaceLemmas.{names-kept, rows-kept}
use Rattle.bay_device.proofs.ApartLemmas.{shows-health}
use Rattle.bay_device.proofs.process.health.Goals as goal

pub invariant_of-bay : goal.invariant_of-bay
invariant_of-bay c =
    let d = c.args.bay.now in
    let did = c.apply_health.ensures in
    record {
      listed = names-kept _ d.tree d.names (sym did.layout) d.listed;
      placed = rw did.layout d.placed;
      controlled = rows-kept _ d.tree d.control_rows (sym did.layout) d.controlled;
      sized = d.sized;
      timed = d.timed;
      quiet = rw did.rows (shows-health (length (switches_of d.switches)) Two c.args.is_lost
          c.args.now d.tree d.quiet);
    }

pub returns-clause-after : goal.returns-clause-after
returns-clause-after c =
    ap (λ rows. record (bay_view c.args.bay.now) { rows = rows }) c.apply_health.ensures.rows
