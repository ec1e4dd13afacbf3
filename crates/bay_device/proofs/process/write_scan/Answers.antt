use Rattle.std.proofs.Common.{◌≡◌, sym, length}
use Rattle.bay_process.specs.Layout.{layout_of, switches_of}
use Rattle.bay_process.specs.Scans.{rows_after_outputs}
use Rattle.bay_mms_services.proofs.PlaceLemmas.{names-kept, rows-kept}
use Rattle.bay_device.proofs.ApartLemmas.{shows-scan}
use Rattle.bay_device.proofs.process.write_scan.Goals as goal

pub write_outputs-requires-clause-interlocked : goal.write_outputs-requires-clause-interlocked
write_outputs-requires-clause-interlocked c = rw c.as_slice.ensures c.requires.interlocked

pub invariant_of-bay : goal.invariant_of-bay
invariant_of-bay c =
    let d = c.args.bay.now in
    let did = c.write_outputs.ensures in
    let written : c.write_outputs.new.tree
    ≡ rows_after_outputs (layout_of d.tree) d.switches c.args.outputs.now c.args.now d.tree =
    rw c.as_slice.ensures at did.rows in
    record {
      listed = names-kept _ d.tree d.names (sym did.layout) d.listed;
      placed = rw did.layout d.placed;
      controlled = rows-kept _ d.tree d.control_rows (sym did.layout) d.controlled;
      sized = d.sized;
      timed = d.timed;
      quiet = rw written (shows-scan (length (switches_of d.switches)) (layout_of d.tree)
          c.args.outputs.now c.args.now d.switches d.tree c.requires.interlocked d.quiet);
    }
