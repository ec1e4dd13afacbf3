use Rattle.std.proofs.Common.{◌++◌, ◌∷◌, ◌∙◌, None, codes, ap}
use Rattle.bay_nodes.specs.declared.subject.Subject.TheVariants.{Device}
use Rattle.bay_nodes.specs.Node.{row}
use Rattle.bay_nodes.specs.NodeRows.{table_rows}
use Rattle.bay_nodes.proofs.NodeLemmas.{device-appended}
use Rattle.bay_nodes.proofs.rows.push_device.Goals as goal

pub returns : goal.returns
returns c =
    let n = c.args.nameplate.now in
    let t = c.physical_table-physical.result.now in
    c.in_ok-push_node-2.ensures
    ∙ ap (λ rs. rs ++ row (codes "LPHD1") None ∷ table_rows n Device (codes "LPHD1") t)
    c.in_ok-push_node.ensures
    ∙ device-appended n c.args.rows.now.items c.device_table-device.result.now t
    (c.device_table-device.ensures n) (c.physical_table-physical.ensures n)
