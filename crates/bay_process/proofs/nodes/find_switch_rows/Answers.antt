use Rattle.bay_process.specs.Nodes.{nodes_names}
use Rattle.bay_process.proofs.NodeLemmas.{are-there, found-switch}
use Rattle.bay_process.proofs.nodes.find_switch_rows.Goals as goal

pub find_status_rows-requires : goal.find_status_rows-requires
find_status_rows-requires c = rw c.as_str-node.ensures (are-there _ _ _ c.requires.position)

pub find_status_rows-requires-2 : goal.find_status_rows-requires-2
find_status_rows-requires-2 c = rw c.as_str-control.ensures (are-there _ _ _ c.requires.control)

pub find_status_rows-requires-3 : goal.find_status_rows-requires-3
find_status_rows-requires-3 c = rw c.as_str-node.ensures (are-there _ _ _ c.requires.operations)

pub find_status_rows-requires-4 : goal.find_status_rows-requires-4
find_status_rows-requires-4 c =
    rw c.as_str-interlocking.ensures (are-there _ _ _ c.requires.ena_opn)

pub find_status_rows-requires-5 : goal.find_status_rows-requires-5
find_status_rows-requires-5 c =
    rw c.as_str-interlocking.ensures (are-there _ _ _ c.requires.ena_cls)

pub returns : goal.returns
returns c =
    found-switch c.args.tree.now (nodes_names c.args.nodes.now) _ c.requires
    (rw c.as_str-node.ensures at c.in_ok-position.ensures)
    (rw c.as_str-control.ensures at c.in_ok-repeated.ensures)
    (rw c.as_str-node.ensures at c.in_ok-operations.ensures)
    (rw c.as_str-interlocking.ensures at c.in_ok-ena_opn.ensures)
    (rw c.as_str-interlocking.ensures at c.in_ok-ena_cls.ensures)
