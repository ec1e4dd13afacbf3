use Rattle.std.proofs.Common.{◌∙◌, sym, subst}
use Rattle.bay_tree.specs.Rows.{IsTree}
use Rattle.bay_nodes.proofs.NodeLemmas.{all-joined}
use Rattle.bay_nodes.proofs.NumberLemmas.{rows-make-tree}
use Rattle.bay_nodes.proofs.rows.rows_of.Goals as goal

pub returns-clause-rows : goal.returns-clause-rows
returns-clause-rows c =
    c.new.ensures
    ∙ all-joined c.args.nameplate.now c.args.switches.now c.args.inputs.now c.args.meters.now
    c.in_ok-rows.rows.items c.push_device.new.rows.items c.push_positions.new.rows.items
    c.push_positions-2.new.rows.items c.push_controls.new.rows.items
    c.push_interlockings.new.rows.items c.push_meters.new.rows.items
    c.push_input_node.new.rows.items c.in_ok-rows.ensures.items c.in_ok-push_device.ensures
    c.in_ok-push_positions.ensures c.in_ok-push_positions-2.ensures c.in_ok-push_controls.ensures
    c.in_ok-push_interlockings.ensures c.in_ok-push_meters.ensures
    c.in_ok-push_input_node.ensures

pub returns-clause-tree : goal.returns-clause-tree
returns-clause-tree c =
    λ few_switches few_inputs few_meters. subst IsTree (sym (returns-clause-rows c))
    (rows-make-tree c.args.nameplate.now c.args.switches.now c.args.inputs.now c.args.meters.now
    few_switches few_inputs few_meters)
