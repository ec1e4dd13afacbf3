use Rattle.std.proofs.Common.{◌≡◌, ◌∙◌, sym, subst}
use Rattle.bay_tree.specs.declared.leaf.LeafType.TheVariants.{Truth}
use Rattle.bay_nodes.specs.Names.{control_names, control_names_of, cswi_name}
use Rattle.bay_process.specs.Controls.{AreControlRows}
use Rattle.bay_process.specs.Nodes.{HasLeaf}
use Rattle.bay_process.specs.declared.controls.ControlRows.{ControlRows}
use Rattle.bay_process.proofs.ListLemmas.{each-snoc, length-snoc}
use Rattle.bay_process.proofs.NodeLemmas.{selected-leaf_type}
use Rattle.bay_process.proofs.controls.control_rows.Goals as goal

pub selected_at-requires : goal.selected_at-requires
selected_at-requires c =
    let named : c.as_str-node.result.now ≡ cswi_name c.loop-index.index =
    c.as_str-node.ensures ∙ c.in_ok-name.ensures in
    subst (λ n. HasLeaf c.args.tree.now (control_names_of n).selected Truth) (sym named)
    (c.requires c.loop-index.index c.loop-index-test.true)

pub loop-index-preserved : goal.loop-index-preserved
loop-index-preserved c =
    let rows = c.args.tree.now in
    let items = c.loop-index.controls.items in
    let named : c.as_str-node.result.now ≡ cswi_name c.loop-index.index =
    c.as_str-node.ensures ∙ c.in_ok-name.ensures in
    let has =
    subst (λ n. HasLeaf rows (control_names_of n).selected Truth) (sym named)
    (c.requires c.loop-index.index c.loop-index-test.true) in
    let handles : ControlRows = record {
      selected = c.in_ok-selected.selected;
      select = c.in_ok-select.select;
      select_with_value = c.in_ok-select_with_value.select_with_value;
      operate = c.in_ok-operate.operate;
      cancel = c.in_ok-cancel.cancel;
    } in
    let own : AreControlRows rows (control_names_of c.as_str-node.result.now) handles = record {
      selected = c.in_ok-selected.ensures;
      selected_type =
          selected-leaf_type rows _ c.in_ok-selected.selected has c.in_ok-selected.ensures;
      select = c.in_ok-select.ensures;
      select_with_value = c.in_ok-select_with_value.ensures;
      operate = c.in_ok-operate.ensures;
      cancel = c.in_ok-cancel.ensures;
    } in
    rw c.in_ok-push.ensures.items record {
      sized = length-snoc items _ c.loop-index.index c.loop-index.invariant.sized;
      named = each-snoc (λ k. AreControlRows rows (control_names k)) items _
          c.loop-index.invariant.named
          (rw c.loop-index.invariant.sized
          (subst (λ n. AreControlRows rows (control_names_of n) handles) named own));
    }
