use Rattle.std.proofs.Common.{◌<◌, ◌∙◌, length, arith}
use Rattle.std.proofs.lemmas.Option.{slice_get-get_or}
use Rattle.bay_mms_services.proofs.PlaceLemmas.{selected-named}
use Rattle.bay_mms_services.proofs.ShownLemmas.{leaf-type-kept, shown-more}
use Rattle.bay_mms_services.proofs.decisions.clear_selected_rows.Goals as goal

pub put-requires : goal.put-requires
put-requires c =
    let k = c.loop-switch.switch in
    let within : k < length c.args.rows.now = omega (arith, c.loop-switch-test.true) in
    leaf-type-kept c.loop-switch.tree c.args.tree.now _ _ c.loop-switch.invariant.layout
    (c.requires k _ (slice_get-get_or c.args.rows.now k c.index-rows-switch.result
    within)).selected_type

pub loop-switch-preserved : goal.loop-switch-preserved
loop-switch-preserved c =
    let k = c.loop-switch.switch in
    let within : k < length c.args.rows.now = omega (arith, c.loop-switch-test.true) in
    let names =
    c.requires k _ (slice_get-get_or c.args.rows.now k c.index-rows-switch.result within) in
    record {
      rows = shown-more k c.args.tree.now c.loop-switch.tree c.put.new.tree _
          c.loop-switch.invariant.layout (selected-named c.args.tree.now _ _ names.selected)
          c.loop-switch.invariant.rows c.put.ensures.rows;
      layout = c.put.ensures.layout ∙ c.loop-switch.invariant.layout;
    }
