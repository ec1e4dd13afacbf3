use Rattle.std.proofs.Common.{◌∙◌, ap}
use Rattle.bay_process.specs.Layout.{bound_from}
use Rattle.bay_process.proofs.parts.bind_switch_rows.Goals as goal

pub returns : goal.returns
returns c = record {
  rows = c.in_ok-rows.rows.items;
  sized = c.in_ok-rows.ensures.sized;
  named = c.in_ok-rows.ensures.named;
  is = c.in_ok-bound.ensures
      ∙ ap (bound_from c.args.writes.now 0 c.args.switches.items) c.as_slice.ensures.value;
}
