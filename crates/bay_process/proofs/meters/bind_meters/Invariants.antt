use Rattle.std.proofs.Common.{◌≡◌, length, map, take}
use Rattle.bay_process.specs.Layout.{layout_of, meters_of, AreMetersBound}
use Rattle.bay_nodes.specs.declared.meter.Meter.{Meter}
use Rattle.bay_process.proofs.meters.bind_meters.Given as goal

abbrev pub invariant-loop-i : goal.invariant-loop-i
invariant-loop-i l = record {
  sized : length l.bound.items ≡ l.i;
  ids : meters_of l.bound.items ≡ map (λ (m : Meter). m.id) (take l.i l.meters);
  bound : AreMetersBound (layout_of l.tree) l.bound.items;
}
