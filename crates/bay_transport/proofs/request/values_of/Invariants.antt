use Rattle.std.proofs.Common.{◌-◌, ◌≤◌, length, drop}
use Rattle.std.specs.Option.{option_copied}
use Rattle.bay_transport.proofs.RequestLemmas.{Keeps}
use Rattle.bay_transport.proofs.request.values_of.Given as goal

abbrev pub invariant-loop-at : goal.invariant-loop-at
invariant-loop-at l = record {
  within : l.at ≤ length l.octets;
  size : Keeps 0xC0 l.octets (drop l.at l.octets) (option_copied l.values.size);
  called : Keeps 0xC2 l.octets (drop l.at l.octets) (option_copied l.values.called);
  calling : Keeps 0xC1 l.octets (drop l.at l.octets) (option_copied l.values.calling);
}

abbrev pub decreases-loop-at : goal.decreases-loop-at
decreases-loop-at l = length l.octets - l.at
