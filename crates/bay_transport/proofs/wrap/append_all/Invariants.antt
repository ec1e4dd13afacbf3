use Rattle.std.proofs.Common.{◌≡◌, ◌-◌, ◌≤◌, ◌++◌, length, drop}
use Rattle.bay_transport.specs.Wrap.{tpdus_of}
use Rattle.bay_transport.proofs.wrap.append_all.Given as goal

abbrev pub invariant-loop-at : goal.invariant-loop-at
invariant-loop-at l = record {
  within : l.at ≤ length l.octets;
  text : l.out.items ++ tpdus_of l.size (drop l.at l.octets)
      ≡ l.initial.out.items ++ tpdus_of l.size l.octets;
}

abbrev pub decreases-loop-at : goal.decreases-loop-at
decreases-loop-at l = length l.octets - l.at
