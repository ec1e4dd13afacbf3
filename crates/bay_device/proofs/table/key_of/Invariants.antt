use Rattle.std.proofs.Common.{◌≡◌, ◌<◌, drop}
use Rattle.std.specs.List.{fold}
use Rattle.bay_device.specs.Table.{key_after, key_of}
use Rattle.bay_device.proofs.table.key_of.Given as goal

abbrev pub invariant-loop-octet : goal.invariant-loop-octet
invariant-loop-octet l = record {
  within : l.key < 64;
  folded : key_of l.name ≡ fold key_after l.key (drop l.octet-index l.name);
}
