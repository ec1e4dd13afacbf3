use Rattle.std.proofs.Common.{◌≡◌, ◌≤◌, ◌++◌, ◌*◌, drop, length}
use Rattle.bay_lines.specs.Escaped.{escaped_octets}
use Rattle.bay_lines.proofs.escaped.escape_all.Given as goal

abbrev pub invariant-loop-octet : goal.invariant-loop-octet
invariant-loop-octet l = record {
  goes : l.text.items ++ escaped_octets (drop l.octet-index l.octets) ≡ escaped_octets l.octets;
  few : length l.text.items ≤ 4 * l.octet-index;
}
