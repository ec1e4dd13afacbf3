use Rattle.std.proofs.Common.{◌≤◌, length, take}
use Rattle.std.specs.Io.KnownBytes.{Appends}
use Rattle.bay_server_turn.proofs.record.write_prefix.Given as goal

abbrev pub invariant-loop : goal.invariant-loop
invariant-loop g l = record {
  within : l.taken ≤ length l.octets;
  bytes : Appends (g.W.Write.contents l.initial.writer) (g.W.Write.contents l.writer)
      (take l.taken l.octets);
}
