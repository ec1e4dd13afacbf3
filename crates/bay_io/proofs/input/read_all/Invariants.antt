use Rattle.std.proofs.Common.{◌≡◌, ◌≤◌, false, is_ok, length}
use Rattle.bay_io.proofs.ReadLemmas.{HasAsked}
use Rattle.bay_io.proofs.input.read_all.Given as goal

abbrev pub invariant-loop-turn : goal.invariant-loop-turn
invariant-loop-turn g l = record {
  within : l.count ≤ l.limit;
  at_least : l.turn ≤ l.count;
  calls_made : HasAsked g.R.OctetSource.does l.initial.reader.inner l.initial.reader.has_failed
      l.reader.inner l.reader.has_failed (g.R.OctetSource.remaining l.initial.reader.inner)
      (g.R.OctetSource.remaining l.reader.inner) l.turn l.count (is_ok l.kept) l.all.items;
  quiet : l.reader.has_failed ≡ false;
  sized : length l.piece ≡ 65536;
}
