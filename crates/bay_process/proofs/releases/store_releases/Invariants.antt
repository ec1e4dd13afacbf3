use Rattle.std.proofs.Common.{◌≡◌, ◌++◌, drop, length}
use Rattle.bay_process.specs.Layout.{switches_of}
use Rattle.bay_process.specs.Releases.{digits_from}
use Rattle.bay_process.proofs.KeptLemmas.{rest-text}
use Rattle.bay_process.proofs.releases.store_releases.Given as goal

abbrev pub invariant-loop-index : goal.invariant-loop-index
invariant-loop-index l = record {
  enables : rest-text l.tree 0 l.switches
      ≡ l.text.items ++ rest-text l.tree l.index (drop l.index l.switches);
  placed : digits_from 0 (switches_of l.switches)
      ≡ l.offsets.items ++ digits_from (length l.text.items)
      (switches_of (drop l.index l.switches));
}
