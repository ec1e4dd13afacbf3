use Rattle.std.proofs.Common.{◌<◌, length}
use Rattle.bay_tree.proofs.LinkLemmas.{IsLinkedFrom}
use Rattle.bay_tree.proofs.link.build_links.Given as goal

-- the links, as far as the rows from the place on tell
abbrev pub invariant-loop-place : goal.invariant-loop-place
invariant-loop-place l = record {
  linked : IsLinkedFrom l.place l.rows l.links.items;
  near : 0 < length l.rows → l.last < length l.rows;
}
