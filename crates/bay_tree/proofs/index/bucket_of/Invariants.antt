use Rattle.std.proofs.Common.{◌≡◌, take}
use Rattle.std.specs.List.{fold}
use Rattle.bay_tree.specs.Arena.{hash_with}
use Rattle.bay_tree.proofs.index.bucket_of.Given as goal

-- the hash of the octets so far
abbrev pub invariant-loop-octet : goal.invariant-loop-octet
invariant-loop-octet l = l.hash ≡ fold hash_with 0 (take l.octet-index l.name)
