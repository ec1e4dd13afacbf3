use Rattle.std.proofs.Common.{◌≡◌, ℕ, ◌-◌, length, Some}
use Rattle.il_image.specs.Tables.{offset_of}
use Rattle.il_verify.proofs.OrderLemmas.{MarksBelow}
use Rattle.il_verify.proofs.plan.starts_of.Given as goal

abbrev pub invariant-loop-place : goal.invariant-loop-place
invariant-loop-place l = record {
  size : length l.starts.items ≡ length l.code;
  number : (n : ℕ) × (offset_of l.code n ≡ Some l.place);
  marks : MarksBelow l.code l.place l.starts.items;
}

abbrev pub decreases-loop-place : goal.decreases-loop-place
decreases-loop-place l = length l.code - l.place
