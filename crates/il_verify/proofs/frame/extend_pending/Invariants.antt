use Rattle.std.proofs.Common.{ℕ, ◌≡◌, length}
use Rattle.il_verify.specs.Frames.{plain_frames}
use Rattle.il_verify.proofs.frame.extend_pending.Given as goal

abbrev pub invariant-loop : goal.invariant-loop
invariant-loop l = record {
  counted : l.counter ≡ length l.pending.items;
  same : (q : ℕ) → plain_frames l.pending.items q ≡ plain_frames l.initial.pending.items q;
}
