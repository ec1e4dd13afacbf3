use Rattle.std.proofs.Common.{◌-◌, ◌≤◌, length}
use Rattle.std.specs.Prelude.{option_map}
use Rattle.il_verify.specs.Frames.{with_value_at, plain_frame, plain_frames}
use Rattle.il_verify.proofs.PassLemmas.{Passing}
use Rattle.il_verify.proofs.pass.pass.Given as goal

abbrev pub invariant-loop-place : goal.invariant-loop-place
invariant-loop-place l = record {
  passing : Passing l.image l.place l.budget l.depth
      (with_value_at l.place (option_map plain_frame l.frame) (plain_frames l.pending.items));
  room : length l.image.code ≤ length l.pending.items;
}

abbrev pub decreases-loop-place : goal.decreases-loop-place
decreases-loop-place l = length l.image.code - l.place
