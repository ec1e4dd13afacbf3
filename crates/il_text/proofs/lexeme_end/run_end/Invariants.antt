use Rattle.std.proofs.Common.{◌≡◌, ℕ, ◌-◌, ◌<◌, true, slice_index}
use Rattle.il_text.specs.Characters.{are_linked}
use Rattle.il_text.proofs.lexeme_end.run_end.Given as goal

abbrev pub invariant-loop-end : goal.invariant-loop-end
invariant-loop-end l = (k : ℕ) → l.start < k → k < l.end
    → are_linked (slice_index l.bytes (k - 1)) (slice_index l.bytes k) ≡ true
