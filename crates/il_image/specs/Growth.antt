-- Octets after a write that failed.
use Rattle.std.specs.Prelude.{ℕ, ◌≡◌, List, ◌++◌}

-- ---- own: octets after a write that failed

-- The new octets are the old ones with some, or none, appended.
pub record Extends (old new : List ℕ) : Type 0 where
  pub more : List ℕ
  pub is : new ≡ old ++ more
