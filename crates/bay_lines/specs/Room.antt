-- The capacity of the buffer, allocated when it is created.
use Rattle.std.specs.Prelude.{ℕ, ◌≤◌, length, vec_capacity}
use Rattle.std.specs.Global.{Vec}

-- the octets are at most `most`, and the vector has the capacity for that many
pub record HasRoom (most : ℕ) (octets : Vec ℕ) : Type 0 where
  pub within : length octets.items ≤ most
  pub room : most ≤ vec_capacity octets
