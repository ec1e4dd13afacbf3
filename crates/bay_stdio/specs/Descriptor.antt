-- The view of a descriptor: its writer.
use Rattle.std.specs.Prelude.{ℕ, Bool, List, Option}

-- the writer, and whether a write waits until the descriptor accepts octets
pub record DescriptorData (W : Type 0) : Type 0 where
  pub writer : W
  pub waits : Bool

-- the octets that a descriptor accepted: those that its writer accepted
abbrev pub accepted_octets : {W : Type 0} → (W → Option (List ℕ)) → DescriptorData W
    → Option (List ℕ)
accepted_octets contents descriptor = contents descriptor.writer
