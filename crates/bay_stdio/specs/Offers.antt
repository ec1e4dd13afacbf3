-- Octets that are offered to a sink until it accepts no more.
use Rattle.std.specs.Prelude.{◌≡◌, ◌≢◌, ℕ, Bool, true, false, List, [], Option, Some, None, ◌⊎◌}
use Rattle.bay_io.specs.Calls.{WriteCall, Write}
use Rattle.bay_io.specs.Sent.{Sends}

-- All octets were accepted; or the last call offered the rest, and the sink accepted none of it.
abbrev pub OfferStops : {S : Type 0} → (S → WriteCall → S → Type 0) → List ℕ → S → Type 0
OfferStops {S} does rest new = (rest ≡ []) ⊎ ((mid : S) × does mid (Write rest (Some 0)) new)

-- How offering ends: it stops; or the last call offered the rest, and failed.
abbrev pub OfferEnds : {S : Type 0} → (S → WriteCall → S → Type 0) → List ℕ → S → Bool → Type 0
OfferEnds does rest new true = OfferStops does rest new
OfferEnds {S} does rest new false = (rest ≢ []) × ((mid : S) × does mid (Write rest None) new)

-- A queue was written as far as the sink accepted it: the sink accepted a prefix, and the rest
-- waits. `done` is false if the last call failed.
pub record OffersQueue {S : Type 0} (contents : S → Option (List ℕ))
    (does : S → WriteCall → S → Type 0)
    (before : List ℕ) (old : S) (after : List ℕ) (new : S) (done : Bool) : Type 0 where
  pub sends : Sends (contents old) (contents new) before after
  pub left : OfferEnds does after new done
