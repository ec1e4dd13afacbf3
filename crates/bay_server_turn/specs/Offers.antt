-- Octets that are offered to a link.
use Rattle.std.specs.Prelude.{ℕ, zero, suc, ◌+◌, Bool, false, if◌then◌else◌, List, [], ◌∷◌, ◌++◌, drop, Some, None}
use Rattle.bay_server_turn.specs.Calls.{Call, Writes}

-- what the link takes of an offer: one number for each write that takes something, and whether the
-- last write fails
pub record Offer : Type 0 where
  pub takes : List ℕ
  pub fails : Bool

-- the result of an offer: what is left, whether a write failed, and the calls
pub record OfferOutcome : Type 0 where
  pub left : List ℕ
  pub failed : Bool
  pub calls : List Call

-- an outcome with this call before its calls
abbrev pub after_call : Call → OfferOutcome → OfferOutcome
after_call call o = record { left = o.left; failed = o.failed; calls = call ∷ o.calls }

-- an outcome with these calls before its calls
abbrev pub after_calls : List Call → OfferOutcome → OfferOutcome
after_calls calls o = record { left = o.left; failed = o.failed; calls = calls ++ o.calls }

-- the last write of an offer: it fails, or takes nothing
abbrev pub last_write : ℕ → List ℕ → Bool → OfferOutcome
last_write a octets fails =
    record {
      left = octets;
      failed = fails;
      calls = Writes a octets (if fails then None else Some 0) ∷ [];
    }

-- Octets are offered until none is left, until a write takes none, or until one fails. `takes` has
-- what the link takes at each write.
abbrev pub offer_outcome : ℕ → List ℕ → List ℕ → Bool → OfferOutcome
offer_outcome a [] takes fails = record { left = []; failed = false; calls = [] }
offer_outcome a (x ∷ xs) [] fails = last_write a (x ∷ xs) fails
offer_outcome a (x ∷ xs) (zero ∷ takes) fails = last_write a (x ∷ xs) false
offer_outcome a (x ∷ xs) (suc n ∷ takes) fails =
    after_call (Writes a (x ∷ xs) (Some (n + 1))) (offer_outcome a (drop n xs) takes fails)
