-- A failed link is told only where a call failed.
use Rattle.std.proofs.Common.{Bool, List, [], ap, arith, false, inl, inr, refl, true, ℕ, ◌++◌, ◌<◌, ◌||◌, ◌∷◌, ◌≡◌, ◌≤◌, ◌⊎◌}
use Rattle.bay_server_turn.specs.Calls.{Call, CountedCall, MakesCalls, failures_after, is_failed}
use Rattle.bay_server_turn.specs.declared.turn_report.CloseReason.{CloseReason}
use Rattle.bay_server_turn_laws.specs.Causes.{has_some}
use Rattle.bay_server_turn_laws.specs.Faults.{is_link_failed, reports_failure}

pub tells-append : (xs : List (ℕ × CloseReason)) (a : ℕ) (closing : CloseReason)
    → is_link_failed closing ≡ false
    → reports_failure (xs ++ (a, closing) ∷ []) ≡ reports_failure xs
tells-append [] a closing e = rw e refl
tells-append (x ∷ xs) a closing e = ap (λ b. is_link_failed x.1 || b) (tells-append xs a closing e)

pub only-failed : (calls : List Call)
    → (reports_failure [] ≡ true) ⊎ (has_some is_failed calls ≡ true)
    → has_some is_failed calls ≡ true
only-failed calls (inl e) = absurd (cc)
only-failed calls (inr e) = e

-- each failure raises the count
module _ {L : Type 0} (does : L → Call → L → Type 0) (failures : L → ℕ) where
  rises : (n : ℕ) (b : Bool) → n ≤ 18446744073709551615
      → (n ≤ failures_after n b) × (failures_after n b ≤ 18446744073709551615)
  rises n true h = (omega arith, omega arith)
  rises n false h = (omega arith, omega arith)

  never-falls : (old : L) (calls : List Call) (new : L)
      → MakesCalls (CountedCall does failures) old calls new
      → failures old ≤ 18446744073709551615 → failures old ≤ failures new
  never-falls old [] new t h = let e : failures old ≡ failures new = ap failures t in omega arith
  never-falls old (call ∷ calls) new t h =
      let e : failures t.0 ≡ failures_after (failures old) (is_failed call) = t.1.counted in
      let r = rises (failures old) (is_failed call) h in
      let later = never-falls t.0 calls new t.2 (omega arith) in
      omega arith

  counts-if : (old mid new : L) (b rest : Bool) → failures mid ≡ failures_after (failures old) b
      → failures old < 18446744073709551615 → (b || rest) ≡ true
      → (failures mid ≤ 18446744073709551615 → failures mid ≤ failures new)
      → (failures mid < 18446744073709551615 → rest ≡ true → failures mid < failures new)
      → failures old < failures new
  counts-if old mid new true rest e h f m r = let later = m (omega arith) in omega arith
  counts-if old mid new false rest e h f m r = let later = r (omega arith) f in omega arith

  pub counts : (old : L) (calls : List Call) (new : L)
      → MakesCalls (CountedCall does failures) old calls new
      → failures old < 18446744073709551615 → has_some is_failed calls ≡ true
      → failures old < failures new
  counts old [] new t h f = absurd (cc)
  counts old (call ∷ calls) new t h f =
      counts-if old t.0 new (is_failed call) (has_some is_failed calls) t.1.counted h f
      (never-falls t.0 calls new t.2) (counts t.0 calls new t.2)
