-- Lemmas on output that is written or waits.
use Rattle.std.proofs.Common.{◌≡◌, ◌≢◌, ℕ, ◌==◌, false, List, [], ◌∷◌, ◌++◌, length, Option, Some, None, Result, refl, ap, sym, ◌∙◌, append-nil, append_assoc, arith}
use Rattle.std.proofs.KnownBytes.{Appends-trans}
use Rattle.std.proofs.lemmas.Bool.Decides.{nat_tests}
use Rattle.std.specs.Io.KnownBytes.{WriteAppends, append_known}
use Rattle.bay_io.specs.Sent.{Sends}
use Rattle.bay_stdio.specs.Output.{written_octets}

known-nil : (known : Option (List ℕ)) → append_known known [] ≡ known
known-nil None = refl
known-nil (Some xs) = ap Some (append-nil xs)

-- without a queue all is written
pub unqueued : {E : Type 0} (queue old new : Option (List ℕ)) (r : Result ℕ E) (octets : List ℕ)
    → queue ≡ None → WriteAppends old new r octets
    → WriteAppends (written_octets old queue) (written_octets new queue) r octets
unqueued queue old new r octets none w = rw (none, known-nil old, known-nil new) w

-- a front was taken, and then more
pub Sends-then : {a b c : Option (List ℕ)} {given mid left : List ℕ} → Sends a b given mid
    → Sends b c mid left → Sends a c given left
Sends-then {a} {b} {c} {given} {mid} {left} p q = record {
  taken = p.taken ++ q.taken;
  appended = Appends-trans a b c p.taken q.taken p.appended q.appended;
  parts = p.parts ∙ ap (λ l. p.taken ++ l) q.parts ∙ sym (append_assoc p.taken q.taken left);
}

-- some is left
pub some-left : (xs : List ℕ) → xs ≢ [] → false ≡ (length xs == 0)
some-left [] some = absurd (some refl)
some-left (x ∷ xs) some = sym (grind (arith, nat_tests))
