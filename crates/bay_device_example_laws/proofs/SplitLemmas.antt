-- Where a part of a list of one or two stands.
use Rattle.std.proofs.Common.{◌≡◌, zero, suc, List, [], ◌∷◌, ◌++◌, ◌⊎◌, inl, inr, arith}
use Rattle.std.specs.Prelude.{All}

module _ {X : Type 0} where
  pub none-there : (before behind : List X) (it : X) → [] ≡ before ++ it ∷ behind → ⊥
  none-there [] behind it h = absurd cc
  none-there (x ∷ before) behind it h = absurd cc

  -- of one
  pub one-there : (e : X) (before behind : List X) (it : X) → e ∷ [] ≡ before ++ it ∷ behind
      → it ≡ e
  one-there e [] behind it h = cc
  one-there e (x ∷ before) behind it h =
      let rest : [] ≡ before ++ it ∷ behind = cc in absurd (none-there before behind it rest)

  none-before : (f : X) (before behind : List X) (it : X) → f ∷ [] ≡ before ++ it ∷ behind
      → before ≡ []
  none-before f [] behind it h = cc
  none-before f (x ∷ before) behind it h =
      let rest : [] ≡ before ++ it ∷ behind = cc in absurd (none-there before behind it rest)

  -- of two: it is the first, or the second behind the first
  pub two-there : (e f : X) (before behind : List X) (it : X)
      → e ∷ f ∷ [] ≡ before ++ it ∷ behind
      → ((it ≡ e) × (behind ≡ f ∷ [])) ⊎ ((it ≡ f) × (before ≡ e ∷ []))
  two-there e f [] behind it h = inl (cc, cc)
  two-there e f (x ∷ before) behind it h =
      let rest : f ∷ [] ≡ before ++ it ∷ behind = cc in
      let last : it ≡ f = one-there f before behind it rest in
      let alone : before ≡ [] = none-before f before behind it rest in
      inr (last, cc)

  pub all-one : (P : X → Type 0) (x : X) → P x → All P (x ∷ [])
  all-one P x p zero d lt = p
  all-one P x p (suc k) d lt = absurd (omega arith)
