-- The outputs from a place on.
use Rattle.std.proofs.Common.{◌≡◌, ℕ, zero, suc, ◌+◌, ◌<◌, length, get_or, Bool, true, false, cond, List, [], ◌∷◌, ◌++◌, drop, slice_get, Some, refl, ap, sym, ◌∙◌, add-one, append_assoc}
use Rattle.std.specs.Prelude.{option_to_list}
use Rattle.std.proofs.lemmas.Option.{slice_get-get_or}
use Rattle.il_image.specs.declared.image.ImagePoint.{ImagePoint}
use Rattle.il_range.specs.declared.range.Range.{Range}
use Rattle.il_scan.specs.Scans.{outputs_of}

no-outputs : (points : List ImagePoint)
    → outputs_of points (let none : List Range = [] in none) ≡ []
no-outputs [] = refl
no-outputs (p ∷ points) = refl

first-output : (w : Bool) (r : Range) (rest : List Range)
    → cond w (r ∷ rest) rest ≡ cond w (r ∷ []) [] ++ rest
first-output true r rest = refl
first-output false r rest = refl

none-first : (w : Bool) → cond w [] [] ≡ (let none : List Range = [] in none)
none-first true = refl
none-first false = refl

outputs-at : (points : List ImagePoint) (ranges : List Range) (i : ℕ) (p : ImagePoint)
    → slice_get points i ≡ Some p
    → outputs_of (drop i points) (drop i ranges)
    ≡ cond p.writable (option_to_list (slice_get ranges i)) []
    ++ outputs_of (drop (suc i) points) (drop (suc i) ranges)
outputs-at [] ranges i p here = absurd cc
outputs-at (q ∷ points) [] zero p here =
    sym (ap (λ (rs : List Range). rs ++ outputs_of points []) (none-first p.writable)
    ∙ no-outputs points)
outputs-at (q ∷ points) (r ∷ ranges) zero p here =
    let same : q ≡ p = cc in
    first-output q.writable r (outputs_of points ranges)
    ∙ ap (λ (x : ImagePoint). cond x.writable (r ∷ []) [] ++ outputs_of points ranges) same
outputs-at (q ∷ points) [] (suc i) p here =
    no-outputs (drop i points)
    ∙ sym (ap (λ (rs : List Range). rs ++ outputs_of (drop (suc i) points) [])
    (none-first p.writable)
    ∙ no-outputs (drop (suc i) points))
outputs-at (q ∷ points) (r ∷ ranges) (suc i) p here = outputs-at points ranges i p here

module _ (points : List ImagePoint) (ranges : List Range) (i : ℕ) (p : ImagePoint)
    (outputs more : List Range) (is : p ≡ get_or points i p) (within : i < length points) where
  here-point : slice_get points i ≡ Some p
  here-point = slice_get-get_or points i p within ∙ sym (ap (λ q. Some q) is)

  -- a writable point is one output more
  pub output-more : (r : Range) → slice_get ranges i ≡ Some r → p.writable ≡ true
      → outputs_of points ranges ≡ outputs ++ outputs_of (drop i points) (drop i ranges)
      → more ≡ outputs ++ r ∷ []
      → outputs_of points ranges ≡ more ++ outputs_of (drop (i + 1) points) (drop (i + 1) ranges)
  output-more r there writes whole one =
      rw add-one
      (whole ∙ ap (λ (rs : List Range). outputs ++ rs)
      (outputs-at points ranges i p here-point
      ∙ ap (λ w. cond w (option_to_list (slice_get ranges i)) []
      ++ outputs_of (drop (suc i) points) (drop (suc i) ranges)) writes
      ∙ ap (λ o. option_to_list o ++ outputs_of (drop (suc i) points) (drop (suc i) ranges)) there)
      ∙ sym (append_assoc outputs (r ∷ []) (outputs_of (drop (suc i) points) (drop (suc i) ranges)))
      ∙ ap (λ (rs : List Range). rs ++ outputs_of (drop (suc i) points) (drop (suc i) ranges))
      (sym one))

  -- one that may only be read is none
  pub output-less : p.writable ≡ false
      → outputs_of points ranges ≡ outputs ++ outputs_of (drop i points) (drop i ranges)
      → more ≡ outputs
      → outputs_of points ranges ≡ more ++ outputs_of (drop (i + 1) points) (drop (i + 1) ranges)
  output-less reads whole none =
      rw add-one
      (whole ∙ ap (λ (rs : List Range). outputs ++ rs)
      (outputs-at points ranges i p here-point
      ∙ ap (λ w. cond w (option_to_list (slice_get ranges i)) []
      ++ outputs_of (drop (suc i) points) (drop (suc i) ranges)) reads)
      ∙ ap (λ (rs : List Range). rs ++ outputs_of (drop (suc i) points) (drop (suc i) ranges))
      (sym none))
