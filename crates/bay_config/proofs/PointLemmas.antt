-- The names of points, one after another.
use Rattle.std.proofs.Common.{◌≡◌, ℕ, Bool, ◌||◌, List, [], ◌∷◌, map, refl, ap, ◌∙◌}
use Rattle.std.specs.List.{list_any}
use Rattle.std.specs.Str.{bytes_eq}
use Rattle.bay_base.specs.declared.point.Point.{Point}
use Rattle.bay_config.specs.Key.{is_among}
use Rattle.bay_config.specs.Point.{has_twin}

among-names : (s : List ℕ) (ps : List Point)
    → is_among (map (λ p. p.name) ps) s ≡ list_any (λ p. bytes_eq s p.name) ps
among-names s [] = refl
among-names s (p ∷ ps) = ap (λ b. bytes_eq s p.name || b) (among-names s ps)

-- a twin of the first point, or one among those after it
pub has_twin-cons : (ps : List Point) (p : Point) (later : List Point) (b : Bool) → ps ≡ p ∷ later
    → list_any (λ q. bytes_eq p.name q.name) later ≡ b
    → has_twin (map (λ q. q.name) ps) ≡ (b || has_twin (map (λ q. q.name) later))
has_twin-cons ps p later b e h =
    ap (λ qs. has_twin (map (λ q. q.name) qs)) e
    ∙ ap (λ b. b || has_twin (map (λ q. q.name) later)) (among-names p.name later ∙ h)

pub any-names : (test : List ℕ → Bool) (ps : List Point)
    → list_any test (map (λ p. p.name) ps) ≡ list_any (λ p. test p.name) ps
any-names test [] = refl
any-names test (p ∷ ps) = ap (λ b. test p.name || b) (any-names test ps)
