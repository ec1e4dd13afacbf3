-- What an image's points stand for has their types.
use Rattle.std.proofs.Common.{◌≡◌, ℕ, ◌+◌, ◌&&◌, ◌||◌, Bool, true, false, not, cond, List, [], ◌∷◌, ◌++◌, map, find, Option, Some, option_map, refl, sym, ap, ◌∙◌}
use Rattle.std.specs.Bool.{beq}
use Rattle.std.specs.List.{cons_option, list_any}
use Rattle.bay_base.specs.Names.{same_name}
use Rattle.bay_base.specs.Types.{same_type}
use Rattle.bay_base.specs.declared.types.ElementaryType.{ElementaryType}
use Rattle.bay_config.specs.Point.{inputs_from, meters_from, points_from, bay_points}
use Rattle.bay_base.specs.declared.point.Source.{Source}
use Rattle.bay_base.specs.declared.point.Point.{Point}
use Rattle.bay_nodes.specs.declared.meter.Meter.{Meter}
use Rattle.bay_nodes.specs.declared.switch.Switch.{Switch}
use Rattle.il_image.specs.Images.{Each}
use Rattle.il_image.specs.declared.image.ImagePoint.{ImagePoint}
use Rattle.il_image.proofs.KindLemmas.{same-is}
use Rattle.il_image.specs.Images.{Image}
use Rattle.il_verify.specs.Binding.{are_points, fits, is_point}
use Rattle.il_scan.specs.Scans.{read_only, type_of_point}
use Rattle.bay_process.specs.Sources.{source_of, sources_of}
use Rattle.bay_process.specs.Sources.{type_of_source}

-- the point stands for something of its type
abbrev pub IsTyped : Point → Type 0
IsTyped p = type_of_source p.source ≡ p.kind

both : (xs ys : List Point) → Each IsTyped xs → Each IsTyped ys → Each IsTyped (xs ++ ys)
both [] ys h k = k
both (x ∷ xs) ys h k = (h.0, both xs ys h.1 k)

switches-typed : (index : ℕ) (switches : List Switch) → Each IsTyped (points_from index switches)
switches-typed index [] = tt
switches-typed index (s ∷ switches) =
    (refl, (refl, (refl, (refl, (refl, switches-typed (index + 1) switches)))))

inputs-typed : (index : ℕ) (names : List (List ℕ)) → Each IsTyped (inputs_from index names)
inputs-typed index [] = tt
inputs-typed index (n ∷ names) = (refl, inputs-typed (index + 1) names)

meters-typed : (index : ℕ) (meters : List Meter) → Each IsTyped (meters_from index meters)
meters-typed index [] = tt
meters-typed index (m ∷ meters) =
    (refl, (refl, (refl, (refl, (refl, (refl, meters-typed (index + 1) meters))))))

-- each point of a bay does
pub bay-typed : (switches : List Switch) (inputs : List (List ℕ)) (meters : List Meter)
    → Each IsTyped (bay_points switches inputs meters)
bay-typed switches inputs meters =
    both (points_from 0 switches) _ (switches-typed 0 switches)
    (both (inputs_from 0 inputs) _ (inputs-typed 0 inputs) (meters-typed 0 meters))

-- what is found passes the test, and stands for something of its type
pub record Found (test : Point → Bool) (o : Option Point) : Type 0 where
  pub point : Point
  pub is : o ≡ Some point
  pub passes : test point ≡ true
  pub typed : IsTyped point

found-first : (test : Point → Bool) (q : Point) (points : List Point) → IsTyped q
    → (list_any test points ≡ true → Found test (find test points)) → (b : Bool) → test q ≡ b
    → b || list_any test points ≡ true → Found test (cond b (Some q) (find test points))
found-first test q points h rest true t e = record { point = q; is = refl; passes = t; typed = h }
found-first test q points h rest false t e = rest e

any-found : (test : Point → Bool) (points : List Point) → Each IsTyped points
    → list_any test points ≡ true → Found test (find test points)
any-found test [] h e = absurd cc
any-found test (q ∷ points) h e =
    found-first test q points h.0 (any-found test points h.1) (test q) refl e

first : (a b : Bool) → a && b ≡ true → a ≡ true
first true b e = refl
first false b e = absurd cc

second : (a b : Bool) → a && b ≡ true → b ≡ true
second true b e = e
second false b e = absurd cc

kind-is : (p : ImagePoint) (q : Point) → is_point p q ≡ true → p.elementary ≡ q.kind
kind-is p q e =
    same-is p.elementary q.kind
    (first (same_type p.elementary q.kind) _ (second (same_name p.name q.name) _ e))

-- the points that may only be read stand for what has their types
module _ (bay : List Point) (typed : Each IsTyped bay) where
  one : (p : ImagePoint) (rest : List Source) (types : List ElementaryType)
      → list_any (is_point p) bay ≡ true → map type_of_source rest ≡ types
      → map type_of_source (cons_option (source_of bay p) rest) ≡ p.elementary ∷ types
  one p rest types any e =
      let f = any-found (is_point p) bay typed any in
      ap (λ o. map type_of_source (cons_option (option_map (λ (b : Point). b.source) o) rest)) f.is
      ∙ ap (λ t. t ∷ map type_of_source rest) (f.typed ∙ sym (kind-is p f.point f.passes))
      ∙ ap (λ (ts : List ElementaryType). p.elementary ∷ ts) e

  more : (p : ImagePoint) (points : List ImagePoint) → list_any (is_point p) bay ≡ true
      → map type_of_source (sources_of false bay points) ≡ map type_of_point (read_only points)
      → (w : Bool)
      → map type_of_source (cond (beq w false)
      (cons_option (source_of bay p) (sources_of false bay points))
      (sources_of false bay points))
      ≡ map type_of_point (cond (not w) (p ∷ read_only points) (read_only points))
  more p points any rest true = rest
  more p points any rest false =
      one p (sources_of false bay points) (map type_of_point (read_only points)) any rest

  pub reads-typed : (points : List ImagePoint) → are_points bay points ≡ true
      → map type_of_source (sources_of false bay points) ≡ map type_of_point (read_only points)
  reads-typed [] e = refl
  reads-typed (p ∷ points) e =
      more p points (first (list_any (is_point p) bay) _ (first _ (are_points bay points) e))
      (reads-typed points (second _ (are_points bay points) e)) p.writable

pub points-fit : (bay : List Point) (image : Image) → fits bay image ≡ true
    → are_points bay image.points ≡ true
unfolding fits
points-fit bay image e = second _ (are_points bay image.points) e
