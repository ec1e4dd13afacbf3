-- No two switches of a bay have one id.
use Rattle.std.proofs.Common.{◌≡◌, ◌≢◌, ◌<◌, ◌+◌, ℕ, zero, suc, nat_lt, Bool, true, false, codes, List, [], ◌∷◌, ◌++◌, length, slice_get, slice_index_or, Some, refl, ap, sym, subst, ◌∙◌, arith}
use Rattle.std.proofs.lemmas.Bool.Decides.{nat_tests}
use Rattle.std.specs.Prelude.{AllPairs}
use Rattle.bay_base.specs.declared.point.Point.{Point}
use Rattle.bay_base.specs.declared.point.SwitchPoint.TheVariants.{Position}
use Rattle.bay_base.specs.declared.types.ElementaryType.TheVariants.{Int}
use Rattle.bay_config.specs.Laws.{IsBay}
use Rattle.bay_config.specs.Point.{inputs_from, meters_from, point_of, points_from}
use Rattle.bay_config.specs.declared.bay.Bay.{Bay}
use Rattle.bay_nodes.specs.declared.switch.Switch.{Switch}

-- the name of the first point of a switch
abbrev first_name : List ℕ → List ℕ
first_name id = (point_of 0 id (codes "_POS") Int false Position).name

-- where it stands among the points of switches, which have five each
abbrev at : ℕ → ℕ
at zero = 0
at (suc k) = suc (suc (suc (suc (suc (at k)))))

at-less : (i j : ℕ) → i < j → at i < at j
at-less i zero less = absurd (omega (arith, less))
at-less zero (suc j) less = omega arith
at-less (suc i) (suc j) less =
    let rest : at i < at j = at-less i j (omega (arith, less)) in omega (arith, rest)

record Stands (points : List Point) (k : ℕ) (id : List ℕ) (d : Point) : Type 0 where
  within : at k < length points
  named : (slice_index_or points (at k) d).name ≡ first_name id

stands-at : (place : ℕ) (switches : List Switch) (rest : List Point) (k : ℕ) (s : Switch)
    (d : Point) → slice_get switches k ≡ Some s
    → Stands (points_from place switches ++ rest) k s.id d
stands-at place [] rest k s d here = absurd cc
stands-at place (r ∷ switches) rest zero s d here =
    let same : r ≡ s = cc in
    record { within = omega arith; named = ap (λ (r : Switch). first_name r.id) same }
stands-at place (r ∷ switches) rest (suc k) s d here =
    let more = stands-at (place + 1) switches rest k s d here in
    let low : at k < length (points_from (place + 1) switches ++ rest) = more.within in
    record { within = omega (arith, low); named = more.named }

module _ (bay : Bay) (is : IsBay bay) where
  earlier-apart : (i j : ℕ) (s t : Switch) → i < j → slice_get bay.switches i ≡ Some s
      → slice_get bay.switches j ≡ Some t → s.id ≡ t.id → ⊥
  earlier-apart i j s t less here there same =
      let d : Point = point_of 0 [] (codes "_POS") Int false Position in
      let rest = inputs_from 0 bay.inputs ++ meters_from 0 bay.meters in
      let pairs : AllPairs (λ (p q : Point). p.name ≢ q.name) (points_from 0 bay.switches ++ rest) =
      subst (AllPairs (λ (p q : Point). p.name ≢ q.name)) is.points is.names in
      let one = stands-at 0 bay.switches rest i s d here in
      let other = stands-at 0 bay.switches rest j t d there in
      pairs (at i) (at j) d (at-less i j less) other.within
      (one.named ∙ ap first_name same ∙ sym other.named)

  -- so an id tells the place
  pub ids-apart : (i j : ℕ) (s t : Switch) → slice_get bay.switches i ≡ Some s
      → slice_get bay.switches j ≡ Some t → s.id ≡ t.id → i ≡ j
  ids-apart i j s t here there same = by-test (nat_lt i j) refl (nat_lt j i) refl
    where
      by-test : (b : Bool) → nat_lt i j ≡ b → (c : Bool) → nat_lt j i ≡ c → i ≡ j
      by-test true less c e =
          absurd (earlier-apart i j s t (grind (arith, nat_tests)) here there same)
      by-test false not-less true more =
          absurd (earlier-apart j i t s (grind (arith, nat_tests)) there here (sym same))
      by-test false not-less false not-more = grind (arith, nat_tests)
