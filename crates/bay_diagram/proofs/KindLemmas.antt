-- The kind of hazard that an operation of a branch is.
use Rattle.std.proofs.Common.{◌≡◌, Bool, true, false, ◌&&◌, ◌||◌, List, [], ◌∷◌, refl, sym, subst, ◌∙◌, ap, Option, None, Some, Result, Ok, Err, IfOk, find}
use Rattle.std.specs.List.{list_any}
use Rattle.std.proofs.lemmas.Bool.{and_parts}
use Rattle.bay_base.specs.declared.switch.Operation.{Operation}
use Rattle.bay_base.specs.declared.switch.Operation.TheVariants.{Open, Close}
use Rattle.bay_base.specs.declared.switch.SwitchKind.{SwitchKind}
use Rattle.bay_base.specs.declared.switch.SwitchKind.TheVariants.{Breaker, Disconnector, Earthing}
use Rattle.bay_diagram.specs.declared.network.Branch.{Branch}
use Rattle.bay_diagram.specs.declared.network.Network.{Network}
use Rattle.bay_diagram.specs.declared.shown.HazardKind.{HazardKind}
use Rattle.bay_diagram.specs.declared.shown.HazardKind.TheVariants.{Earths, Bridges, Breaks, Makes, Leaves, Joins, Uncouples, Unearths}
use Rattle.bay_diagram.specs.declared.shown.ShownHazard.{ShownHazard}
use Rattle.bay_diagram.specs.Hazards.{bridges, breaks, endangers, endangers_by, leaves_any, makes_any}
use Rattle.bay_diagram.specs.Reading.{Reading}
use Rattle.bay_diagram.specs.Shown.{IsFound, IsShownAt, IsShownBy, can_be, is_of_kind, kinds, shows_by}
use Rattle.bay_diagram.proofs.FoundLemmas.{find-none, find-passes}
use Rattle.bay_diagram.proofs.ShowLemmas.{opposed}

no-yes : true ≡ false → ⊥
no-yes h = cc

none-left : (a b : Bool) → (a || b) ≡ false → a ≡ false
none-left true b h = absurd (no-yes h)
none-left false b h = refl

none-right : (a b : Bool) → (a || b) ≡ false → b ≡ false
none-right true b h = absurd (no-yes h)
none-right false b h = h

none-of-both : (a b : Bool) → a ≡ false → b ≡ false → (a || b) ≡ false
none-of-both true b h g = absurd (no-yes h)
none-of-both false b h g = g

-- a test that no kind passes
none-passes : (q : HazardKind → Bool) → list_any q kinds ≡ false → (kind : HazardKind)
    → q kind ≡ false
none-passes q h Earths = none-left (q Earths) _ h
none-passes q h Bridges = none-left (q Bridges) _ (none-right (q Earths) _ h)
none-passes q h Breaks =
    none-left (q Breaks) _ (none-right (q Bridges) _ (none-right (q Earths) _ h))
none-passes q h Makes =
    none-left (q Makes) _ (none-right (q Breaks) _
    (none-right (q Bridges) _ (none-right (q Earths) _ h)))
none-passes q h Leaves =
    none-left (q Leaves) _ (none-right (q Makes) _
    (none-right (q Breaks) _ (none-right (q Bridges) _ (none-right (q Earths) _ h))))
none-passes q h Joins =
    none-left (q Joins) _ (none-right (q Leaves) _
    (none-right (q Makes) _ (none-right (q Breaks) _
    (none-right (q Bridges) _ (none-right (q Earths) _ h)))))
none-passes q h Uncouples =
    none-left (q Uncouples) _
    (none-right (q Joins) _ (none-right (q Leaves) _
    (none-right (q Makes) _ (none-right (q Breaks) _
    (none-right (q Bridges) _ (none-right (q Earths) _ h))))))
none-passes q h Unearths =
    none-left (q Unearths) _
    (none-right (q Uncouples) _
    (none-right (q Joins) _ (none-right (q Leaves) _
    (none-right (q Makes) _ (none-right (q Breaks) _
    (none-right (q Bridges) _ (none-right (q Earths) _ h)))))))

module _ (net : Network) (r : Reading) (s : Branch) where
  none-endangers : (kind : SwitchKind) (operation : Operation)
      → ((hazard : HazardKind) → (can_be kind operation hazard && is_of_kind net r s hazard)
      ≡ false)
      → endangers_by net r s kind operation ≡ false
  none-endangers Earthing Close none = none Earths
  none-endangers Earthing Open none = none Unearths
  none-endangers Breaker Close none =
      none-of-both (bridges net r s) _ (none Bridges)
      (none-of-both (makes_any net r s) _ (none Makes) (none Joins))
  none-endangers Breaker Open none =
      none-of-both (leaves_any net r s) _ (none Leaves) (none Uncouples)
  none-endangers Disconnector Close none =
      none-of-both (bridges net r s) _ (none Bridges)
      (none-of-both (breaks net r s) _ (none Breaks) (none Makes))
  none-endangers Disconnector Open none =
      none-of-both (breaks net r s) _ (none Breaks) (none Leaves)

  module _ (operation : Operation) where
    -- no kind is found, so the operation is no hazard
    pub no-kind : find (λ hazard. can_be s.kind operation hazard && is_of_kind net r s hazard) kinds
        ≡ None
        → endangers net r s operation ≡ false
    no-kind h =
        none-endangers s.kind operation
        (none-passes
        (λ (hazard : HazardKind). can_be s.kind operation hazard && is_of_kind net r s hazard)
        (find-none
        (λ (hazard : HazardKind). can_be s.kind operation hazard && is_of_kind net r s hazard)
        kinds h))

    found-at : (kind : HazardKind) (exists : Bool) → can_be s.kind operation kind ≡ true
        → is_of_kind net r s kind ≡ true → exists ≡ true → (o : Option ShownHazard)
        → IsFound (IsShownBy net r s kind) exists o
        → IsFound (IsShownAt net r s operation) (endangers net r s operation) o
    found-at kind exists can of there None h =
        opposed exists (endangers net r s operation) there h
    found-at kind exists can of there (Some shown) h = record {
      fits = subst (λ (k : HazardKind). can_be s.kind operation k ≡ true) (sym h.kind) can;
      hazard = subst (λ (k : HazardKind). is_of_kind net r s k ≡ true) (sym h.kind) of;
      by = record {
        switch = h.switch;
        kind = refl;
        shows = subst (λ (k : HazardKind). shows_by net r s shown k ≡ true) (sym h.kind) h.shows;
      };
    }

    -- the hazard of the kind that was found is shown
    pub shown-at : {E : Type 0} (kind found : HazardKind) (exists : Bool)
        → Some found
        ≡ find (λ hazard. can_be s.kind operation hazard && is_of_kind net r s hazard) kinds
        → found ≡ kind → (is_of_kind net r s kind ≡ true → exists ≡ true)
        → (o : Result (Option ShownHazard) E)
        → IfOk o (IsFound (IsShownBy net r s kind) exists)
        → IfOk o (IsFound (IsShownAt net r s operation) (endangers net r s operation))
    shown-at kind found exists first same there (Ok o) h =
        let passes = find-passes
        (λ (hazard : HazardKind). can_be s.kind operation hazard && is_of_kind net r s hazard)
        kinds kind (sym first ∙ ap (λ (k : HazardKind). Some k) same) in
        let both = and_parts (can_be s.kind operation kind) (is_of_kind net r s kind) passes in
        found-at kind exists both.0 both.1 (there both.1) o h
    shown-at kind found exists first same there (Err e) h = h
