-- The walks that show a hazard.
use Rattle.std.proofs.Common.{◌≡◌, ℕ, Bool, true, false, not, ◌&&◌, ◌||◌, List, refl, sym, subst, Option, None, Some, Result, Ok, Err, IfOk, find}
use Rattle.std.specs.Prelude.{◌==◌}
use Rattle.std.proofs.lemmas.Bool.{and_parts}
use Rattle.bay_base.specs.declared.switch.Operation.{Operation}
use Rattle.bay_diagram.specs.declared.ends.End.{End}
use Rattle.bay_diagram.specs.declared.hazard.Target.{Target}
use Rattle.bay_diagram.specs.declared.hazard.Target.TheVariants.{Live, Terminal, Energised}
use Rattle.bay_diagram.specs.declared.network.Branch.{Branch}
use Rattle.bay_diagram.specs.declared.network.Network.{Network}
use Rattle.bay_diagram.specs.declared.shown.HazardKind.TheVariants.{Bridges, Breaks, Makes, Leaves, Joins}
use Rattle.bay_diagram.specs.declared.shown.ShownHazard.{ShownHazard}
use Rattle.bay_diagram.specs.declared.shown.ShownWalk.{ShownWalk}
use Rattle.bay_diagram.specs.declared.shown.Step.{Step}
use Rattle.bay_diagram.specs.declared.walk.Avoid.{Avoid}
use Rattle.bay_diagram.specs.declared.walk.Avoid.TheVariants as avoid
use Rattle.bay_diagram.specs.declared.walk.Over.TheVariants.{Possible, Gapless}
use Rattle.bay_diagram.specs.Hazards.{endangers, is_exposed, is_hazard, leaves_current, lies_beside, makes_current, makes_from, without, without_both}
use Rattle.bay_diagram.specs.Network.{is_own, is_transformer}
use Rattle.bay_diagram.specs.Reading.{Reading}
use Rattle.bay_diagram.specs.Shown.{IsEndOf, IsFound, IsPassShown, IsShownAt, IsShownBy, IsTargetOf, IsWalkThrough, can_be, ends_at_earth, ends_current, is_of_kind, is_shown, is_target_at, is_through, is_walk, shown_by, shows_break, shows_bridge, shows_by, shows_chain, shows_feed, shows_leave, shows_make, shows_make_from, shows_side}
use Rattle.bay_diagram.specs.Walks.{may_lead_over}
use Rattle.bay_diagram.proofs.FoundLemmas.{find-any, find-passes}
use Rattle.bay_diagram.proofs.PathLemmas.{and-true, or-right, same-true, walk-ends}

-- ---- truth values

no-yes : false ≡ true → ⊥
no-yes h = cc

pub and-none-left : (a b : Bool) → a ≡ false → (a && b) ≡ false
and-none-left true b h = absurd (no-yes (sym h))
and-none-left false b h = refl

pub and-none-right : (a b : Bool) → b ≡ false → (a && b) ≡ false
and-none-right true b h = h
and-none-right false b h = refl

or-none : (a b : Bool) → a ≡ false → b ≡ false → (a || b) ≡ false
or-none true b h g = absurd (no-yes (sym h))
or-none false b h g = g

-- no value is TRUE and FALSE at once, so from both anything follows
pub opposed : (a b : Bool) → a ≡ true → a ≡ false → b ≡ false
opposed true b h g = absurd (no-yes (sym g))
opposed false b h g = absurd (no-yes h)

pub ok-more : {A E : Type 0} (P Q : A → Type 0) → ((x : A) → P x → Q x) → (o : Result A E)
    → IfOk o P → IfOk o Q
ok-more P Q more (Ok x) h = more x h
ok-more P Q more (Err e) h = h

-- ---- E, J, C

module _ (net : Network) (r : Reading) (s : Branch) where
  module _ (start : ℕ) (walk : ShownWalk) where
    starts-at : (target : Target) → is_target_at net r s target start ≡ true
        → walk.start ≡ start → is_target_at net r s target walk.start ≡ true
    starts-at target fits is =
        subst (λ (n : ℕ). is_target_at net r s target n ≡ true) (sym is) fits

    pub bridge-shown : (a b : ℕ) (e : End)
        → IsTargetOf net r s (without Gapless s (avoid.Node b)) a Live start
        → IsEndOf net r s (without Gapless s (avoid.Node a)) b (ends_at_earth net r s) e
        → IsWalkThrough net r (without Gapless s (avoid.Node b))
        (without Gapless s (avoid.Node a)) start s a b e.node walk
        → IsPassShown (shows_bridge net r s) s Bridges a b (shown_by Bridges s.number e.earth walk)
    bridge-shown a b e from to goes = record {
      switch = refl;
      kind = refl;
      shows = and-true (is_target_at net r s Live walk.start) _
          (starts-at Live from.fits goes.starts)
          (goes.through (ends_at_earth net r s e.earth) to.fits);
    }

    pub break-shown : (a b : ℕ) (e : End)
        → IsTargetOf net r s (without Possible s (avoid.Node b)) a Live start
        → IsEndOf net r s (without Possible s (avoid.Node a)) b (ends_current net r s) e
        → IsWalkThrough net r (without Possible s (avoid.Node b))
        (without Possible s (avoid.Node a)) start s a b e.node walk
        → IsPassShown (shows_break net r s) s Breaks a b (shown_by Breaks s.number e.earth walk)
    break-shown a b e from to goes = record {
      switch = refl;
      kind = refl;
      shows = and-true (is_target_at net r s Live walk.start) _
          (starts-at Live from.fits goes.starts)
          (goes.through (ends_current net r s e.earth) to.fits);
    }

    pub feed-shown : (d : Branch) (x y end : ℕ)
        → IsTargetOf net r s (without_both Possible s d (avoid.Node y)) x Live start
        → IsTargetOf net r s (without_both Possible s d (avoid.Node x)) y Terminal end
        → IsWalkThrough net r (without_both Possible s d (avoid.Node y))
        (without_both Possible s d (avoid.Node x)) start d x y end walk
        → shows_feed net r s d x y walk ≡ true
    feed-shown d x y end from to goes =
        and-true (is_target_at net r s Live walk.start) _ (starts-at Live from.fits goes.starts)
        (goes.through (is_target_at net r s Terminal) to.fits)

    pub join-shown : (end : ℕ)
        → IsTargetOf net r s (without Possible s (avoid.Node s.other)) s.one Energised start
        → IsTargetOf net r s (without Possible s (avoid.Node s.one)) s.other Energised end
        → IsWalkThrough net r (without Possible s (avoid.Node s.other))
        (without Possible s (avoid.Node s.one)) start s s.one s.other end walk
        → IsShownBy net r s Joins (shown_by Joins s.number None walk)
    join-shown end from to goes = record {
      switch = refl;
      kind = refl;
      shows = and-true (is_target_at net r s Energised walk.start) _
          (starts-at Energised from.fits goes.starts)
          (goes.through (is_target_at net r s Energised) to.fits);
    }

  -- ---- A, B

  -- the last way round, if the others are in vain
  pub make-last : (d : Branch) (o : Option ShownWalk)
      → makes_from net r s d s.one s.other d.one d.other ≡ false
      → makes_from net r s d s.one s.other d.other d.one ≡ false
      → makes_from net r s d s.other s.one d.one d.other ≡ false
      → IsFound (λ walk. shows_make_from net r s d s.other s.one d.other d.one walk ≡ true)
      (makes_from net r s d s.other s.one d.other d.one) o
      → IsFound (λ walk. shows_make net r s d walk ≡ true) (makes_current net r s d) o
  make-last d None one two three four =
      or-none (makes_from net r s d s.one s.other d.one d.other) _ one
      (or-none (makes_from net r s d s.one s.other d.other d.one) _ two
      (or-none (makes_from net r s d s.other s.one d.one d.other) _ three four))
  make-last d (Some walk) one two three four =
      or-right (shows_make_from net r s d s.one s.other d.one d.other walk) _
      (or-right (shows_make_from net r s d s.one s.other d.other d.one walk) _
      (or-right (shows_make_from net r s d s.other s.one d.one d.other walk) _ four))

  pub makes-shown : (d : Branch)
      → find (λ e. is_exposed net r s e && makes_current net r s e) net.branches ≡ Some d
      → (walk : ShownWalk) → shows_make net r s d walk ≡ true
      → IsShownBy net r s Makes (record {
        kind = Makes;
        switch = s.number;
        other = Some d.number;
        earth = None;
        walk = walk;
        beside = None;
      })
  makes-shown d h walk shows = record {
    switch = refl;
    kind = refl;
    shows = find-any (λ (e : Branch). is_exposed net r s e && makes_current net r s e)
        (λ (e : Branch). e.number == d.number
        && (is_exposed net r s e && shows_make net r s e walk))
        net.branches d h
        (λ passes. and-true (d.number == d.number) _ (same-true d.number)
        (and-true (is_exposed net r s d) _ (and_parts (is_exposed net r s d) _ passes).0 shows));
  }

  pub no-makes : (d : Branch)
      → find (λ e. is_exposed net r s e && makes_current net r s e) net.branches ≡ Some d
      → makes_current net r s d ≡ false → (b : Bool) → b ≡ false
  no-makes d h none b =
      opposed (makes_current net r s d) b
      (and_parts (is_exposed net r s d) _
      (find-passes (λ (e : Branch). is_exposed net r s e && makes_current net r s e) net.branches d
      h)).1
      none

  pub leaves-shown : (d : Branch)
      → find (λ e. is_exposed net r s e && leaves_current net r s e) net.branches ≡ Some d
      → (beside walk : ShownWalk)
      → (shows_side net r s d s.one s.other beside || shows_side net r s d s.other s.one beside)
      ≡ true
      → (shows_feed net r s d d.one d.other walk || shows_feed net r s d d.other d.one walk) ≡ true
      → IsShownBy net r s Leaves (record {
        kind = Leaves;
        switch = s.number;
        other = Some d.number;
        earth = None;
        walk = walk;
        beside = Some beside;
      })
  leaves-shown d h beside walk side feed = record {
    switch = refl;
    kind = refl;
    shows = find-any (λ (e : Branch). is_exposed net r s e && leaves_current net r s e)
        (λ (e : Branch). e.number == d.number
        && (is_exposed net r s e && shows_leave net r s e (record {
          kind = Leaves;
          switch = s.number;
          other = Some d.number;
          earth = None;
          walk = walk;
          beside = Some beside;
        }))) net.branches d h
        (λ passes. and-true (d.number == d.number) _ (same-true d.number)
        (and-true (is_exposed net r s d) _ (and_parts (is_exposed net r s d) _ passes).0
        (and-true (shows_side net r s d s.one s.other beside
        || shows_side net r s d s.other s.one beside) _ side feed)));
  }

  pub left-parts : (d : Branch)
      → find (λ e. is_exposed net r s e && leaves_current net r s e) net.branches ≡ Some d
      → leaves_current net r s d ≡ true
  left-parts d h =
      (and_parts (is_exposed net r s d) _
      (find-passes (λ (e : Branch). is_exposed net r s e && leaves_current net r s e) net.branches d
      h)).1

  pub side-shown : (d : Branch) (a b : ℕ) (walk : ShownWalk)
      → lies_beside net r s d a b ≡ true
      → IsWalkThrough net r
      (without_both Possible s d (avoid.TransformersAndNodes d.one a b d.other))
      (without_both Possible s d (avoid.TransformersAndNodes b d.other a d.one)) d.one s a b
      d.other walk
      → shows_side net r s d a b walk ≡ true
  side-shown d a b walk lies goes =
      let first = and_parts (a == d.one || not (is_transformer net a)) _ lies in
      let second = and_parts (b == d.other || not (is_transformer net b)) _ first.1 in
      let third = and_parts (not (a == d.other || b == d.one)) _ second.1 in
      and-true (a == d.one || not (is_transformer net a)) _ first.0
      (and-true (b == d.other || not (is_transformer net b)) _ second.0
      (and-true (not (a == d.other || b == d.one)) _ third.0
      (and-true (walk.start == d.one) _
      (subst (λ (n : ℕ). (n == d.one) ≡ true) (sym goes.starts) (same-true d.one))
      (goes.through (λ n. n == d.other) (same-true d.other)))))

  pub chain-shown : (d : Branch) (a b x y : ℕ) (nodes : Avoid) (p q : Target) (start end : ℕ)
      → IsTargetOf net r s (without_both Possible s d (avoid.NodesAndEnd a x y)) b p start
      → IsTargetOf net r s (without_both Possible s d (avoid.NodesAndEnd a x b)) y q end
      → (last middle all : List Step)
      → is_walk net (may_lead_over net r (without_both Possible s d (avoid.NodesAndEnd a x b)))
      (λ n. n == end) y last ≡ true
      → ((goes_on : List Step → Bool) → goes_on last ≡ true
      → is_through net (may_lead_over net r (without_both Possible s d nodes)) d x y goes_on a
      middle ≡ true)
      → ((goes_on : List Step → Bool) → goes_on middle ≡ true
      → is_through net (may_lead_over net r (without_both Possible s d (avoid.NodesAndEnd a x y)))
      s b a goes_on start all ≡ true)
      → shows_chain net r s d a b x y nodes p q (record { start = start; steps = all }) ≡ true
  chain-shown d a b x y nodes p q start end from to last middle all leads_last over_d over_s =
      let of_y = may_lead_over net r (without_both Possible s d (avoid.NodesAndEnd a x b)) in
      let goes = is_walk net of_y (is_target_at net r s q) y in
      and-true (is_target_at net r s p start) _ from.fits
      (over_s (λ steps. is_through net (may_lead_over net r (without_both Possible s d nodes)) d x y
      goes a steps)
      (over_d goes (walk-ends net of_y end (is_target_at net r s q) to.fits y last leads_last)))

-- ---- an operation

module _ (net : Network) (r : Reading) (k : ℕ) (operation : Operation) where
  pub shown-of : (s : Branch) (o : Option ShownHazard)
      → find (λ b. is_own k b.device && endangers net r b operation) net.branches ≡ Some s
      → IsFound (IsShownAt net r s operation) (endangers net r s operation) o
      → IsFound (λ shown. is_shown net r k operation shown ≡ true) (is_hazard net r k operation) o
  shown-of s None found h =
      opposed (endangers net r s operation) (is_hazard net r k operation)
      (and_parts (is_own k s.device) _
      (find-passes (λ (b : Branch). is_own k b.device && endangers net r b operation) net.branches
      s found)).1 h
  shown-of s (Some shown) found h =
      find-any (λ (b : Branch). is_own k b.device && endangers net r b operation)
      (λ (b : Branch). is_own k b.device && (b.number == shown.switch
      && (can_be b.kind operation shown.kind
      && (is_of_kind net r b shown.kind && shows_by net r b shown shown.kind))))
      net.branches s found
      (λ passes. and-true (is_own k s.device) _ (and_parts (is_own k s.device) _ passes).0
      (and-true (s.number == shown.switch) _
      (subst (λ (n : ℕ). (s.number == n) ≡ true) (sym h.by.switch) (same-true s.number))
      (and-true (can_be s.kind operation shown.kind) _ h.fits
      (and-true (is_of_kind net r s shown.kind) _ h.hazard h.by.shows))))
