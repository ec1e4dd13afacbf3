-- Where less is known nothing that was a hazard becomes harmless.
use Rattle.std.proofs.Common.{◌≡◌, inl, inr, ℕ, Bool, true, false, not, ◌&&◌, ◌||◌, List, [], ◌∷◌, cond, refl, is_some}
use Rattle.std.specs.Prelude.{◌==◌, filter}
use Rattle.std.specs.List.{list_any}
use Rattle.bay_base.specs.declared.switch.Operation.{Operation}
use Rattle.bay_base.specs.declared.switch.Operation.TheVariants.{Open, Close}
use Rattle.bay_base.specs.declared.switch.SwitchKind.{SwitchKind}
use Rattle.bay_base.specs.declared.switch.SwitchKind.TheVariants.{Breaker, Disconnector, Earthing}
use Rattle.bay_diagram.specs.declared.hazard.Target.{Target}
use Rattle.bay_diagram.specs.declared.hazard.Target.TheVariants.{Live, Terminal, Load, Energised, Separable}
use Rattle.bay_diagram.specs.declared.network.Branch.{Branch}
use Rattle.bay_diagram.specs.declared.network.Network.{Network}
use Rattle.bay_diagram.specs.declared.network.Node.{Node}
use Rattle.bay_diagram.specs.declared.walk.Avoid.TheVariants as avoid
use Rattle.bay_diagram.specs.declared.walk.Over.TheVariants.{Possible, Closed, Gapless, Inseparable, Disconnectors}
use Rattle.bay_diagram.specs.declared.walk.Route.{Route}
use Rattle.bay_diagram.specs.Hazards.{bridges, bridges_from, breaks, breaks_from, reaches_both, earths, endangers, endangers_by, energises, feeds_from, has_beside, is_earth_at, is_energised, is_exposed, is_hazard, is_live, is_target, joins_live, joins_parts, leaves_current, leaves_any, lies_beside, makes_current, makes_any, makes_from, makes_near, reaches, reaches_earth, uncouples, unearths, without, without_both}
use Rattle.bay_diagram.specs.Joined.{IsOf, joined}
use Rattle.bay_diagram.specs.Laws.{HazardsAreBounded, HazardsGrow}
use Rattle.bay_diagram.specs.Network.{is_disconnector, is_earthing, is_own, is_source, is_terminal, is_terminal_kind, is_transformer}
use Rattle.bay_diagram.specs.Reading.{IsWorse, Reading}
use Rattle.bay_diagram.specs.Walks.{is_free, may_cross, leads, may_lead_over}
use Rattle.bay_diagram.proofs.JoinedLemmas.{joined-grows}
use Rattle.bay_diagram.proofs.ReadingLemmas.{best-bounds, worst-bounds}

-- ---- truth values that only become true

-- the second is true where the first is
pub record Le (a b : Bool) : Type 0 where
  pub gives : a ≡ true → b ≡ true

no-yes : false ≡ true → ⊥
no-yes h = cc

-- each truth value is at most itself
pub same : (a : Bool) → Le a a
same a = record { gives = λ h. h }

le-no : (b : Bool) → Le false b
le-no b = record { gives = λ h. absurd (no-yes h) }

le-yes : (a : Bool) → Le a true
le-yes a = record { gives = λ h. refl }

pub le-and : (a b c d : Bool) → Le a b → Le c d → Le (a && c) (b && d)
le-and true true c d p q = q
le-and true false c d p q = absurd (no-yes (p.gives refl))
le-and false b c d p q = le-no (b && d)

pub le-or : (a b c d : Bool) → Le a b → Le c d → Le (a || c) (b || d)
le-or true true c d p q = same true
le-or true false c d p q = absurd (no-yes (p.gives refl))
le-or false true c d p q = le-yes c
le-or false false c d p q = q

pub le-not : (a b : Bool) → Le b a → Le (not a) (not b)
le-not true b p = le-no (not b)
le-not false true p = absurd (no-yes (p.gives refl))
le-not false false p = same true

-- with the first part as it is
pub le-under : (c a b : Bool) → Le a b → Le (c && a) (c && b)
le-under c a b p = le-and c c a b (same c) p

pub le-any : {X : Type 0} (p q : X → Bool) → ((x : X) → Le (p x) (q x)) → (xs : List X)
    → Le (list_any p xs) (list_any q xs)
le-any p q all [] = same false
le-any p q all (x ∷ xs) =
    le-or (p x) (q x) (list_any p xs) (list_any q xs) (all x) (le-any p q all xs)

-- ---- walks over more branches

module _ (p q : Branch → Bool) (more : (b : Branch) → Le (p b) (q b)) where
  kept : (t u : Bool) (b : Branch) (bs : List Branch) (x : Branch) → Le t u
      → (IsOf (filter p bs) x → IsOf (filter q bs) x)
      → IsOf (cond t (b ∷ filter p bs) (filter p bs)) x
      → IsOf (cond u (b ∷ filter q bs) (filter q bs)) x
  kept true true b bs x le rest (inl here) = inl here
  kept true true b bs x le rest (inr there) = inr (rest there)
  kept true false b bs x le rest h = absurd (no-yes (le.gives refl))
  kept false true b bs x le rest h = inr (rest h)
  kept false false b bs x le rest h = rest h

  of-more : (bs : List Branch) (x : Branch) → IsOf (filter p bs) x → IsOf (filter q bs) x
  of-more [] x h = h
  of-more (b ∷ bs) x h = kept (p b) (q b) b bs x (more b) (of-more bs x) h

  joined-more : (bs : List Branch) (a b : ℕ)
      → Le (joined (filter p bs) a b) (joined (filter q bs) a b)
  joined-more bs a b = record { gives = joined-grows (filter p bs) (filter q bs) (of-more bs) a b }

module _ (net : Network) where
  pub leads-more : (r w : Reading) (route : Route)
      → ((b : Branch) → Le (may_cross r route.over b) (may_cross w route.over b))
      → (a b : ℕ) → Le (leads net r route a b) (leads net w route a b)
  leads-more r w route more a b =
      joined-more (may_lead_over net r route) (may_lead_over net w route)
      (λ c. le-and (may_cross r route.over c) (may_cross w route.over c)
      (is_free net route c) (is_free net route c) (more c) (same (is_free net route c)))
      net.branches a b

  module _ (r w : Reading) (worse : IsWorse r w) where
    pub possible : (b : Branch) → Le (may_cross r Possible b) (may_cross w Possible b)
    possible b = record { gives = worse.may_conduct b.device }

    pub gapless : (b : Branch) → Le (may_cross r Gapless b) (may_cross w Gapless b)
    gapless b =
        le-or (not b.isolates) (not b.isolates) (r.may_conduct b.device) (w.may_conduct b.device)
        (same (not b.isolates)) (possible b)

    pub disconnectors : (b : Branch)
        → Le (may_cross r Disconnectors b) (may_cross w Disconnectors b)
    disconnectors b =
        le-under (is_disconnector b.kind) (r.may_conduct b.device) (w.may_conduct b.device)
        (possible b)

    pub inseparable : (b : Branch) → Le (may_cross w Inseparable b) (may_cross r Inseparable b)
    inseparable b = same (not b.isolates)

    closed : (b : Branch) → Le (may_cross w Closed b) (may_cross r Closed b)
    closed b = record { gives = worse.conducts b.device }

    -- ---- where walks lead

    live-more : (s : Branch) (x : Node) → Le (is_live net r s x) (is_live net w s x)
    live-more s x =
        le-under x.is_source _ _
        (le-not (list_any (λ c. is_earth_at s x.number c && r.conducts c.device) net.branches)
        (list_any (λ c. is_earth_at s x.number c && w.conducts c.device) net.branches)
        (le-any (λ (c : Branch). is_earth_at s x.number c && w.conducts c.device)
        (λ (c : Branch). is_earth_at s x.number c && r.conducts c.device)
        (λ c. le-under (is_earth_at s x.number c) (w.conducts c.device) (r.conducts c.device)
        (record { gives = worse.conducts c.device })) net.branches))

    energised-more : (s : Branch) (x : Node)
        → Le (is_energised net r s x) (is_energised net w s x)
    energised-more s x =
        le-and (is_live net r s x) (is_live net w s x) (r.may_be_false x.dead)
        (w.may_be_false x.dead) (live-more s x) (record { gives = worse.may_be_false x.dead })

    pub target-more : (s : Branch) (t : Target) (x : Node)
        → Le (is_target net r s t x) (is_target net w s t x)
    target-more s Live x = live-more s x
    target-more s Terminal x = same (is_terminal_kind x.kind)
    target-more s Load x = same (is_terminal_kind x.kind && not x.is_source)
    target-more s Energised x = energised-more s x
    target-more s Separable x =
        let route = without Inseparable s avoid.Nothing in
        le-and (is_energised net r s x) (is_energised net w s x)
        (not (leads net r route s.one x.number)) (not (leads net w route s.one x.number))
        (energised-more s x)
        (le-not (leads net r route s.one x.number) (leads net w route s.one x.number)
        (leads-more w r route inseparable s.one x.number))

    reaches-more : (s : Branch) (route : Route)
        → ((b : Branch) → Le (may_cross r route.over b) (may_cross w route.over b))
        → (a : ℕ) (t : Target) → Le (reaches net r s route a t) (reaches net w s route a t)
    reaches-more s route more a t =
        le-any (λ (x : Node). is_target net r s t x && leads net r route a x.number)
        (λ (x : Node). is_target net w s t x && leads net w route a x.number)
        (λ x. le-and (is_target net r s t x) (is_target net w s t x)
        (leads net r route a x.number) (leads net w route a x.number)
        (target-more s t x) (leads-more r w route more a x.number)) net.nodes

    earth-more : (s : Branch) (route : Route)
        → ((b : Branch) → Le (may_cross r route.over b) (may_cross w route.over b))
        → (a : ℕ) → Le (reaches_earth net r s route a) (reaches_earth net w s route a)
    earth-more s route more a =
        le-any (λ (c : Branch). is_earthing c.kind
        && (not (c.number == s.number) && (r.may_conduct c.device && leads net r route a c.one)))
        (λ (c : Branch). is_earthing c.kind
        && (not (c.number == s.number) && (w.may_conduct c.device && leads net w route a c.one)))
        (λ c. le-under (is_earthing c.kind)
        (not (c.number == s.number) && (r.may_conduct c.device && leads net r route a c.one))
        (not (c.number == s.number) && (w.may_conduct c.device && leads net w route a c.one))
        (le-under (not (c.number == s.number)) (r.may_conduct c.device && leads net r route a c.one)
        (w.may_conduct c.device && leads net w route a c.one)
        (le-and (r.may_conduct c.device) (w.may_conduct c.device) (leads net r route a c.one)
        (leads net w route a c.one) (record { gives = worse.may_conduct c.device })
        (leads-more r w route more a c.one)))) net.branches

    no-beside : (s e : Branch) → Le (not (has_beside net r s e)) (not (has_beside net w s e))
    no-beside s e =
        le-not (has_beside net r s e) (has_beside net w s e)
        (leads-more w r (without_both Closed s e (avoid.TransformersBut e.one e.other)) closed
        e.one e.other)

    -- ---- E, J, C

    pub earths-more : (s : Branch) → Le (earths net r s) (earths net w s)
    earths-more s =
        le-any (λ (x : Node). x.is_source
        && (leads net r (without Gapless s avoid.Nothing) s.one x.number
        && (r.may_be_false x.dead || not
        (leads net r (without Inseparable s avoid.Nothing) s.one x.number))))
        (λ (x : Node). x.is_source
        && (leads net w (without Gapless s avoid.Nothing) s.one x.number
        && (w.may_be_false x.dead || not
        (leads net w (without Inseparable s avoid.Nothing) s.one x.number))))
        (λ x. le-under x.is_source _ _
        (le-and (leads net r (without Gapless s avoid.Nothing) s.one x.number)
        (leads net w (without Gapless s avoid.Nothing) s.one x.number) _ _
        (leads-more r w (without Gapless s avoid.Nothing) gapless s.one x.number)
        (le-or (r.may_be_false x.dead) (w.may_be_false x.dead)
        (not (leads net r (without Inseparable s avoid.Nothing) s.one x.number))
        (not (leads net w (without Inseparable s avoid.Nothing) s.one x.number))
        (record { gives = worse.may_be_false x.dead })
        (le-not (leads net r (without Inseparable s avoid.Nothing) s.one x.number)
        (leads net w (without Inseparable s avoid.Nothing) s.one x.number)
        (leads-more w r (without Inseparable s avoid.Nothing) inseparable s.one x.number)))))
        net.nodes

    bridges-from-more : (s : Branch) (a b : ℕ)
        → Le (bridges_from net r s a b) (bridges_from net w s a b)
    bridges-from-more s a b =
        le-and (reaches net r s (without Gapless s (avoid.Node b)) a Live)
        (reaches net w s (without Gapless s (avoid.Node b)) a Live)
        (reaches_earth net r s (without Gapless s (avoid.Node a)) b)
        (reaches_earth net w s (without Gapless s (avoid.Node a)) b)
        (reaches-more s (without Gapless s (avoid.Node b)) gapless a Live)
        (earth-more s (without Gapless s (avoid.Node a)) gapless b)

    pub bridges-more : (s : Branch) → Le (bridges net r s) (bridges net w s)
    bridges-more s =
        le-or (bridges_from net r s s.one s.other) (bridges_from net w s s.one s.other)
        (bridges_from net r s s.other s.one) (bridges_from net w s s.other s.one)
        (bridges-from-more s s.one s.other) (bridges-from-more s s.other s.one)

    breaks-from-more : (s : Branch) (a b : ℕ)
        → Le (breaks_from net r s a b) (breaks_from net w s a b)
    breaks-from-more s a b =
        let of_a = without Possible s (avoid.Node b) in
        let of_b = without Possible s (avoid.Node a) in
        le-and (reaches net r s of_a a Live) (reaches net w s of_a a Live)
        (reaches net r s of_b b Terminal || reaches_earth net r s of_b b)
        (reaches net w s of_b b Terminal || reaches_earth net w s of_b b)
        (reaches-more s of_a possible a Live)
        (le-or (reaches net r s of_b b Terminal) (reaches net w s of_b b Terminal)
        (reaches_earth net r s of_b b) (reaches_earth net w s of_b b)
        (reaches-more s of_b possible b Terminal) (earth-more s of_b possible b))

    pub breaks-more : (s : Branch) → Le (breaks net r s) (breaks net w s)
    breaks-more s =
        le-and (breaks_from net r s s.one s.other || breaks_from net r s s.other s.one)
        (breaks_from net w s s.one s.other || breaks_from net w s s.other s.one)
        (not (has_beside net r s s)) (not (has_beside net w s s))
        (le-or (breaks_from net r s s.one s.other) (breaks_from net w s s.one s.other)
        (breaks_from net r s s.other s.one) (breaks_from net w s s.other s.one)
        (breaks-from-more s s.one s.other) (breaks-from-more s s.other s.one))
        (no-beside s s)

    -- ---- A, B

    module _ (s d : Branch) where
      comes-more : (a b x y : ℕ) (p q : Target)
          → Le (reaches_both net r s d a b x y p q) (reaches_both net w s d a b x y p q)
      comes-more a b x y p q =
          let of_b = without_both Possible s d (avoid.NodesAndEnd a x y) in
          let of_y = without_both Possible s d (avoid.NodesAndEnd a x b) in
          le-and (reaches net r s of_b b p) (reaches net w s of_b b p)
          (reaches net r s of_y y q) (reaches net w s of_y y q)
          (reaches-more s of_b possible b p) (reaches-more s of_y possible y q)

      near-more : (a b x y : ℕ)
          → Le (makes_near net r s d a b x y) (makes_near net w s d a b x y)
      near-more a b x y =
          let route = without_both Possible s d (avoid.TerminalsAndNodes b y) in
          le-under (not (is_terminal net a || is_terminal net x)) _ _
          (le-and (leads net r route a x) (leads net w route a x) _ _
          (leads-more r w route possible a x)
          (le-or (reaches_both net r s d a b x y Live Terminal)
          (reaches_both net w s d a b x y Live Terminal)
          (reaches_both net r s d a b x y Terminal Live)
          (reaches_both net w s d a b x y Terminal Live)
          (comes-more a b x y Live Terminal) (comes-more a b x y Terminal Live)))

      energises-more : (a b x y : ℕ)
          → Le (energises net r s d a b x y) (energises net w s d a b x y)
      energises-more a b x y =
          let route = without_both Possible s d (avoid.SourcesAndNodes b y) in
          le-under (not (is_source net a || is_source net x)) _ _
          (le-and (leads net r route a x) (leads net w route a x) _ _
          (leads-more r w route possible a x) (comes-more a b x y Live Load))

      makes-from-more : (a b x y : ℕ)
          → Le (makes_from net r s d a b x y) (makes_from net w s d a b x y)
      makes-from-more a b x y =
          le-under (not (a == y || (b == x || b == y))) _ _
          (le-or (makes_near net r s d a b x y) (makes_near net w s d a b x y)
          (energises net r s d a b x y) (energises net w s d a b x y)
          (near-more a b x y) (energises-more a b x y))

      pub makes-more : Le (makes_current net r s d) (makes_current net w s d)
      makes-more =
          le-or (makes_from net r s d s.one s.other d.one d.other)
          (makes_from net w s d s.one s.other d.one d.other) _ _
          (makes-from-more s.one s.other d.one d.other)
          (le-or (makes_from net r s d s.one s.other d.other d.one)
          (makes_from net w s d s.one s.other d.other d.one) _ _
          (makes-from-more s.one s.other d.other d.one)
          (le-or (makes_from net r s d s.other s.one d.one d.other)
          (makes_from net w s d s.other s.one d.one d.other) _ _
          (makes-from-more s.other s.one d.one d.other)
          (makes-from-more s.other s.one d.other d.one)))

      lies-more : (a b : ℕ) → Le (lies_beside net r s d a b) (lies_beside net w s d a b)
      lies-more a b =
          let of_a = without_both Possible s d (avoid.TransformersAndNodes d.one a b d.other) in
          let of_b = without_both Possible s d (avoid.TransformersAndNodes b d.other a d.one) in
          le-under (a == d.one || not (is_transformer net a)) _ _
          (le-under (b == d.other || not (is_transformer net b)) _ _
          (le-under (not (a == d.other || b == d.one)) _ _
          (le-and (leads net r of_a d.one a) (leads net w of_a d.one a)
          (leads net r of_b b d.other) (leads net w of_b b d.other)
          (leads-more r w of_a possible d.one a) (leads-more r w of_b possible b d.other))))

      feeds-more : (x y : ℕ) → Le (feeds_from net r s d x y) (feeds_from net w s d x y)
      feeds-more x y =
          let of_x = without_both Possible s d (avoid.Node y) in
          let of_y = without_both Possible s d (avoid.Node x) in
          le-and (reaches net r s of_x x Live) (reaches net w s of_x x Live)
          (reaches net r s of_y y Terminal) (reaches net w s of_y y Terminal)
          (reaches-more s of_x possible x Live) (reaches-more s of_y possible y Terminal)

      pub leaves-more : Le (leaves_current net r s d) (leaves_current net w s d)
      leaves-more =
          le-and (lies_beside net r s d s.one s.other || lies_beside net r s d s.other s.one)
          (lies_beside net w s d s.one s.other || lies_beside net w s d s.other s.one)
          (feeds_from net r s d d.one d.other || feeds_from net r s d d.other d.one)
          (feeds_from net w s d d.one d.other || feeds_from net w s d d.other d.one)
          (le-or (lies_beside net r s d s.one s.other) (lies_beside net w s d s.one s.other)
          (lies_beside net r s d s.other s.one) (lies_beside net w s d s.other s.one)
          (lies-more s.one s.other) (lies-more s.other s.one))
          (le-or (feeds_from net r s d d.one d.other) (feeds_from net w s d d.one d.other)
          (feeds_from net r s d d.other d.one) (feeds_from net w s d d.other d.one)
          (feeds-more d.one d.other) (feeds-more d.other d.one))

      pub exposed-more : Le (is_exposed net r s d) (is_exposed net w s d)
      exposed-more =
          le-under (is_disconnector d.kind) _ _
          (le-under (not (d.number == s.number)) _ _
          (le-and (r.may_move d.device) (w.may_move d.device)
          (not (has_beside net r s d) && not (has_beside net r d s))
          (not (has_beside net w s d) && not (has_beside net w d s))
          (record { gives = worse.may_move d.device })
          (le-and (not (has_beside net r s d)) (not (has_beside net w s d))
          (not (has_beside net r d s)) (not (has_beside net w d s))
          (no-beside s d) (no-beside d s))))

    pub makes-any-more : (s : Branch) → Le (makes_any net r s) (makes_any net w s)
    makes-any-more s =
        le-any (λ (d : Branch). is_exposed net r s d && makes_current net r s d)
        (λ (d : Branch). is_exposed net w s d && makes_current net w s d)
        (λ d. le-and (is_exposed net r s d) (is_exposed net w s d) (makes_current net r s d)
        (makes_current net w s d)
        (exposed-more s d) (makes-more s d)) net.branches

    pub leaves-any-more : (s : Branch) → Le (leaves_any net r s) (leaves_any net w s)
    leaves-any-more s =
        le-any (λ (d : Branch). is_exposed net r s d && leaves_current net r s d)
        (λ (d : Branch). is_exposed net w s d && leaves_current net w s d)
        (λ d. le-and (is_exposed net r s d) (is_exposed net w s d) (leaves_current net r s d)
        (leaves_current net w s d)
        (exposed-more s d) (leaves-more s d)) net.branches

    -- ---- Y, T, L

    joins-live-more : (s : Branch) → Le (joins_live net r s) (joins_live net w s)
    joins-live-more s =
        let of_one = without Possible s (avoid.Node s.other) in
        let of_other = without Possible s (avoid.Node s.one) in
        le-and (reaches net r s of_one s.one Energised) (reaches net w s of_one s.one Energised)
        (reaches net r s of_other s.other Energised) (reaches net w s of_other s.other Energised)
        (reaches-more s of_one possible s.one Energised)
        (reaches-more s of_other possible s.other Energised)

    pub joins-parts-more : (s : Branch) → Le (joins_parts net r s) (joins_parts net w s)
    joins-parts-more s =
        le-under (net.checks.live_parts || is_some s.synchro) _ _
        (le-and (r.may_be_false s.synchro) (w.may_be_false s.synchro) _ _
        (record { gives = worse.may_be_false s.synchro })
        (le-and (joins_live net r s) (joins_live net w s)
        (not (has_beside net r s s)) (not (has_beside net w s s))
        (joins-live-more s) (no-beside s s)))

    pub uncouples-more : (s : Branch) → Le (uncouples net r s) (uncouples net w s)
    uncouples-more s =
        let route = without Disconnectors s avoid.Nothing in
        le-under s.is_coupler (leads net r route s.one s.other) (leads net w route s.one s.other)
        (leads-more r w route disconnectors s.one s.other)

    pub unearths-more : (s : Branch) → Le (unearths net r s) (unearths net w s)
    unearths-more s =
        let route = without Possible s avoid.Nothing in
        le-under net.checks.fed_earths (reaches net r s route s.one Separable)
        (reaches net w s route s.one Separable)
        (reaches-more s route possible s.one Separable)

    -- ---- an operation

    endangers-more : (s : Branch) (kind : SwitchKind) (operation : Operation)
        → Le (endangers_by net r s kind operation) (endangers_by net w s kind operation)
    endangers-more s Earthing Close = earths-more s
    endangers-more s Earthing Open = unearths-more s
    endangers-more s Breaker Close =
        le-or (bridges net r s) (bridges net w s) (makes_any net r s || joins_parts net r s)
        (makes_any net w s || joins_parts net w s) (bridges-more s)
        (le-or (makes_any net r s) (makes_any net w s) (joins_parts net r s) (joins_parts net w s)
        (makes-any-more s) (joins-parts-more s))
    endangers-more s Breaker Open =
        le-or (leaves_any net r s) (leaves_any net w s) (uncouples net r s) (uncouples net w s)
        (leaves-any-more s) (uncouples-more s)
    endangers-more s Disconnector Close =
        le-or (bridges net r s) (bridges net w s) (breaks net r s || makes_any net r s)
        (breaks net w s || makes_any net w s) (bridges-more s)
        (le-or (breaks net r s) (breaks net w s) (makes_any net r s) (makes_any net w s)
        (breaks-more s) (makes-any-more s))
    endangers-more s Disconnector Open =
        le-or (breaks net r s) (breaks net w s) (leaves_any net r s) (leaves_any net w s)
        (breaks-more s) (leaves-any-more s)

    hazard-more : (k : ℕ) (operation : Operation)
        → Le (is_hazard net r k operation) (is_hazard net w k operation)
    hazard-more k operation =
        le-any (λ (s : Branch). is_own k s.device && endangers net r s operation)
        (λ (s : Branch). is_own k s.device && endangers net w s operation)
        (λ s. le-under (is_own k s.device) (endangers net r s operation)
        (endangers net w s operation) (endangers-more s s.kind operation)) net.branches

pub hazards-grow : HazardsGrow
hazards-grow net r worse is k operation = (hazard-more net r worse is k operation).gives

pub hazards-are-bounded : HazardsAreBounded
hazards-are-bounded net a p is k operation = record {
  best = hazards-grow net _ _ (best-bounds a p is) k operation;
  worst = hazards-grow net _ _ (worst-bounds a p is) k operation;
}
