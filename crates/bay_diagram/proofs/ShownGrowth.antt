-- Where less is known, a hazard that is shown is shown still, by the same walks.
use Rattle.std.proofs.Common.{ℕ, Bool, true, false, not, ◌&&◌, ◌||◌, List, [], ◌∷◌, Option, None, Some, cond}
use Rattle.std.specs.Prelude.{◌==◌}
use Rattle.bay_base.specs.declared.switch.Operation.{Operation}
use Rattle.bay_diagram.specs.declared.hazard.Target.{Target}
use Rattle.bay_diagram.specs.declared.hazard.Target.TheVariants.{Live, Terminal, Load, Energised, Separable}
use Rattle.bay_diagram.specs.declared.network.Branch.{Branch}
use Rattle.bay_diagram.specs.declared.network.Network.{Network}
use Rattle.bay_diagram.specs.declared.network.Node.{Node}
use Rattle.bay_diagram.specs.declared.shown.HazardKind.{HazardKind}
use Rattle.bay_diagram.specs.declared.shown.HazardKind.TheVariants.{Earths, Bridges, Breaks, Makes, Leaves, Joins, Uncouples, Unearths}
use Rattle.bay_diagram.specs.declared.shown.ShownHazard.{ShownHazard}
use Rattle.bay_diagram.specs.declared.shown.ShownWalk.{ShownWalk}
use Rattle.bay_diagram.specs.declared.shown.Step.{Step}
use Rattle.bay_diagram.specs.declared.walk.Avoid.{Avoid}
use Rattle.bay_diagram.specs.declared.walk.Avoid.TheVariants as avoid
use Rattle.bay_diagram.specs.declared.walk.Over.TheVariants.{Possible, Gapless, Inseparable, Disconnectors}
use Rattle.bay_diagram.specs.declared.walk.Route.{Route}
use Rattle.bay_diagram.specs.Hazards.{is_exposed, is_target, without, without_both}
use Rattle.bay_diagram.specs.Laws.{ShownBest, ShownGrows}
use Rattle.bay_diagram.specs.Network.{is_earthing, is_own, is_source, is_terminal, is_transformer}
use Rattle.bay_diagram.specs.Reading.{IsWorse, Reading}
use Rattle.bay_diagram.specs.Shown.{can_be, ends_at_earth, ends_current, is_number, is_of_kind, is_shown, is_step, is_target_at, is_through, is_unearthable, is_walk, leads_between, may_be_earthed_by, shows_beside, shows_break, shows_bridge, shows_by, shows_bypass, shows_chain, shows_earths, shows_energising, shows_feed, shows_join, shows_leave, shows_make, shows_make_from, shows_near, shows_side, shows_source, shows_with}
use Rattle.bay_diagram.specs.Walks.{is_free, may_cross, leads, may_lead_over}
use Rattle.bay_diagram.proofs.GrowthLemmas.{Le, bridges-more, breaks-more, disconnectors, earths-more, exposed-more, gapless, inseparable, joins-parts-more, le-and, le-any, le-not, le-or, le-under, leads-more, leaves-any-more, makes-any-more, possible, same, target-more, uncouples-more, unearths-more}
use Rattle.bay_diagram.proofs.ReadingLemmas.{best-bounds}

le-if : (c a b d e : Bool) → Le a b → Le d e → Le (cond c a d) (cond c b e)
le-if true a b d e p q = p
le-if false a b d e p q = q

-- ---- steps

module _ (net : Network) (p q : Branch → Bool) (more : (b : Branch) → Le (p b) (q b)) where
  step-more : (x : ℕ) (step : Step) → Le (is_step net p x step) (is_step net q x step)
  step-more x step =
      le-any (λ (b : Branch). b.number == step.branch && (p b && leads_between b x step.node))
      (λ (b : Branch). b.number == step.branch && (q b && leads_between b x step.node))
      (λ b. le-under (b.number == step.branch) (p b && leads_between b x step.node)
      (q b && leads_between b x step.node)
      (le-and (p b) (q b) (leads_between b x step.node) (leads_between b x step.node) (more b)
      (same (leads_between b x step.node)))) net.branches

  walk-more : (ends others : ℕ → Bool) → ((n : ℕ) → Le (ends n) (others n))
      → (x : ℕ) (steps : List Step) → Le (is_walk net p ends x steps) (is_walk net q others x steps)
  walk-more ends others all x [] = all x
  walk-more ends others all x (step ∷ steps) =
      le-and (is_step net p x step) (is_step net q x step) (is_walk net p ends step.node steps)
      (is_walk net q others step.node steps) (step-more x step)
      (walk-more ends others all step.node steps)

  through-more : (s : Branch) (a b : ℕ) (goes other : List Step → Bool)
      → ((steps : List Step) → Le (goes steps) (other steps)) → (x : ℕ) (steps : List Step)
      → Le (is_through net p s a b goes x steps) (is_through net q s a b other x steps)
  through-more s a b goes other all x [] = same false
  through-more s a b goes other all x (step ∷ steps) =
      le-if (step.branch == s.number) (x == a && (step.node == b && goes steps))
      (x == a && (step.node == b && other steps))
      (is_step net p x step && is_through net p s a b goes step.node steps)
      (is_step net q x step && is_through net q s a b other step.node steps)
      (le-under (x == a) (step.node == b && goes steps) (step.node == b && other steps)
      (le-under (step.node == b) (goes steps) (other steps) (all steps)))
      (le-and (is_step net p x step) (is_step net q x step)
      (is_through net p s a b goes step.node steps)
      (is_through net q s a b other step.node steps) (step-more x step)
      (through-more s a b goes other all step.node steps))

module _ (net : Network) (r w : Reading) (worse : IsWorse r w) where
  over-more : (route : Route)
      → ((b : Branch) → Le (may_cross r route.over b) (may_cross w route.over b))
      → (b : Branch) → Le (may_lead_over net r route b) (may_lead_over net w route b)
  over-more route more b =
      le-and (may_cross r route.over b) (may_cross w route.over b) (is_free net route b)
      (is_free net route b) (more b) (same (is_free net route b))

  -- a walk of two routes
  pass-more : (of_a of_b : Route)
      → ((b : Branch) → Le (may_cross r of_a.over b) (may_cross w of_a.over b))
      → ((b : Branch) → Le (may_cross r of_b.over b) (may_cross w of_b.over b))
      → (s : Branch) (a b : ℕ) (ends others : ℕ → Bool) → ((n : ℕ) → Le (ends n) (others n))
      → (walk : ShownWalk)
      → Le (is_through net (may_lead_over net r of_a) s a b
      (is_walk net (may_lead_over net r of_b) ends b) walk.start walk.steps)
      (is_through net (may_lead_over net w of_a) s a b
      (is_walk net (may_lead_over net w of_b) others b) walk.start walk.steps)
  pass-more of_a of_b over_a over_b s a b ends others all walk =
      through-more net (may_lead_over net r of_a) (may_lead_over net w of_a)
      (over-more of_a over_a) s a b (is_walk net (may_lead_over net r of_b) ends b)
      (is_walk net (may_lead_over net w of_b) others b)
      (walk-more net (may_lead_over net r of_b) (may_lead_over net w of_b) (over-more of_b over_b)
      ends others all b) walk.start walk.steps

  -- ---- the ends of walks

  target-at-more : (s : Branch) (t : Target) (n : ℕ)
      → Le (is_target_at net r s t n) (is_target_at net w s t n)
  target-at-more s t n =
      le-any (λ (x : Node). x.number == n && is_target net r s t x)
      (λ (x : Node). x.number == n && is_target net w s t x)
      (λ x. le-under (x.number == n) (is_target net r s t x) (is_target net w s t x)
      (target-more net r w worse s t x)) net.nodes

  earthed-by-more : (s : Branch) (earth n : ℕ)
      → Le (may_be_earthed_by net r s earth n) (may_be_earthed_by net w s earth n)
  earthed-by-more s earth n =
      le-any (λ (c : Branch). c.number == earth && (is_earthing c.kind
      && (not (c.number == s.number) && (r.may_conduct c.device && c.one == n))))
      (λ (c : Branch). c.number == earth && (is_earthing c.kind
      && (not (c.number == s.number) && (w.may_conduct c.device && c.one == n))))
      (λ c. le-under (c.number == earth)
      (is_earthing c.kind && (not (c.number == s.number) && (r.may_conduct c.device && c.one == n)))
      (is_earthing c.kind && (not (c.number == s.number) && (w.may_conduct c.device && c.one == n)))
      (le-under (is_earthing c.kind)
      (not (c.number == s.number) && (r.may_conduct c.device && c.one == n))
      (not (c.number == s.number) && (w.may_conduct c.device && c.one == n))
      (le-under (not (c.number == s.number)) (r.may_conduct c.device && c.one == n)
      (w.may_conduct c.device && c.one == n)
      (le-and (r.may_conduct c.device) (w.may_conduct c.device) (c.one == n) (c.one == n)
      (record { gives = worse.may_conduct c.device }) (same (c.one == n)))))) net.branches

  at-earth-more : (s : Branch) (earth : Option ℕ) (n : ℕ)
      → Le (ends_at_earth net r s earth n) (ends_at_earth net w s earth n)
  at-earth-more s None n = same false
  at-earth-more s (Some earth) n = earthed-by-more s earth n

  current-more : (s : Branch) (earth : Option ℕ) (n : ℕ)
      → Le (ends_current net r s earth n) (ends_current net w s earth n)
  current-more s None n = target-at-more s Terminal n
  current-more s (Some earth) n = earthed-by-more s earth n

  unearthable-more : (s : Branch) (n : ℕ)
      → Le (is_unearthable net r s n) (is_unearthable net w s n)
  unearthable-more s n =
      le-any (λ (x : Node). x.number == n && (x.is_source && (r.may_be_false x.dead
      || not (leads net r (without Inseparable s avoid.Nothing) s.one x.number))))
      (λ (x : Node). x.number == n && (x.is_source && (w.may_be_false x.dead
      || not (leads net w (without Inseparable s avoid.Nothing) s.one x.number))))
      (λ x. le-under (x.number == n) (x.is_source && (r.may_be_false x.dead
      || not (leads net r (without Inseparable s avoid.Nothing) s.one x.number)))
      (x.is_source && (w.may_be_false x.dead
      || not (leads net w (without Inseparable s avoid.Nothing) s.one x.number)))
      (le-under x.is_source
      (r.may_be_false x.dead || not
      (leads net r (without Inseparable s avoid.Nothing) s.one x.number))
      (w.may_be_false x.dead || not
      (leads net w (without Inseparable s avoid.Nothing) s.one x.number))
      (le-or (r.may_be_false x.dead) (w.may_be_false x.dead)
      (not (leads net r (without Inseparable s avoid.Nothing) s.one x.number))
      (not (leads net w (without Inseparable s avoid.Nothing) s.one x.number))
      (record { gives = worse.may_be_false x.dead })
      (le-not (leads net r (without Inseparable s avoid.Nothing) s.one x.number)
      (leads net w (without Inseparable s avoid.Nothing) s.one x.number)
      (leads-more net w r (without Inseparable s avoid.Nothing) (inseparable net r w worse)
      s.one x.number))))) net.nodes

  -- ---- each hazard

  shows-earths-more : (s : Branch) (shown : ShownHazard)
      → Le (shows_earths net r s shown) (shows_earths net w s shown)
  shows-earths-more s shown =
      let route = without Gapless s avoid.Nothing in
      le-under (is_number s.number shown.earth) _ _
      (le-and (is_unearthable net r s shown.walk.start) (is_unearthable net w s shown.walk.start)
      (is_walk net (may_lead_over net r route) (λ n. n == s.one) shown.walk.start shown.walk.steps)
      (is_walk net (may_lead_over net w route) (λ n. n == s.one) shown.walk.start shown.walk.steps)
      (unearthable-more s shown.walk.start)
      (walk-more net (may_lead_over net r route) (may_lead_over net w route)
      (over-more route (gapless net r w worse)) (λ n. n == s.one) (λ n. n == s.one)
      (λ n. same (n == s.one)) shown.walk.start shown.walk.steps))

  -- from a target over a switch
  target-pass : (s : Branch) (t : Target) (walk : ShownWalk) (c d : Bool) → Le c d
      → Le (is_target_at net r s t walk.start && c) (is_target_at net w s t walk.start && d)
  target-pass s t walk c d le =
      le-and (is_target_at net r s t walk.start) (is_target_at net w s t walk.start) c d
      (target-at-more s t walk.start) le

  shows-bridge-more : (s : Branch) (a b : ℕ) (shown : ShownHazard)
      → Le (shows_bridge net r s a b shown) (shows_bridge net w s a b shown)
  shows-bridge-more s a b shown =
      target-pass s Live shown.walk _ _
      (pass-more (without Gapless s (avoid.Node b)) (without Gapless s (avoid.Node a))
      (gapless net r w worse) (gapless net r w worse) s a b (ends_at_earth net r s shown.earth)
      (ends_at_earth net w s shown.earth) (at-earth-more s shown.earth) shown.walk)

  shows-break-more : (s : Branch) (a b : ℕ) (shown : ShownHazard)
      → Le (shows_break net r s a b shown) (shows_break net w s a b shown)
  shows-break-more s a b shown =
      target-pass s Live shown.walk _ _
      (pass-more (without Possible s (avoid.Node b)) (without Possible s (avoid.Node a))
      (possible net r w worse) (possible net r w worse) s a b (ends_current net r s shown.earth)
      (ends_current net w s shown.earth) (current-more s shown.earth) shown.walk)

  shows-feed-more : (s d : Branch) (x y : ℕ) (walk : ShownWalk)
      → Le (shows_feed net r s d x y walk) (shows_feed net w s d x y walk)
  shows-feed-more s d x y walk =
      target-pass s Live walk _ _
      (pass-more (without_both Possible s d (avoid.Node y))
      (without_both Possible s d (avoid.Node x)) (possible net r w worse) (possible net r w worse)
      d x y (is_target_at net r s Terminal) (is_target_at net w s Terminal)
      (target-at-more s Terminal) walk)

  shows-side-more : (s d : Branch) (a b : ℕ) (walk : ShownWalk)
      → Le (shows_side net r s d a b walk) (shows_side net w s d a b walk)
  shows-side-more s d a b walk =
      le-under (a == d.one || not (is_transformer net a)) _ _
      (le-under (b == d.other || not (is_transformer net b)) _ _
      (le-under (not (a == d.other || b == d.one)) _ _
      (le-under (walk.start == d.one) _ _
      (pass-more (without_both Possible s d (avoid.TransformersAndNodes d.one a b d.other))
      (without_both Possible s d (avoid.TransformersAndNodes b d.other a d.one))
      (possible net r w worse) (possible net r w worse) s a b (λ n. n == d.other)
      (λ n. n == d.other) (λ n. same (n == d.other)) walk))))

  shows-beside-more : (s d : Branch) (beside : Option ShownWalk)
      → Le (shows_beside net r s d beside) (shows_beside net w s d beside)
  shows-beside-more s d None = same false
  shows-beside-more s d (Some walk) =
      le-or (shows_side net r s d s.one s.other walk) (shows_side net w s d s.one s.other walk)
      (shows_side net r s d s.other s.one walk) (shows_side net w s d s.other s.one walk)
      (shows-side-more s d s.one s.other walk) (shows-side-more s d s.other s.one walk)

  shows-leave-more : (s d : Branch) (shown : ShownHazard)
      → Le (shows_leave net r s d shown) (shows_leave net w s d shown)
  shows-leave-more s d shown =
      le-and (shows_beside net r s d shown.beside) (shows_beside net w s d shown.beside) _ _
      (shows-beside-more s d shown.beside)
      (le-or (shows_feed net r s d d.one d.other shown.walk)
      (shows_feed net w s d d.one d.other shown.walk)
      (shows_feed net r s d d.other d.one shown.walk)
      (shows_feed net w s d d.other d.one shown.walk)
      (shows-feed-more s d d.one d.other shown.walk) (shows-feed-more s d d.other d.one shown.walk))

  shows-chain-more : (s d : Branch) (a b x y : ℕ) (nodes : Avoid) (p q : Target)
      (walk : ShownWalk)
      → Le (shows_chain net r s d a b x y nodes p q walk)
      (shows_chain net w s d a b x y nodes p q walk)
  shows-chain-more s d a b x y nodes p q walk =
      let of_b = without_both Possible s d (avoid.NodesAndEnd a x y) in
      let between = without_both Possible s d nodes in
      let of_y = without_both Possible s d (avoid.NodesAndEnd a x b) in
      target-pass s p walk _ _
      (through-more net (may_lead_over net r of_b) (may_lead_over net w of_b)
      (over-more of_b (possible net r w worse)) s b a
      (is_through net (may_lead_over net r between) d x y
      (is_walk net (may_lead_over net r of_y) (is_target_at net r s q) y) a)
      (is_through net (may_lead_over net w between) d x y
      (is_walk net (may_lead_over net w of_y) (is_target_at net w s q) y) a)
      (λ steps. through-more net (may_lead_over net r between) (may_lead_over net w between)
      (over-more between (possible net r w worse)) d x y
      (is_walk net (may_lead_over net r of_y) (is_target_at net r s q) y)
      (is_walk net (may_lead_over net w of_y) (is_target_at net w s q) y)
      (walk-more net (may_lead_over net r of_y) (may_lead_over net w of_y)
      (over-more of_y (possible net r w worse)) (is_target_at net r s q)
      (is_target_at net w s q) (target-at-more s q) y) a steps) walk.start walk.steps)

  shows-near-more : (s d : Branch) (a b x y : ℕ) (walk : ShownWalk)
      → Le (shows_near net r s d a b x y walk) (shows_near net w s d a b x y walk)
  shows-near-more s d a b x y walk =
      let nodes = avoid.TerminalsAndNodes b y in
      le-under (not (is_terminal net a || is_terminal net x)) _ _
      (le-or (shows_chain net r s d a b x y nodes Live Terminal walk)
      (shows_chain net w s d a b x y nodes Live Terminal walk)
      (shows_chain net r s d a b x y nodes Terminal Live walk)
      (shows_chain net w s d a b x y nodes Terminal Live walk)
      (shows-chain-more s d a b x y nodes Live Terminal walk)
      (shows-chain-more s d a b x y nodes Terminal Live walk))

  shows-energising-more : (s d : Branch) (a b x y : ℕ) (walk : ShownWalk)
      → Le (shows_energising net r s d a b x y walk) (shows_energising net w s d a b x y walk)
  shows-energising-more s d a b x y walk =
      le-under (not (is_source net a || is_source net x)) _ _
      (shows-chain-more s d a b x y (avoid.SourcesAndNodes b y) Live Load walk)

  shows-make-from-more : (s d : Branch) (a b x y : ℕ) (walk : ShownWalk)
      → Le (shows_make_from net r s d a b x y walk) (shows_make_from net w s d a b x y walk)
  shows-make-from-more s d a b x y walk =
      le-under (not (a == y || (b == x || b == y))) _ _
      (le-or (shows_near net r s d a b x y walk) (shows_near net w s d a b x y walk)
      (shows_energising net r s d a b x y walk) (shows_energising net w s d a b x y walk)
      (shows-near-more s d a b x y walk) (shows-energising-more s d a b x y walk))

  shows-make-more : (s d : Branch) (walk : ShownWalk)
      → Le (shows_make net r s d walk) (shows_make net w s d walk)
  shows-make-more s d walk =
      let u = s.one in let v = s.other in let x = d.one in let y = d.other in
      le-or (shows_make_from net r s d u v x y walk) (shows_make_from net w s d u v x y walk) _ _
      (shows-make-from-more s d u v x y walk)
      (le-or (shows_make_from net r s d u v y x walk) (shows_make_from net w s d u v y x walk) _ _
      (shows-make-from-more s d u v y x walk)
      (le-or (shows_make_from net r s d v u x y walk) (shows_make_from net w s d v u x y walk)
      (shows_make_from net r s d v u y x walk) (shows_make_from net w s d v u y x walk)
      (shows-make-from-more s d v u x y walk) (shows-make-from-more s d v u y x walk)))

  -- ---- Y, T, L

  shows-join-more : (s : Branch) (shown : ShownHazard)
      → Le (shows_join net r s shown) (shows_join net w s shown)
  shows-join-more s shown =
      let of_one = without Possible s (avoid.Node s.other) in
      let of_other = without Possible s (avoid.Node s.one) in
      target-pass s Energised shown.walk _ _
      (pass-more of_one of_other (possible net r w worse) (possible net r w worse) s s.one s.other
      (is_target_at net r s Energised) (is_target_at net w s Energised)
      (target-at-more s Energised) shown.walk)

  shows-bypass-more : (s : Branch) (shown : ShownHazard)
      → Le (shows_bypass net r s shown) (shows_bypass net w s shown)
  shows-bypass-more s shown =
      let route = without Disconnectors s avoid.Nothing in
      le-under (shown.walk.start == s.one) _ _
      (walk-more net (may_lead_over net r route) (may_lead_over net w route)
      (over-more route (disconnectors net r w worse)) (λ n. n == s.other) (λ n. n == s.other)
      (λ n. same (n == s.other)) shown.walk.start shown.walk.steps)

  shows-source-more : (s : Branch) (shown : ShownHazard)
      → Le (shows_source net r s shown) (shows_source net w s shown)
  shows-source-more s shown =
      let route = without Possible s avoid.Nothing in
      le-under (is_number s.number shown.earth) _ _
      (target-pass s Separable shown.walk _ _
      (walk-more net (may_lead_over net r route) (may_lead_over net w route)
      (over-more route (possible net r w worse)) (λ n. n == s.one) (λ n. n == s.one)
      (λ n. same (n == s.one)) shown.walk.start shown.walk.steps))

  -- ---- a hazard

  shows-with-more : (s : Branch) (other : Option ℕ) (f g : Branch → Bool)
      → ((d : Branch) → Le (f d) (g d))
      → Le (shows_with net r s other f) (shows_with net w s other g)
  shows-with-more s None f g all = same false
  shows-with-more s (Some other) f g all =
      le-any (λ (d : Branch). d.number == other && (is_exposed net r s d && f d))
      (λ (d : Branch). d.number == other && (is_exposed net w s d && g d))
      (λ d. le-under (d.number == other) (is_exposed net r s d && f d)
      (is_exposed net w s d && g d)
      (le-and (is_exposed net r s d) (is_exposed net w s d) (f d) (g d)
      (exposed-more net r w worse s d) (all d))) net.branches

  shows-by-more : (s : Branch) (shown : ShownHazard) (kind : HazardKind)
      → Le (shows_by net r s shown kind) (shows_by net w s shown kind)
  shows-by-more s shown Earths = shows-earths-more s shown
  shows-by-more s shown Bridges =
      le-or (shows_bridge net r s s.one s.other shown) (shows_bridge net w s s.one s.other shown)
      (shows_bridge net r s s.other s.one shown) (shows_bridge net w s s.other s.one shown)
      (shows-bridge-more s s.one s.other shown) (shows-bridge-more s s.other s.one shown)
  shows-by-more s shown Breaks =
      le-or (shows_break net r s s.one s.other shown) (shows_break net w s s.one s.other shown)
      (shows_break net r s s.other s.one shown) (shows_break net w s s.other s.one shown)
      (shows-break-more s s.one s.other shown) (shows-break-more s s.other s.one shown)
  shows-by-more s shown Makes =
      shows-with-more s shown.other (λ d. shows_make net r s d shown.walk)
      (λ d. shows_make net w s d shown.walk) (λ d. shows-make-more s d shown.walk)
  shows-by-more s shown Leaves =
      shows-with-more s shown.other (λ d. shows_leave net r s d shown)
      (λ d. shows_leave net w s d shown) (λ d. shows-leave-more s d shown)
  shows-by-more s shown Joins = shows-join-more s shown
  shows-by-more s shown Uncouples = shows-bypass-more s shown
  shows-by-more s shown Unearths = shows-source-more s shown

  of-kind-more : (s : Branch) (kind : HazardKind)
      → Le (is_of_kind net r s kind) (is_of_kind net w s kind)
  of-kind-more s Earths = earths-more net r w worse s
  of-kind-more s Bridges = bridges-more net r w worse s
  of-kind-more s Breaks = breaks-more net r w worse s
  of-kind-more s Makes = makes-any-more net r w worse s
  of-kind-more s Leaves = leaves-any-more net r w worse s
  of-kind-more s Joins = joins-parts-more net r w worse s
  of-kind-more s Uncouples = uncouples-more net r w worse s
  of-kind-more s Unearths = unearths-more net r w worse s

  shown-more : (k : ℕ) (operation : Operation) (shown : ShownHazard)
      → Le (is_shown net r k operation shown) (is_shown net w k operation shown)
  shown-more k operation shown =
      le-any (λ (s : Branch). is_own k s.device && (s.number == shown.switch
      && (can_be s.kind operation shown.kind
      && (is_of_kind net r s shown.kind && shows_by net r s shown shown.kind))))
      (λ (s : Branch). is_own k s.device && (s.number == shown.switch
      && (can_be s.kind operation shown.kind
      && (is_of_kind net w s shown.kind && shows_by net w s shown shown.kind))))
      (λ s. le-under (is_own k s.device) _ _ (le-under (s.number == shown.switch) _ _
      (le-under (can_be s.kind operation shown.kind) _ _
      (le-and (is_of_kind net r s shown.kind) (is_of_kind net w s shown.kind)
      (shows_by net r s shown shown.kind) (shows_by net w s shown shown.kind)
      (of-kind-more s shown.kind) (shows-by-more s shown shown.kind))))) net.branches

pub shown-grows : ShownGrows
shown-grows net r worse is k operation shown = (shown-more net r worse is k operation shown).gives

pub shown-best : ShownBest
shown-best net a p is k operation shown =
    shown-grows net _ _ (best-bounds a p is) k operation shown
