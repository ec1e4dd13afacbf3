-- What shows a hazard: walks, step by step.
use Rattle.std.specs.Prelude.{ℕ, ◌≡◌, Bool, true, false, not, ◌&&◌, ◌||◌, ◌==◌, List, [], ◌∷◌, Option, None, Some, if◌then◌else◌}
use Rattle.std.specs.List.{list_any}
use Rattle.bay_base.specs.declared.switch.Operation.{Operation}
use Rattle.bay_base.specs.declared.switch.Operation.TheVariants.{Open, Close}
use Rattle.bay_base.specs.declared.switch.SwitchKind.{SwitchKind}
use Rattle.bay_base.specs.declared.switch.SwitchKind.TheVariants.{Breaker, Disconnector, Earthing}
use Rattle.bay_diagram.specs.declared.ends.End.{End}
use Rattle.bay_diagram.specs.declared.hazard.Ends.{Ends}
use Rattle.bay_diagram.specs.declared.hazard.Target.{Target}
use Rattle.bay_diagram.specs.declared.hazard.Target.TheVariants.{Live, Terminal, Load, Energised, Separable}
use Rattle.bay_diagram.specs.declared.network.Branch.{Branch}
use Rattle.bay_diagram.specs.declared.network.Network.{Network}
use Rattle.bay_diagram.specs.declared.shown.HazardKind.{HazardKind}
use Rattle.bay_diagram.specs.declared.shown.HazardKind.TheVariants.{Earths, Bridges, Breaks, Makes, Leaves, Joins, Uncouples, Unearths}
use Rattle.bay_diagram.specs.declared.shown.ShownHazard.{ShownHazard}
use Rattle.bay_diagram.specs.declared.shown.ShownWalk.{ShownWalk}
use Rattle.bay_diagram.specs.declared.shown.Step.{Step}
use Rattle.bay_diagram.specs.declared.walk.Avoid.{Avoid}
use Rattle.bay_diagram.specs.declared.walk.Avoid.TheVariants as avoid
use Rattle.bay_diagram.specs.declared.walk.Over.TheVariants.{Possible, Gapless, Inseparable, Disconnectors}
use Rattle.bay_diagram.specs.declared.walk.Route.{Route}
use Rattle.bay_diagram.specs.Hazards.{breaks, bridges, earths, is_exposed, is_hazard, is_target, joins_parts, leaves_any, makes_any, uncouples, unearths, without, without_both}
use Rattle.bay_diagram.specs.Network.{is_earthing, is_own, is_source, is_terminal, is_transformer}
use Rattle.bay_diagram.specs.Reading.{Reading}
use Rattle.bay_diagram.specs.Walks.{leads, may_lead_over}

-- ---- walks

-- the branch leads from the node x to the node y, either way
abbrev pub leads_between : Branch → ℕ → ℕ → Bool
leads_between b x y = b.one == x && b.other == y || b.other == x && b.one == y

-- the nodes of a branch, as it is led over: forth or back
abbrev pub sides_from : Bool → Branch → ℕ × ℕ
sides_from true b = (b.one, b.other)
sides_from false b = (b.other, b.one)

-- the step leads from the node x over a branch that a walk may lead over
abbrev pub is_step : Network → (Branch → Bool) → ℕ → Step → Bool
is_step net over x step =
    list_any (λ b. b.number == step.branch && (over b && leads_between b x step.node)) net.branches

-- the steps lead from the node x, one after the other, to a node at which they may end
abbrev pub is_walk : Network → (Branch → Bool) → (ℕ → Bool) → ℕ → List Step → Bool
is_walk net over ends x [] = ends x
is_walk net over ends x (step ∷ steps) =
    is_step net over x step && is_walk net over ends step.node steps

-- the steps lead from the node x to the node a, over the switch s to its node b, and go on from
-- there
abbrev pub is_through : Network → (Branch → Bool) → Branch → ℕ → ℕ → (List Step → Bool)
    → ℕ → List Step → Bool
is_through net over s a b goes_on x [] = false
is_through net over s a b goes_on x (step ∷ steps) =
    if step.branch == s.number then x == a && (step.node == b && goes_on steps)
    else is_step net over x step && is_through net over s a b goes_on step.node steps

-- a walk of the route leads over no branch with the number
abbrev pub leaves_out : Route → ℕ → Bool
leaves_out route n = n == route.without || n == route.also_without

-- the number is there, and is this one
abbrev pub is_number : ℕ → Option ℕ → Bool
is_number n None = false
is_number n (Some m) = m == n

-- ---- the ends of walks

-- the node with the number n is one that a walk looks for
abbrev pub is_target_at : Network → Reading → Branch → Target → ℕ → Bool
is_target_at net r s target n =
    list_any (λ x. x.number == n && is_target net r s target x) net.nodes

-- an earthing switch with this number, other than s, may earth the node n
abbrev pub may_be_earthed_by : Network → Reading → Branch → ℕ → ℕ → Bool
may_be_earthed_by net r s earth n =
    list_any (λ c. c.number == earth && (is_earthing c.kind
    && (not (c.number == s.number) && (r.may_conduct c.device && c.one == n)))) net.branches

-- the node n may be earthed by the earthing switch that is shown
abbrev pub ends_at_earth : Network → Reading → Branch → Option ℕ → ℕ → Bool
ends_at_earth net r s None n = false
ends_at_earth net r s (Some earth) n = may_be_earthed_by net r s earth n

-- a current can leave at the node n: it is a terminal, or may be earthed by the earthing switch
-- that is shown
abbrev pub ends_current : Network → Reading → Branch → Option ℕ → ℕ → Bool
ends_current net r s None n = is_target_at net r s Terminal n
ends_current net r s (Some earth) n = may_be_earthed_by net r s earth n

-- ---- E, J, C

-- a source, from which no gap parts the node of the earthing switch s, may be live or could be
-- parted
abbrev pub is_unearthable : Network → Reading → Branch → ℕ → Bool
is_unearthable net r s n =
    list_any (λ x. x.number == n && (x.is_source && (r.may_be_false x.dead
    || not (leads net r (without Inseparable s avoid.Nothing) s.one x.number)))) net.nodes

-- E: from a source without a gap to the node of the earthing switch
abbrev pub shows_earths : Network → Reading → Branch → ShownHazard → Bool
shows_earths net r s shown =
    is_number s.number shown.earth && (is_unearthable net r s shown.walk.start
    && is_walk net (may_lead_over net r (without Gapless s avoid.Nothing)) (λ n. n == s.one)
    shown.walk.start shown.walk.steps)

-- J: from a live source to the side a of the switch, over it, and from its side b to an earth
abbrev pub shows_bridge : Network → Reading → Branch → ℕ → ℕ → ShownHazard → Bool
shows_bridge net r s a b shown =
    is_target_at net r s Live shown.walk.start
    && is_through net (may_lead_over net r (without Gapless s (avoid.Node b))) s a b
    (is_walk net (may_lead_over net r (without Gapless s (avoid.Node a)))
    (ends_at_earth net r s shown.earth) b)
    shown.walk.start shown.walk.steps

-- C: from a live source to the side a of the switch, over it, and from its side b to a terminal or
-- to an earth
abbrev pub shows_break : Network → Reading → Branch → ℕ → ℕ → ShownHazard → Bool
shows_break net r s a b shown =
    is_target_at net r s Live shown.walk.start
    && is_through net (may_lead_over net r (without Possible s (avoid.Node b))) s a b
    (is_walk net (may_lead_over net r (without Possible s (avoid.Node a)))
    (ends_current net r s shown.earth) b)
    shown.walk.start shown.walk.steps

-- ---- A

-- p .. b - s - a .. x - d - y .. q, with the nodes to avoid between a and x
abbrev pub shows_chain : Network → Reading → Branch → Branch → ℕ → ℕ → ℕ → ℕ → Avoid
    → Target → Target → ShownWalk → Bool
shows_chain net r s d a b x y nodes p q walk =
    is_target_at net r s p walk.start
    && is_through net (may_lead_over net r (without_both Possible s d (avoid.NodesAndEnd a x y)))
    s b a
    (is_through net (may_lead_over net r (without_both Possible s d nodes)) d x y
    (is_walk net (may_lead_over net r (without_both Possible s d (avoid.NodesAndEnd a x b)))
    (is_target_at net r s q) y) a)
    walk.start walk.steps

-- the path passes no terminal between a and x
abbrev pub shows_near : Network → Reading → Branch → Branch → ℕ → ℕ → ℕ → ℕ → ShownWalk → Bool
shows_near net r s d a b x y walk =
    not (is_terminal net a || is_terminal net x)
    && (shows_chain net r s d a b x y (avoid.TerminalsAndNodes b y) Live Terminal walk
    || shows_chain net r s d a b x y (avoid.TerminalsAndNodes b y) Terminal Live walk)

-- the path passes no source between a and x, and ends at a terminal that is no source
abbrev pub shows_energising : Network → Reading → Branch → Branch → ℕ → ℕ → ℕ → ℕ → ShownWalk
    → Bool
shows_energising net r s d a b x y walk =
    not (is_source net a || is_source net x)
    && shows_chain net r s d a b x y (avoid.SourcesAndNodes b y) Live Load walk

abbrev pub shows_make_from : Network → Reading → Branch → Branch → ℕ → ℕ → ℕ → ℕ → ShownWalk
    → Bool
shows_make_from net r s d a b x y walk =
    not (a == y || (b == x || b == y))
    && (shows_near net r s d a b x y walk || shows_energising net r s d a b x y walk)

-- A: the way of a current over the switch s and the disconnector d, whichever sides of the two face
-- each other
abbrev pub shows_make : Network → Reading → Branch → Branch → ShownWalk → Bool
shows_make net r s d walk =
    shows_make_from net r s d s.one s.other d.one d.other walk
    || (shows_make_from net r s d s.one s.other d.other d.one walk
    || (shows_make_from net r s d s.other s.one d.one d.other walk
    || shows_make_from net r s d s.other s.one d.other d.one walk))

-- ---- B

-- a path beside the disconnector d leads over the switch s, with its side a towards the first node
-- of d
abbrev pub shows_side : Network → Reading → Branch → Branch → ℕ → ℕ → ShownWalk → Bool
shows_side net r s d a b walk =
    (a == d.one || not (is_transformer net a)) && ((b == d.other || not (is_transformer net b))
    && (not (a == d.other || b == d.one)
    && (walk.start == d.one
    && is_through net
    (may_lead_over net r (without_both Possible s d (avoid.TransformersAndNodes d.one a b d.other)))
    s a b
    (is_walk net
    (may_lead_over net r (without_both Possible s d (avoid.TransformersAndNodes b d.other a d.one)))
    (λ n. n == d.other) b)
    walk.start walk.steps)))

abbrev pub shows_beside : Network → Reading → Branch → Branch → Option ShownWalk → Bool
shows_beside net r s d None = false
shows_beside net r s d (Some walk) =
    shows_side net r s d s.one s.other walk || shows_side net r s d s.other s.one walk

-- a current through the disconnector d from its side x, without the switch s
abbrev pub shows_feed : Network → Reading → Branch → Branch → ℕ → ℕ → ShownWalk → Bool
shows_feed net r s d x y walk =
    is_target_at net r s Live walk.start
    && is_through net (may_lead_over net r (without_both Possible s d (avoid.Node y))) d x y
    (is_walk net (may_lead_over net r (without_both Possible s d (avoid.Node x)))
    (is_target_at net r s Terminal) y)
    walk.start walk.steps

-- B: the way of a current over the disconnector d, and the path beside d over the switch s
abbrev pub shows_leave : Network → Reading → Branch → Branch → ShownHazard → Bool
shows_leave net r s d shown =
    shows_beside net r s d shown.beside
    && (shows_feed net r s d d.one d.other shown.walk
    || shows_feed net r s d d.other d.one shown.walk)

-- ---- Y, T, L

-- Y: from a live source to the first side of the switch, over it, and from its other side to a live
-- source; neither source is known to be dead
abbrev pub shows_join : Network → Reading → Branch → ShownHazard → Bool
shows_join net r s shown =
    is_target_at net r s Energised shown.walk.start
    && is_through net (may_lead_over net r (without Possible s (avoid.Node s.other))) s s.one
    s.other
    (is_walk net (may_lead_over net r (without Possible s (avoid.Node s.one)))
    (is_target_at net r s Energised) s.other)
    shown.walk.start shown.walk.steps

-- T: from the first side of the coupler to its other side, over disconnectors
abbrev pub shows_bypass : Network → Reading → Branch → ShownHazard → Bool
shows_bypass net r s shown =
    shown.walk.start == s.one
    && is_walk net (may_lead_over net r (without Disconnectors s avoid.Nothing))
    (λ n. n == s.other) shown.walk.start shown.walk.steps

-- L: from a live source, which is not known to be dead, to the node of the earthing switch
abbrev pub shows_source : Network → Reading → Branch → ShownHazard → Bool
shows_source net r s shown =
    is_number s.number shown.earth && (is_target_at net r s Separable shown.walk.start
    && is_walk net (may_lead_over net r (without Possible s avoid.Nothing)) (λ n. n == s.one)
    shown.walk.start shown.walk.steps)

-- ---- a hazard

-- the walk of A or B is shown with its disconnector
abbrev pub shows_with : Network → Reading → Branch → Option ℕ → (Branch → Bool) → Bool
shows_with net r s None shows = false
shows_with net r s (Some other) shows =
    list_any (λ d. d.number == other && (is_exposed net r s d && shows d)) net.branches

-- the walks show the hazard of this kind
abbrev pub shows_by : Network → Reading → Branch → ShownHazard → HazardKind → Bool
shows_by net r s shown Earths = shows_earths net r s shown
shows_by net r s shown Bridges =
    shows_bridge net r s s.one s.other shown || shows_bridge net r s s.other s.one shown
shows_by net r s shown Breaks =
    shows_break net r s s.one s.other shown || shows_break net r s s.other s.one shown
shows_by net r s shown Makes =
    shows_with net r s shown.other (λ d. shows_make net r s d shown.walk)
shows_by net r s shown Leaves =
    shows_with net r s shown.other (λ d. shows_leave net r s d shown)
shows_by net r s shown Joins = shows_join net r s shown
shows_by net r s shown Uncouples = shows_bypass net r s shown
shows_by net r s shown Unearths = shows_source net r s shown

-- the switch is in a hazard of this kind
abbrev pub is_of_kind : Network → Reading → Branch → HazardKind → Bool
is_of_kind net r s Earths = earths net r s
is_of_kind net r s Bridges = bridges net r s
is_of_kind net r s Breaks = breaks net r s
is_of_kind net r s Makes = makes_any net r s
is_of_kind net r s Leaves = leaves_any net r s
is_of_kind net r s Joins = joins_parts net r s
is_of_kind net r s Uncouples = uncouples net r s
is_of_kind net r s Unearths = unearths net r s

-- the operation of a switch of this kind can be a hazard of this kind
abbrev pub can_be : SwitchKind → Operation → HazardKind → Bool
can_be Earthing Close Earths = true
can_be Earthing Open Unearths = true
can_be Breaker Close Bridges = true
can_be Breaker Close Makes = true
can_be Breaker Close Joins = true
can_be Breaker Open Leaves = true
can_be Breaker Open Uncouples = true
can_be Disconnector Close Bridges = true
can_be Disconnector Close Breaks = true
can_be Disconnector Close Makes = true
can_be Disconnector Open Breaks = true
can_be Disconnector Open Leaves = true
can_be kind operation hazard = false

-- the operation of the switch of the bay at an index is the hazard that is shown, at the branch
-- that is shown, and the walks show it
abbrev pub is_shown : Network → Reading → ℕ → Operation → ShownHazard → Bool
is_shown net r k operation shown =
    list_any (λ s. is_own k s.device && (s.number == shown.switch
    && (can_be s.kind operation shown.kind
    && (is_of_kind net r s shown.kind && shows_by net r s shown shown.kind)))) net.branches

-- ---- what is found

-- What is found is right; nothing is found only if the search is in vain.
abbrev pub IsFound : {A : Type 0} → (A → Type 0) → Bool → Option A → Type 0
IsFound IsRight exists None = exists ≡ false
IsFound IsRight exists (Some x) = IsRight x

-- A walk of the route leads from the one node to the other, and back.
pub record IsJoined (net : Network) (r : Reading) (route : Route) (a b : ℕ) : Type 0 where
  pub there : leads net r route a b ≡ true
  pub back : leads net r route b a ≡ true

-- The node n is a target of the route, and a walk of the route leads from the node a to it.
pub record IsTargetOf (net : Network) (r : Reading) (s : Branch) (route : Route) (a : ℕ)
    (target : Target) (n : ℕ) : Type 0 where
  pub fits : is_target_at net r s target n ≡ true
  pub joined : IsJoined net r route a n

-- A walk of the route leads from the node a to the node of the end, where it may end.
pub record IsEndOf (net : Network) (r : Reading) (s : Branch) (route : Route) (a : ℕ)
    (ends : Option ℕ → ℕ → Bool) (e : End) : Type 0 where
  pub fits : ends e.earth e.node ≡ true
  pub joined : IsJoined net r route a e.node

-- A walk without a gap leads from the node of the earthing switch to the node n of a source.
pub record IsUnearthable (net : Network) (r : Reading) (s : Branch) (n : ℕ) : Type 0 where
  pub source : is_unearthable net r s n ≡ true
  pub joined : IsJoined net r (without Gapless s avoid.Nothing) s.one n

-- The walk leads from the node `start` on the one route to the side a of the switch s, over it to
-- its side b, and on the other route to the node `end`.
pub record IsWalkThrough (net : Network) (r : Reading) (of_a of_b : Route) (start : ℕ) (s : Branch)
    (a b end : ℕ) (walk : ShownWalk) : Type 0 where
  pub starts : walk.start ≡ start
  pub through : (ends : ℕ → Bool) → ends end ≡ true
      → is_through net (may_lead_over net r of_a) s a b
      (is_walk net (may_lead_over net r of_b) ends b) walk.start walk.steps ≡ true

-- The walks show the hazard of this kind of the branch.
pub record IsShownBy (net : Network) (r : Reading) (s : Branch) (wanted : HazardKind)
    (shown : ShownHazard) : Type 0 where
  pub switch : shown.switch ≡ s.number
  pub kind : shown.kind ≡ wanted
  pub shows : shows_by net r s shown wanted ≡ true

-- A walk shows the hazard of this kind of the branch from its side a.
pub record IsPassShown (is_right : ℕ → ℕ → ShownHazard → Bool) (s : Branch)
    (wanted : HazardKind) (a b : ℕ) (shown : ShownHazard) : Type 0 where
  pub switch : shown.switch ≡ s.number
  pub kind : shown.kind ≡ wanted
  pub shows : is_right a b shown ≡ true

-- An operation of the branch is the hazard that is shown, and the walks show it.
pub record IsShownAt (net : Network) (r : Reading) (s : Branch) (operation : Operation)
    (shown : ShownHazard) : Type 0 where
  pub fits : can_be s.kind operation shown.kind ≡ true
  pub hazard : is_of_kind net r s shown.kind ≡ true
  pub by : IsShownBy net r s shown.kind shown

-- a hazard without another disconnector
abbrev pub shown_by : HazardKind → ℕ → Option ℕ → ShownWalk → ShownHazard
shown_by kind s earth walk = record {
  kind = kind;
  switch = s;
  other = None;
  earth = earth;
  walk = walk;
  beside = None;
}

-- the nodes of two switches in a path
abbrev pub ends_of : ℕ → ℕ → ℕ → ℕ → Ends
ends_of a b x y = record { a = a; b = b; x = x; y = y }

-- the kinds of hazards
abbrev pub kinds : List HazardKind
kinds =
    Earths ∷ Bridges ∷ Breaks ∷ Makes ∷ Leaves ∷ Joins ∷ Uncouples ∷ Unearths ∷ []

-- what is shown of an operation: nothing, if it is no hazard
abbrev pub IsShownOf : Network → Reading → ℕ → Operation → Option ShownHazard → Type 0
IsShownOf net r k operation =
    IsFound (λ shown. is_shown net r k operation shown ≡ true) (is_hazard net r k operation)
