-- What an operation of a switch would do, by what is known. Each hazard is a truth value over
-- walks. An unknown switch is the worse of open and closed wherever it counts: it may be closed,
-- and it is not surely closed. An input that may be FALSE does not count as TRUE.
use Rattle.std.specs.Prelude.{ℕ, Bool, false, not, ◌&&◌, ◌||◌, ◌==◌, is_some}
use Rattle.std.specs.List.{list_any}
use Rattle.bay_base.specs.declared.switch.Operation.{Operation}
use Rattle.bay_base.specs.declared.switch.Operation.TheVariants.{Open, Close}
use Rattle.bay_base.specs.declared.switch.SwitchKind.{SwitchKind}
use Rattle.bay_base.specs.declared.switch.SwitchKind.TheVariants.{Breaker, Disconnector, Earthing}
use Rattle.bay_diagram.specs.declared.hazard.Target.{Target}
use Rattle.bay_diagram.specs.declared.hazard.Target.TheVariants.{Live, Terminal, Load, Energised, Separable}
use Rattle.bay_diagram.specs.declared.network.Branch.{Branch}
use Rattle.bay_diagram.specs.declared.network.Network.{Network}
use Rattle.bay_diagram.specs.declared.network.Node.{Node}
use Rattle.bay_diagram.specs.declared.walk.Avoid.{Avoid}
use Rattle.bay_diagram.specs.declared.walk.Avoid.TheVariants as avoid
use Rattle.bay_diagram.specs.declared.walk.Over.TheVariants.{Possible, Closed, Gapless, Inseparable, Disconnectors}
use Rattle.bay_diagram.specs.declared.walk.Over.{Over}
use Rattle.bay_diagram.specs.declared.walk.Route.{Route}
use Rattle.bay_diagram.specs.Network.{is_disconnector, is_earthing, is_own, is_source, is_terminal, is_terminal_kind, is_transformer}
use Rattle.bay_diagram.specs.Reading.{Reading}
use Rattle.bay_diagram.specs.Walks.{leads}

-- ---- where walks lead

-- a route without a branch
abbrev pub without : Over → Branch → Avoid → Route
without over s nodes =
    record { over = over; without = s.number; also_without = s.number; avoid = nodes }

-- a route without two branches
abbrev pub without_both : Over → Branch → Branch → Avoid → Route
without_both over s d nodes =
    record { over = over; without = s.number; also_without = d.number; avoid = nodes }

-- an earthing switch other than s, which earths the node n
abbrev pub is_earth_at : Branch → ℕ → Branch → Bool
is_earth_at s n c = is_earthing c.kind && (not (c.number == s.number) && c.one == n)

-- an earthing switch other than s surely earths the node
abbrev pub is_earthed : Network → Reading → Branch → ℕ → Bool
is_earthed net r s n = list_any (λ c. is_earth_at s n c && r.conducts c.device) net.branches

-- a source is live unless an earthing switch at its own node is surely closed
abbrev pub is_live : Network → Reading → Branch → Node → Bool
is_live net r s x = x.is_source && not (is_earthed net r s x.number)

-- a live source that is not known to be dead
abbrev pub is_energised : Network → Reading → Branch → Node → Bool
is_energised net r s x = is_live net r s x && r.may_be_false x.dead

-- a live source; a terminal; a terminal that is no source; a live source that is not known to be
-- dead; such a source, too, if a gap could part it from the first node of s
abbrev pub is_target : Network → Reading → Branch → Target → Node → Bool
is_target net r s Live x = is_live net r s x
is_target net r s Terminal x = is_terminal_kind x.kind
is_target net r s Load x = is_terminal_kind x.kind && not x.is_source
is_target net r s Energised x = is_energised net r s x
is_target net r s Separable x =
    is_energised net r s x && not (leads net r (without Inseparable s avoid.Nothing) s.one x.number)

-- a node that a walk looks for is joined to the node a
abbrev pub reaches_by : Network → Reading → Branch → (ℕ → ℕ → Bool) → ℕ → Target → Bool
reaches_by net r s joins a target =
    list_any (λ x. is_target net r s target x && joins a x.number) net.nodes

-- a walk of the route leads from the node a to a node that it looks for
abbrev pub reaches : Network → Reading → Branch → Route → ℕ → Target → Bool
reaches net r s route a target = reaches_by net r s (leads net r route) a target

-- a node that an earthing switch other than s may earth is joined to the node a
abbrev pub reaches_earth_by : Network → Reading → Branch → (ℕ → ℕ → Bool) → ℕ → Bool
reaches_earth_by net r s joins a =
    list_any (λ c. is_earthing c.kind
    && (not (c.number == s.number) && (r.may_conduct c.device && joins a c.one))) net.branches

-- a walk of the route leads from the node a to a node that an earthing switch other than s may
-- earth
abbrev pub reaches_earth : Network → Reading → Branch → Route → ℕ → Bool
reaches_earth net r s route a = reaches_earth_by net r s (leads net r route) a

-- a path beside e, without s: it is surely closed, and leads through no transformer but the nodes
-- of e (a transformer joins unlike potentials)
abbrev pub has_beside : Network → Reading → Branch → Branch → Bool
has_beside net r s e =
    leads net r (without_both Closed s e (avoid.TransformersBut e.one e.other)) e.one e.other

-- ---- E, J, C: the switch itself

-- E: an earthing switch would close onto a node that is not isolated. EN 50110-1, 6.2: disconnect,
-- secure, verify that it is dead, earth. Isolating gaps are of disconnectors (IEC 62271-102), and
-- of disconnecting circuit breakers (IEC 62271-108). Where no gap can be, only the input shows that
-- the source is dead.
abbrev pub earths_by : Network → Reading → Branch → (ℕ → ℕ → Bool) → (ℕ → ℕ → Bool) → Bool
earths_by net r s gapless inseparable = list_any (λ x. x.is_source
    && (gapless s.one x.number && (r.may_be_false x.dead || not (inseparable s.one x.number))))
    net.nodes

-- the earthing switch would close onto a node that is not isolated
abbrev pub earths : Network → Reading → Branch → Bool
earths net r s =
    earths_by net r s (leads net r (without Gapless s avoid.Nothing))
    (leads net r (without Inseparable s avoid.Nothing))

-- J: nothing but open breakers would part a live source and an earth. EN 50110-1, 6.2: while people
-- rely on an earth, what they work on stays disconnected and secured against reconnection. If
-- nothing at all parts them, a breaker closes onto a short circuit.
abbrev pub bridges_from : Network → Reading → Branch → ℕ → ℕ → Bool
bridges_from net r s a b =
    reaches net r s (without Gapless s (avoid.Node b)) a Live
    && reaches_earth net r s (without Gapless s (avoid.Node a)) b

-- the switch would join a live source and an earth, which nothing but open breakers parts
abbrev pub bridges : Network → Reading → Branch → Bool
bridges net r s = bridges_from net r s s.one s.other || bridges_from net r s s.other s.one

-- C: a disconnector would make or break a current. It opens and closes a circuit where the current
-- is negligible, or where the voltage across it does not change (IEC 62271-102; IEV 441-14-05, its
-- note): a path lies beside it that is surely closed, as in a bus transfer. On the way to
-- an earth such a path serves, too: the fault is there already, and the move changes nothing.
abbrev pub breaks_from : Network → Reading → Branch → ℕ → ℕ → Bool
breaks_from net r s a b =
    reaches net r s (without Possible s (avoid.Node b)) a Live
    && (reaches net r s (without Possible s (avoid.Node a)) b Terminal
    || reaches_earth net r s (without Possible s (avoid.Node a)) b)

-- the disconnector would make or break a current
abbrev pub breaks : Network → Reading → Branch → Bool
breaks net r s =
    (breaks_from net r s s.one s.other || breaks_from net r s s.other s.one)
    && not (has_beside net r s s)

-- ---- A, B: another disconnector, which may be on its way (IEC 62271-102, as for C)

-- A: s would close the path  p .. b - s - a .. x - d - y .. q  of a current through d. Either the
-- path passes no terminal between a and x, and one of p, q is live and the other a terminal; or it
-- passes no source there, p is live, and q is a terminal that is no source: s energises it.
abbrev pub reaches_both : Network → Reading → Branch → Branch → ℕ → ℕ → ℕ → ℕ → Target → Target
    → Bool
reaches_both net r s d a b x y p q =
    reaches net r s (without_both Possible s d (avoid.NodesAndEnd a x y)) b p
    && reaches net r s (without_both Possible s d (avoid.NodesAndEnd a x b)) y q

-- s would close a path of a current through d, which passes no terminal between a and x
abbrev pub makes_near : Network → Reading → Branch → Branch → ℕ → ℕ → ℕ → ℕ → Bool
makes_near net r s d a b x y =
    not (is_terminal net a || is_terminal net x)
    && (leads net r (without_both Possible s d (avoid.TerminalsAndNodes b y)) a x
    && (reaches_both net r s d a b x y Live Terminal
    || reaches_both net r s d a b x y Terminal Live))

-- s would energise a terminal that is no source by a path through d, which passes no source between
-- a and x
abbrev pub energises : Network → Reading → Branch → Branch → ℕ → ℕ → ℕ → ℕ → Bool
energises net r s d a b x y =
    not (is_source net a || is_source net x)
    && (leads net r (without_both Possible s d (avoid.SourcesAndNodes b y)) a x
    && reaches_both net r s d a b x y Live Load)

-- s would close a path of a current through d, with the sides a and x facing each other
abbrev pub makes_from : Network → Reading → Branch → Branch → ℕ → ℕ → ℕ → ℕ → Bool
makes_from net r s d a b x y =
    not (a == y || (b == x || b == y))
    && (makes_near net r s d a b x y || energises net r s d a b x y)

-- s would close a path of a current through d, whichever sides of the two face each other
abbrev pub makes_current : Network → Reading → Branch → Branch → Bool
makes_current net r s d =
    makes_from net r s d s.one s.other d.one d.other
    || (makes_from net r s d s.one s.other d.other d.one
    || (makes_from net r s d s.other s.one d.one d.other
    || makes_from net r s d s.other s.one d.other d.one))

-- B: s lies on a path beside d, and without it a current through d could begin or end there.
abbrev pub lies_beside : Network → Reading → Branch → Branch → ℕ → ℕ → Bool
lies_beside net r s d a b =
    (a == d.one || not (is_transformer net a)) && ((b == d.other || not (is_transformer net b))
    && (not (a == d.other || b == d.one)
    && (leads net r (without_both Possible s d (avoid.TransformersAndNodes d.one a b d.other)) d.one
    a
    && leads net r (without_both Possible s d (avoid.TransformersAndNodes b d.other a d.one))
    b d.other)))

-- a current can flow through d from its side x, without s
abbrev pub feeds_from : Network → Reading → Branch → Branch → ℕ → ℕ → Bool
feeds_from net r s d x y =
    reaches net r s (without_both Possible s d (avoid.Node y)) x Live
    && reaches net r s (without_both Possible s d (avoid.Node x)) y Terminal

-- s lies on a path beside d, and without s a current can flow through d
abbrev pub leaves_current : Network → Reading → Branch → Branch → Bool
leaves_current net r s d =
    (lies_beside net r s d s.one s.other || lies_beside net r s d s.other s.one)
    && (feeds_from net r s d d.one d.other || feeds_from net r s d d.other d.one)

-- a disconnector other than s that may be on its way; no path that stays closed is beside it or
-- beside s
abbrev pub is_exposed : Network → Reading → Branch → Branch → Bool
is_exposed net r s d =
    is_disconnector d.kind && (not (d.number == s.number) && (r.may_move d.device
    && (not (has_beside net r s d) && not (has_beside net r d s))))

-- s would make a current through a disconnector that may be on its way
abbrev pub makes_any : Network → Reading → Branch → Bool
makes_any net r s = list_any (λ d. is_exposed net r s d && makes_current net r s d) net.branches

-- s would take away a path beside a disconnector that may be on its way
abbrev pub leaves_any : Network → Reading → Branch → Bool
leaves_any net r s = list_any (λ d. is_exposed net r s d && leaves_current net r s d) net.branches

-- ---- Y, T, L: hazards that count only if a key of the diagram selects them

-- walks lead from the one side of s to a live source, and from the other side to a live source;
-- neither source is known to be dead
abbrev pub joins_live : Network → Reading → Branch → Bool
joins_live net r s =
    reaches net r s (without Possible s (avoid.Node s.other)) s.one Energised
    && reaches net r s (without Possible s (avoid.Node s.one)) s.other Energised

-- Y: a breaker would join two live parts that are not surely joined, which may be out of phase, and
-- no input of a synchrocheck is known to be TRUE. Two systems out of phase are all but a short
-- circuit: IEC 62271-100 rates a breaker for this only by agreement. That the two parts agree in
-- phase only the synchronism-check shows (RSYN, IEC 61850-7-4). Surely closed paths beside the
-- breaker join them already.
abbrev pub joins_parts : Network → Reading → Branch → Bool
joins_parts net r s =
    (net.checks.live_parts || is_some s.synchro)
    && (r.may_be_false s.synchro && (joins_live net r s && not (has_beside net r s s)))

-- T: a coupler would leave its two sides to disconnectors alone, which may be closed. No breaker
-- then parts the busbars if one of them fails, and no path lies beside the disconnectors for the
-- bus transfer by which they could open again (IEC 62271-102, bus-transfer current).
abbrev pub uncouples : Network → Reading → Branch → Bool
uncouples net r s =
    s.is_coupler && leads net r (without Disconnectors s avoid.Nothing) s.one s.other

-- L: an earthing switch would open while a live source may feed it, which is not known to be dead.
-- It has no breaking capacity for a short circuit (IEC 62271-102), and what is earthed stays
-- earthed until it is isolated again (EN 50110-1, 6.2). A source that no gap could part from the
-- node does not count: no switch of the diagram could make the opening harmless.
abbrev pub unearths : Network → Reading → Branch → Bool
unearths net r s =
    net.checks.fed_earths && reaches net r s (without Possible s avoid.Nothing) s.one Separable

-- ---- an operation

-- an operation of a branch is a hazard, by the kind of the branch
abbrev pub endangers_by : Network → Reading → Branch → SwitchKind → Operation → Bool
endangers_by net r s Earthing Close = earths net r s
endangers_by net r s Earthing Open = unearths net r s
endangers_by net r s Breaker Close = bridges net r s || (makes_any net r s || joins_parts net r s)
endangers_by net r s Breaker Open = leaves_any net r s || uncouples net r s
endangers_by net r s Disconnector Close =
    bridges net r s || (breaks net r s || makes_any net r s)
endangers_by net r s Disconnector Open = breaks net r s || leaves_any net r s

-- an operation of a branch is a hazard
abbrev pub endangers : Network → Reading → Branch → Operation → Bool
endangers net r s operation = endangers_by net r s s.kind operation

-- an operation of the switch of the bay at an index is a hazard, at any of its branches
abbrev pub is_hazard : Network → Reading → ℕ → Operation → Bool
is_hazard net r k operation =
    list_any (λ s. is_own k s.device && endangers net r s operation) net.branches
