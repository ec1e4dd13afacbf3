-- The walks that hazards are stated by.
use Rattle.std.specs.Prelude.{ℕ, ◌≡◌, ◌<◌, Bool, true, false, not, ◌&&◌, ◌||◌, ◌==◌, List, filter, take, slice_index, slice_index_or}
use Rattle.bay_diagram.specs.declared.network.Branch.{Branch}
use Rattle.bay_diagram.specs.declared.network.Network.{Network}
use Rattle.bay_diagram.specs.declared.walk.Avoid.{Avoid}
use Rattle.bay_diagram.specs.declared.walk.Avoid.TheVariants as avoid
use Rattle.bay_diagram.specs.declared.walk.Over.{Over}
use Rattle.bay_diagram.specs.declared.walk.Over.TheVariants.{Possible, Closed, Gapless, Inseparable, Disconnectors}
use Rattle.bay_diagram.specs.declared.walk.Route.{Route}
use Rattle.bay_diagram.specs.Joined.{joined, label_after, label_of, relabel}
use Rattle.bay_diagram.specs.Network.{is_disconnector, is_earthing, is_source, is_terminal, is_transformer}
use Rattle.bay_diagram.specs.Reading.{Reading}

-- a walk may lead over the branch: it may be closed, is surely closed, is no isolating gap, never
-- is one, or is a disconnector that may be closed
abbrev pub may_cross : Reading → Over → Branch → Bool
may_cross r Possible b = r.may_conduct b.device
may_cross r Closed b = r.conducts b.device
may_cross r Gapless b = not b.isolates || r.may_conduct b.device
may_cross r Inseparable b = not b.isolates
may_cross r Disconnectors b = is_disconnector b.kind && r.may_conduct b.device

-- the walk must avoid the node
abbrev pub avoids : Network → Avoid → ℕ → Bool
avoids net avoid.Nothing n = false
avoids net (avoid.Node a) n = n == a
avoids net (avoid.NodesAndEnd a b end) n =
    n == a || (n == b || n == end && not (is_transformer net n))
avoids net (avoid.TransformersBut a b) n = is_transformer net n && not (n == a || n == b)
avoids net (avoid.TransformersAndNodes a b c d) n =
    is_transformer net n && not (n == a || n == b) || (n == c || n == d)
avoids net (avoid.TerminalsAndNodes a b) n = is_terminal net n || (n == a || n == b)
avoids net (avoid.SourcesAndNodes a b) n = is_source net n || (n == a || n == b)

-- the branch is no earthing switch, is not left out, and leads to no node to avoid
abbrev pub is_free : Network → Route → Branch → Bool
is_free net route b =
    not (is_earthing b.kind)
    && (not (b.number == route.without || b.number == route.also_without)
    && not (avoids net route.avoid b.one || avoids net route.avoid b.other))

-- a walk of the route may lead over the branch
abbrev pub may_lead_over : Network → Reading → Route → Branch → Bool
may_lead_over net r route b = may_cross r route.over b && is_free net route b

-- a walk of the route leads from a node to another
abbrev pub leads : Network → Reading → Route → ℕ → ℕ → Bool
leads net r route a b = joined (filter (may_lead_over net r route) net.branches) a b

-- ---- labels of nodes in a list of 256

-- the label of a node; past the end of the list each node has its own number
abbrev pub label_in : List ℕ → ℕ → ℕ
label_in labels n = slice_index_or labels n n

-- The second list has the labels of the first, but one label in the place of another.
abbrev pub IsRelabelled : ℕ → ℕ → List ℕ → List ℕ → Type 0
IsRelabelled from to before after = (d n : ℕ) → n < 256
    → slice_index_or after n d ≡ relabel from to (slice_index before n)

-- the label of a node after a branch, if the walk takes it
abbrev pub label_next : Bool → (ℕ → ℕ) → Branch → ℕ → ℕ
label_next true label b n = label_after label b n
label_next false label b n = label n

-- two nodes have one label
abbrev pub joined_in : List ℕ → ℕ → ℕ → Bool
joined_in labels a b = label_in labels a == label_in labels b

-- the label of a node after the first branches of the network that a walk of the route may lead
-- over
abbrev pub label_within : Network → Reading → Route → ℕ → ℕ → ℕ
label_within net r route count =
    label_of (filter (may_lead_over net r route) (take count net.branches))
