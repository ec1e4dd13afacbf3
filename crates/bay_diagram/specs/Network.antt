-- The nodes and branches of a single line diagram.
use Rattle.std.specs.Prelude.{ℕ, Bool, true, false, ◌&&◌, ◌==◌}
use Rattle.std.specs.List.{list_any}
use Rattle.bay_base.specs.declared.switch.SwitchKind.{SwitchKind}
use Rattle.bay_base.specs.declared.switch.SwitchKind.TheVariants.{Breaker, Disconnector, Earthing}
use Rattle.bay_diagram.specs.declared.network.Device.{Device}
use Rattle.bay_diagram.specs.declared.network.Device.TheVariants.{Own, Other}
use Rattle.bay_diagram.specs.declared.network.Network.{Network}
use Rattle.bay_diagram.specs.declared.network.NodeKind.{NodeKind}
use Rattle.bay_diagram.specs.declared.network.NodeKind.TheVariants.{Busbar, Line, Cable, Transformer, Junction}

-- ---- kinds

-- a current can enter or leave at nodes of the kind
abbrev pub is_terminal_kind : NodeKind → Bool
is_terminal_kind Busbar = true
is_terminal_kind Line = true
is_terminal_kind Cable = true
is_terminal_kind Transformer = true
is_terminal_kind Junction = false

-- nodes of the kind are transformers
abbrev pub is_transformer_kind : NodeKind → Bool
is_transformer_kind Busbar = false
is_transformer_kind Line = false
is_transformer_kind Cable = false
is_transformer_kind Transformer = true
is_transformer_kind Junction = false

-- a switch of the kind is an earthing switch
abbrev pub is_earthing : SwitchKind → Bool
is_earthing Breaker = false
is_earthing Disconnector = false
is_earthing Earthing = true

-- a switch of the kind is a disconnector
abbrev pub is_disconnector : SwitchKind → Bool
is_disconnector Breaker = false
is_disconnector Disconnector = true
is_disconnector Earthing = false

-- the switch of the bay at this index
abbrev pub is_own : ℕ → Device → Bool
is_own k (Own switch) = switch == k
is_own k (Other closed opened) = false

-- ---- the node with a number

-- the node with this number is a terminal
abbrev pub is_terminal : Network → ℕ → Bool
is_terminal net n = list_any (λ x. x.number == n && is_terminal_kind x.kind) net.nodes

-- the node with this number is a transformer
abbrev pub is_transformer : Network → ℕ → Bool
is_transformer net n = list_any (λ x. x.number == n && is_transformer_kind x.kind) net.nodes

-- the node with this number is a source
abbrev pub is_source : Network → ℕ → Bool
is_source net n = list_any (λ x. x.number == n && x.is_source) net.nodes
