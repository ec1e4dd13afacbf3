-- The nodes and branches that the tables of a diagram describe.
use Rattle.std.specs.Prelude.{ℕ, suc, ◌||◌, nat_lt, List, [], ◌∷◌, ◌++◌, Option, None, Some, option_and_then, option_to_list, unwrap_or, if◌then◌else◌}
use Rattle.bay_config.specs.declared.bay.Bay.{Bay}
use Rattle.bay_diagram.specs.Network.{is_disconnector}
use Rattle.bay_diagram.specs.declared.network.Branch.{Branch}
use Rattle.bay_diagram.specs.declared.network.Checks.{Checks}
use Rattle.bay_diagram.specs.declared.network.Device.{Device}
use Rattle.bay_diagram.specs.declared.network.Device.TheVariants.{Own, Other}
use Rattle.bay_diagram.specs.declared.network.Network.{Network}
use Rattle.bay_diagram.specs.declared.network.Node.{Node}
use Rattle.bay_diagram_file.specs.Checks.{input_named, is_earth_named, kind_of, node_named, switch_named}
use Rattle.bay_diagram_file.specs.declared.row.NodeRow.{NodeRow}
use Rattle.bay_diagram_file.specs.declared.row.NodeWord.{NodeWord}
use Rattle.bay_diagram_file.specs.declared.row.NodeWord.TheVariants.{Earth, Kind}
use Rattle.bay_diagram_file.specs.declared.row.SwitchRow.{SwitchRow}

-- the number of a node is the index of its table; a file has at most 64
abbrev pub number_of : ℕ → ℕ
number_of i = if nat_lt i 256 then i else 0

-- the number of the node with a name; 0 if there is none
abbrev pub number_named : List NodeRow → List ℕ → ℕ
number_named nodes name = number_of (unwrap_or (node_named nodes name) 0)

-- ---- nodes

-- the node of a table with this kind; an earth is none
abbrev pub node_with : List (List ℕ) → ℕ → NodeRow → NodeWord → Option Node
node_with inputs i n Earth = None
node_with inputs i n (Kind kind) = Some (record {
  number = number_of i;
  kind = kind;
  is_source = n.is_source;
  dead = option_and_then (input_named inputs) n.dead;
})

-- the node of a table; an earth is none
abbrev pub node_of : List (List ℕ) → ℕ → NodeRow → Option Node
node_of inputs i n = node_with inputs i n n.kind

-- the nodes of the tables from an index on
abbrev pub nodes_from : List (List ℕ) → ℕ → List NodeRow → List Node
nodes_from inputs i [] = []
nodes_from inputs i (n ∷ nodes) =
    option_to_list (node_of inputs i n) ++ nodes_from inputs (suc i) nodes

-- ---- branches

-- how the position of the switch of a table is known
abbrev pub device_by : Bay → SwitchRow → Option (List ℕ) → Device
device_by bay s (Some id) = Own (unwrap_or (switch_named bay.switches id) 0)
device_by bay s None =
    Other (option_and_then (input_named bay.inputs) s.closed)
    (option_and_then (input_named bay.inputs) s.opened)

-- the nodes of a switch; those of an earthing switch are both the node that it earths
abbrev pub ends_of : List NodeRow → SwitchRow → ℕ × ℕ
ends_of nodes s =
    let one = number_named nodes s.one in let other = number_named nodes s.other in
    if is_earth_named nodes s.one then (other, other)
    else if is_earth_named nodes s.other then (one, one) else (one, other)

-- the branch of the table at an index
abbrev pub branch_of : Bay → List NodeRow → ℕ → SwitchRow → Branch
branch_of bay nodes i s =
    let kind = kind_of bay.switches s in
    record {
      number = i;
      one = (ends_of nodes s).0;
      other = (ends_of nodes s).1;
      kind = kind;
      isolates = s.isolates || is_disconnector kind;
      synchro = option_and_then (input_named bay.inputs) s.synchro;
      is_coupler = s.is_coupler;
      device = device_by bay s s.switch;
    }

-- the branches of the tables from an index on
abbrev pub branches_from : Bay → List NodeRow → ℕ → List SwitchRow → List Branch
branches_from bay nodes i [] = []
branches_from bay nodes i (s ∷ switches) =
    branch_of bay nodes i s ∷ branches_from bay nodes (suc i) switches

-- the diagram of the tables
abbrev pub network_of_tables : Bay → Checks → List NodeRow → List SwitchRow → Network
network_of_tables bay checks nodes switches = record {
  nodes = nodes_from bay.inputs 0 nodes;
  branches = branches_from bay nodes 0 switches;
  checks = checks;
}
