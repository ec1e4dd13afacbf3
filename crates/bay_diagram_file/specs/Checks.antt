-- What the tables of a diagram file must be together, for a bay. Each check has the first table
-- that fails it.
use Rattle.std.specs.Prelude.{ℕ, Bool, true, false, not, ◌&&◌, ◌||◌, nat_lt, List, [], length, filter, find, position, Option, None, Some, is_none, is_some, unwrap_or, if◌then◌else◌}
use Rattle.std.specs.Bool.{beq}
use Rattle.std.specs.List.{list_any}
use Rattle.bay_base.specs.Names.{same_name}
use Rattle.bay_base.specs.declared.switch.SwitchKind.{SwitchKind}
use Rattle.bay_base.specs.declared.switch.SwitchKind.TheVariants.{Breaker, Disconnector, Earthing}
use Rattle.bay_config.specs.declared.bay.Bay.{Bay}
use Rattle.bay_diagram.specs.Network.{is_earthing}
use Rattle.bay_diagram.specs.declared.network.NodeKind.TheVariants.{Busbar, Line, Cable, Transformer, Junction}
use Rattle.bay_nodes.specs.declared.switch.Switch.{Switch}
use Rattle.bay_diagram_file.specs.declared.fault.DiagramFault.{DiagramFault}
use Rattle.bay_diagram_file.specs.declared.fault.FaultKind.{FaultKind}
use Rattle.bay_diagram_file.specs.declared.fault.FaultKind.TheVariants.{UnknownKey, MissingKey, BadValue, DuplicateName, UnknownName, BadSource, BadKeys, BadNodes, Incomplete}
use Rattle.bay_diagram_file.specs.declared.fault.Place.{Place}
use Rattle.bay_diagram_file.specs.declared.fault.Place.TheVariants as places
use Rattle.bay_diagram_file.specs.declared.row.NodeRow.{NodeRow}
use Rattle.bay_diagram_file.specs.declared.row.NodeWord.{NodeWord}
use Rattle.bay_diagram_file.specs.declared.row.NodeWord.TheVariants.{Earth, Kind}
use Rattle.bay_diagram_file.specs.declared.row.RowFault.{RowFault}
use Rattle.bay_diagram_file.specs.declared.row.RowFault.TheVariants as row_fault
use Rattle.bay_diagram_file.specs.declared.row.SwitchRow.{SwitchRow}

-- ---- names

-- the index of the node with a name
abbrev pub node_named : List NodeRow → List ℕ → Option ℕ
node_named nodes name = position (λ n. same_name name n.name) nodes

-- the index of the switch of the bay with an id
abbrev pub switch_named : List Switch → List ℕ → Option ℕ
switch_named switches name = position (λ s. same_name name s.id) switches

-- the index of the input with a name
abbrev pub input_named : List (List ℕ) → List ℕ → Option ℕ
input_named inputs name = position (λ i. same_name name i) inputs

-- a name is given, and is of none of the inputs
abbrev pub is_no_input : List (List ℕ) → Option (List ℕ) → Bool
is_no_input inputs None = false
is_no_input inputs (Some name) = is_none (input_named inputs name)

-- an id is given, and is of none of the switches
abbrev pub is_no_switch : List Switch → Option (List ℕ) → Bool
is_no_switch switches None = false
is_no_switch switches (Some id) = is_none (switch_named switches id)

-- an id is given, and is of one of the switches
abbrev pub is_switch : List Switch → Option (List ℕ) → Bool
is_switch switches None = false
is_switch switches (Some id) = is_some (switch_named switches id)

-- the name of a switch, of the bay or of another one
abbrev pub name_of : SwitchRow → List ℕ
name_of s = unwrap_or s.switch (unwrap_or s.name [])

-- ---- a node

-- whether a node is an earth or a junction
abbrev pub is_bare : NodeWord → Bool
is_bare Earth = true
is_bare (Kind Busbar) = false
is_bare (Kind Line) = false
is_bare (Kind Cable) = false
is_bare (Kind Transformer) = false
is_bare (Kind Junction) = true

-- whether a node is an earth
abbrev pub is_earth : NodeWord → Bool
is_earth Earth = true
is_earth (Kind k) = false

-- whether a node is a junction
abbrev pub is_junction : NodeWord → Bool
is_junction word = is_bare word && not (is_earth word)

-- the number of nodes with a name
abbrev pub nodes_named : List NodeRow → List ℕ → ℕ
nodes_named nodes name = length (filter (λ m. same_name name m.name) nodes)

-- another node has the name of this one, too
abbrev pub is_duplicate_node : List NodeRow → NodeRow → Bool
is_duplicate_node nodes n = nat_lt 1 (nodes_named nodes n.name)

-- an earth or a junction is a source, or a node that is none has a key of sources
abbrev pub is_bad_source : NodeRow → Bool
is_bad_source n = if n.is_source then is_bare n.kind else n.has_system || is_some n.dead

-- the switch leads to the node
abbrev pub leads_to : NodeRow → SwitchRow → Bool
leads_to n s = same_name n.name s.one || same_name n.name s.other

-- the number of switches that lead to the node
abbrev pub switches_at : List SwitchRow → NodeRow → ℕ
switches_at switches n = length (filter (leads_to n) switches)

-- a junction needs two switches, any other node one
abbrev pub switches_needed : NodeWord → ℕ
switches_needed word = if is_junction word then 2 else 1

-- too few switches lead to the node
abbrev pub is_loose : List SwitchRow → NodeRow → Bool
is_loose switches n = nat_lt (switches_at switches n) (switches_needed n.kind)

-- ---- a switch

-- the number of switches with a name
abbrev pub switches_named : List SwitchRow → List ℕ → ℕ
switches_named switches name = length (filter (λ m. same_name name (name_of m)) switches)

-- another switch has the name of this one, too
abbrev pub is_duplicate_switch : List SwitchRow → SwitchRow → Bool
is_duplicate_switch switches s = nat_lt 1 (switches_named switches (name_of s))

-- a name of no node, no input or no switch of the bay
abbrev pub has_unknown_name : Bay → List NodeRow → SwitchRow → Bool
has_unknown_name bay nodes s =
    is_none (node_named nodes s.one)
    || (is_none (node_named nodes s.other)
    || (is_no_switch bay.switches s.switch
    || (is_no_input bay.inputs s.closed || (is_no_input bay.inputs s.opened
    || is_no_input bay.inputs s.synchro))))

-- the kind of a switch of the bay; a breaker if there is none
abbrev pub kind_found : Option Switch → SwitchKind
kind_found None = Breaker
kind_found (Some s) = s.kind

-- the kind of a switch by the id of a switch of the bay, or else by its key
abbrev pub kind_by : List Switch → Option (List ℕ) → Option SwitchKind → SwitchKind
kind_by switches None kind = unwrap_or kind Breaker
kind_by switches (Some id) kind = kind_found (find (λ s. same_name id s.id) switches)

-- the kind of the switch of a table
abbrev pub kind_of : List Switch → SwitchRow → SwitchKind
kind_of switches s = kind_by switches s.switch s.kind

-- the node with the name is an earth
abbrev pub is_earth_named : List NodeRow → List ℕ → Bool
is_earth_named nodes name = list_any (λ n. same_name name n.name && is_earth n.kind) nodes

-- a switch of the kind is a breaker
abbrev pub is_breaker : SwitchKind → Bool
is_breaker Breaker = true
is_breaker Disconnector = false
is_breaker Earthing = false

-- a switch has a key that only a breaker of the bay may have, and is none
abbrev pub has_breaker_keys : List Switch → SwitchRow → Bool
has_breaker_keys switches s =
    (is_some s.synchro || s.is_coupler)
    && not (is_some s.switch && is_breaker (kind_of switches s))

-- a switch of the bay has keys of another bay's switch, or the latter has no kind, or the id of a
-- switch of the bay; or it is neither, or both; or it has keys of a breaker of the bay, and is none
abbrev pub has_bad_keys : List Switch → SwitchRow → Bool
has_bad_keys switches s =
    beq (is_some s.switch) (is_some s.name)
    || (is_some s.switch && (is_some s.kind || (is_some s.closed || is_some s.opened))
    || (is_some s.name && is_none s.kind
    || (is_switch switches s.name || has_breaker_keys switches s)))

-- an earthing switch has not just one earth, or isolates; or any other switch has an earth
abbrev pub fits_badly : SwitchKind → Bool → Bool → Bool → Bool
fits_badly kind one other isolates =
    if is_earthing kind then beq one other || isolates else one || other

-- both nodes of a switch are the same, or the switch does not fit them
abbrev pub has_bad_nodes : List Switch → List NodeRow → SwitchRow → Bool
has_bad_nodes switches nodes s =
    same_name s.one s.other
    || fits_badly (kind_of switches s) (is_earth_named nodes s.one) (is_earth_named nodes s.other)
    s.isolates

-- the id is given, and is that of the switch of the bay
abbrev pub has_id : Option (List ℕ) → Switch → Bool
has_id None s = false
has_id (Some id) s = same_name id s.id

-- a table is the switch of the bay
abbrev pub is_present : List SwitchRow → Switch → Bool
is_present rows s = list_any (λ row. has_id row.switch s) rows

-- no table is the switch of the bay
abbrev pub is_absent : List SwitchRow → Switch → Bool
is_absent rows s = not (is_present rows s)

-- ---- the first refusal

-- the refusal of the table at an index; None if no table fails the check
abbrev pub refusal : FaultKind → (ℕ → Place) → Option ℕ → Option DiagramFault
refusal kind place None = None
refusal kind place (Some i) = Some (record { kind = kind; place = place i })

-- the first of two refusals
abbrev pub first_refusal : Option DiagramFault → Option DiagramFault → Option DiagramFault
first_refusal None other = other
first_refusal (Some fault) other = Some fault

-- the fault of a table by itself is this one
abbrev pub is_fault : RowFault → Option RowFault → Bool
is_fault row_fault.UnknownKey (Some row_fault.UnknownKey) = true
is_fault row_fault.MissingKey (Some row_fault.MissingKey) = true
is_fault row_fault.BadValue (Some row_fault.BadValue) = true
is_fault which found = false

-- the refusal of the first table that has this fault by itself
abbrev pub row_refusal : FaultKind → RowFault → List NodeRow → List SwitchRow → Option DiagramFault
row_refusal kind which nodes switches =
    first_refusal (refusal kind places.Node (position (λ n. is_fault which n.fault) nodes))
    (refusal kind places.Between (position (λ s. is_fault which s.fault) switches))

-- the refusal of the first name that two tables have, or that is unknown
abbrev pub name_refusal : Bay → List NodeRow → List SwitchRow → Option DiagramFault
name_refusal bay nodes switches =
    first_refusal (refusal DuplicateName places.Node (position (is_duplicate_node nodes) nodes))
    (first_refusal (refusal DuplicateName places.Between
    (position (is_duplicate_switch switches) switches))
    (first_refusal (refusal UnknownName places.Node
    (position (λ n. is_no_input bay.inputs n.dead) nodes))
    (refusal UnknownName places.Between (position (has_unknown_name bay nodes) switches))))

-- the refusal of the first bad source, or else of the first switch with bad keys, or with bad nodes
abbrev pub shape_refusal : Bay → List NodeRow → List SwitchRow → Option DiagramFault
shape_refusal bay nodes switches =
    first_refusal (refusal BadSource places.Node (position is_bad_source nodes))
    (first_refusal (refusal BadKeys places.Between (position (has_bad_keys bay.switches) switches))
    (refusal BadNodes places.Between (position (has_bad_nodes bay.switches nodes) switches)))

-- some node is a source
abbrev pub has_source : List NodeRow → Bool
has_source nodes = list_any (λ n. n.is_source) nodes

-- the refusal of a diagram without a source
abbrev pub source_refusal : List NodeRow → Option DiagramFault
source_refusal nodes =
    if has_source nodes then None
    else Some (record { kind = Incomplete; place = places.File })

-- the refusal of the first switch of the bay without a table, of the first node with too few
-- switches, or of a diagram without a source
abbrev pub whole_refusal : Bay → List NodeRow → List SwitchRow → Option DiagramFault
whole_refusal bay nodes switches =
    first_refusal (refusal Incomplete places.Switch (position (is_absent switches) bay.switches))
    (first_refusal (refusal Incomplete places.Node (position (is_loose switches) nodes))
    (source_refusal nodes))

-- the first refusal of the tables of a diagram: what is wrong with a table by itself, names, what a
-- source and a switch may be, and what is missing
abbrev pub tables_refusal : Bay → List NodeRow → List SwitchRow → Option DiagramFault
tables_refusal bay nodes switches =
    first_refusal (row_refusal UnknownKey row_fault.UnknownKey nodes switches)
    (first_refusal (row_refusal MissingKey row_fault.MissingKey nodes switches)
    (first_refusal (row_refusal BadValue row_fault.BadValue nodes switches)
    (first_refusal (name_refusal bay nodes switches)
    (first_refusal (shape_refusal bay nodes switches) (whole_refusal bay nodes switches)))))
