-- The rows of profile 2 that events of the process change beside positions and measured values: the
-- health of the device, whether a switch accepts local commands only, and the values of the inputs
-- (IEC 61850-7-4: LLN0 Health, LPHD PhyHealth, XCBR and XSWI Loc, GGIO Ind).
use Rattle.std.specs.Prelude.{ℕ, ℤ, ◌+◌, ◌==◌, ◌&&◌, Bool, true, false, not, pos, List, [], ◌∷◌, Option, None, Some, if◌then◌else◌}
use Rattle.std.specs.Ordering.{int_eq}
use Rattle.bay_tree.specs.Rows.{leaf_named}
use Rattle.bay_tree.specs.declared.row.Row.{Row}
use Rattle.bay_tree.specs.declared.leaf.Leaf.{Leaf}
use Rattle.bay_tree.specs.declared.leaf.Leaf.TheVariants as leaf
use Rattle.bay_tree.specs.declared.leaf.Quality.{Quality}
use Rattle.bay_tree.specs.declared.leaf.Quality.TheVariants.{Good, Invalid}
use Rattle.bay_nodes.specs.declared.profile.Profile.{Profile}
use Rattle.bay_nodes.specs.declared.profile.Profile.TheVariants.{One, Two}
use Rattle.bay_nodes.specs.declared.switch.Switch.{Switch}
use Rattle.bay_nodes.specs.Names.{StatusNames, health_names, physical_health_names, local_names, indication_names, switch_node}
use Rattle.bay_control.specs.Decisions.{key_input}
use Rattle.bay_process.specs.Values.{is_quality, is_truth, with_status}

-- ---- own: one value

-- the leaf is this number
abbrev pub is_int8 : ℤ → Option Leaf → Bool
is_int8 n (Some (leaf.Int8 m)) = int_eq n m
is_int8 n other = false

-- the rows with a truth value of this quality; the time is set if the value or the quality changes
abbrev pub with_truth : StatusNames → Bool → Quality → ℕ → List Row → List Row
with_truth names value quality now rows =
    if is_truth value (leaf_named names.value rows)
    && is_quality quality (leaf_named names.quality rows)
    then rows
    else with_status names (leaf.Truth value) quality now rows

-- the health while the process is lost, 3: alarm; and otherwise, 1: ok (IEC 61850-7-4, Health)
abbrev pub health_number : Bool → ℤ
health_number lost = if lost then pos 3 else pos 1

-- the rows with a health of good quality; the time is set if the health changes
abbrev pub with_health : StatusNames → Bool → ℕ → List Row → List Row
with_health names lost now rows =
    if is_int8 (health_number lost) (leaf_named names.value rows)
    then rows
    else with_status names (leaf.Int8 (health_number lost)) Good now rows

-- ---- IEC 61850-7-4 LLN0, LPHD: the health of the device

-- the rows after the device's health says whether the process is lost
abbrev pub rows_after_health : Profile → Bool → ℕ → List Row → List Row
rows_after_health One lost now rows = rows
rows_after_health Two lost now rows =
    with_health physical_health_names lost now (with_health health_names lost now rows)

-- ---- IEC 61850-7-4 XCBR, XSWI: whether a switch accepts local commands only

-- the key of a switch is the input; or if no input is named, the switch has a key
abbrev pub is_keyed_by : Option ℕ → Option ℕ → Bool
is_keyed_by input None = false
is_keyed_by None (Some key) = true
is_keyed_by (Some input) (Some key) = key == input

-- the rows with this Loc of each switch whose key is the input, or of each switch with a key if no
-- input is named; the first of these switches has index k
abbrev pub with_locals : Option ℕ → Bool → Quality → ℕ → List (List ℕ) → List Switch → ℕ
    → List Switch → List Row → List Row
with_locals input value quality now inputs switches k [] rows = rows
with_locals input value quality now inputs switches k (s ∷ ss) rows =
    with_locals input value quality now inputs switches (k + 1) ss
    (if is_keyed_by input (key_input inputs s)
    then with_truth (local_names (switch_node switches k s)) value quality now rows
    else rows)

-- ---- IEC 61850-7-4 GGIO: the inputs

-- the rows after the report of an input: its value, and Loc of each switch whose key it is, which
-- is local if the input is FALSE
abbrev pub rows_after_input : Profile → List (List ℕ) → List Switch → ℕ → Bool → ℕ → List Row
    → List Row
rows_after_input One inputs switches input value now rows = rows
rows_after_input Two inputs switches input value now rows =
    with_locals (Some input) (not value) Good now inputs switches 0 switches
    (with_truth (indication_names (input + 1)) value Good now rows)

-- the rows with FALSE as the value of each of these inputs, and invalid; the first has index k
abbrev pub inputs_invalid : ℕ → ℕ → List (List ℕ) → List Row → List Row
inputs_invalid now k [] rows = rows
inputs_invalid now k (input ∷ inputs) rows =
    inputs_invalid now (k + 1) inputs
    (with_truth (indication_names (k + 1)) false Invalid now rows)

-- the rows after the process is lost: each input is FALSE, and each switch with a key is local,
-- both invalid
abbrev pub rows_after_lost_inputs : Profile → List (List ℕ) → List Switch → ℕ → List Row → List Row
rows_after_lost_inputs One inputs switches now rows = rows
rows_after_lost_inputs Two inputs switches now rows =
    with_locals None true Invalid now inputs switches 0 switches (inputs_invalid now 0 inputs rows)
