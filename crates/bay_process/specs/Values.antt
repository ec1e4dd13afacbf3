-- The effects of positions, inputs, measured values and a scan's outputs on the rows of a tree (IEC
-- 61850-7-4: XCBR, XSWI, CSWI, CILO and MMXU; IEC 61850-7-3: status values and measured values).
use Rattle.std.specs.Prelude.{ℕ, ℤ, ◌+◌, Bool, true, false, not, ◌&&◌, ◌==◌, pos, ◌+ℤ◌, int_lt, List, [], ◌∷◌, position, slice_get, Option, None, Some, if◌then◌else◌}
use Rattle.std.specs.Bool.{beq}
use Rattle.std.specs.Ordering.{int_eq}
use Rattle.bay_tree.specs.Rows.{leaf_named, with_leaf_named}
use Rattle.bay_tree.specs.declared.row.Row.{Row}
use Rattle.bay_tree.specs.declared.leaf.Leaf.{Leaf}
use Rattle.bay_tree.specs.declared.leaf.Leaf.TheVariants as leaf
use Rattle.bay_base.specs.Positions.{position_number, same_position}
use Rattle.bay_base.specs.declared.position.Dbpos.{Dbpos}
use Rattle.bay_base.specs.declared.position.Dbpos.TheVariants.{Intermediate, Off, On, Bad}
use Rattle.bay_tree.specs.declared.leaf.Quality.{Quality}
use Rattle.bay_tree.specs.declared.leaf.Quality.TheVariants.{Good, Invalid}
use Rattle.bay_nodes.specs.declared.switch.Switch.{Switch}
use Rattle.bay_base.specs.declared.point.MeterField.{MeterField}
use Rattle.bay_base.specs.declared.point.Source.{Source}
use Rattle.bay_base.specs.declared.point.Source.TheVariants as source
use Rattle.bay_base.specs.declared.point.SwitchPoint.{SwitchPoint}
use Rattle.bay_base.specs.declared.point.SwitchPoint.TheVariants.{Position, Open, Closed, EnableOpen, EnableClose}
use Rattle.il_image.specs.declared.value.Value.{Value}
use Rattle.il_image.specs.declared.value.Value.TheVariants.{Truth, Short}
use Rattle.il_scan.specs.OutputValues.{is_true}
use Rattle.bay_nodes.specs.Names.{StatusNames, SwitchNames, switch_names, meter_names}
use Rattle.bay_process.specs.Names.{field_names}

-- the rows with a status value, its quality and its time stamp
abbrev pub with_status : StatusNames → Leaf → Quality → ℕ → List Row → List Row
with_status names value quality now rows =
    with_leaf_named names.time (leaf.Utc now)
    (with_leaf_named names.quality (leaf.Quality quality) (with_leaf_named names.value value rows))

-- the quality of a position: invalid if both end positions are reported
abbrev pub position_quality : Dbpos → Quality
position_quality Bad = Invalid
position_quality Intermediate = Good
position_quality Off = Good
position_quality On = Good

-- open or closed
abbrev pub is_end_position : Dbpos → Bool
is_end_position Off = true
is_end_position On = true
is_end_position Intermediate = false
is_end_position Bad = false

-- two qualities are equal
abbrev pub same_quality : Quality → Quality → Bool
same_quality Good Good = true
same_quality Invalid Invalid = true
same_quality p q = false

-- the leaf is this position
abbrev pub is_position : Dbpos → Option Leaf → Bool
is_position p (Some (leaf.Dbpos q)) = same_position p q
is_position p other = false

-- the leaf is this quality
abbrev pub is_quality : Quality → Option Leaf → Bool
is_quality q (Some (leaf.Quality r)) = same_quality q r
is_quality q other = false

-- the leaf is this truth value
abbrev pub is_truth : Bool → Option Leaf → Bool
is_truth b (Some (leaf.Truth c)) = beq b c
is_truth b other = false

-- the rows with one operation more, up to the maximum of the count
abbrev pub with_count : StatusNames → Option Leaf → ℕ → List Row → List Row
with_count names (Some (leaf.Int32 n)) now rows =
    if int_lt n (pos 2147483647)
    then with_leaf_named names.time (leaf.Utc now)
    (with_leaf_named names.value (leaf.Int32 (n +ℤ pos 1)) rows)
    else rows
with_count names other now rows = rows

-- a reported position counts as an operation if it is an end position and the switch was not there
abbrev pub is_operation : Dbpos → Option Leaf → Bool
is_operation position before = is_end_position position && not (is_position position before)

-- the rows with one operation of a switch more
abbrev pub rows_after_operation : StatusNames → ℕ → List Row → List Row
rows_after_operation names now rows = with_count names (leaf_named names.value rows) now rows

-- the rows already have this position, with its quality
abbrev pub has_position : StatusNames → Dbpos → List Row → Bool
has_position names position rows =
    is_position position (leaf_named names.value rows)
    && is_quality (position_quality position) (leaf_named names.quality rows)

-- the rows after a reported position that changes the value or the quality; the control repeats it
abbrev pub rows_after_change : SwitchNames → Dbpos → ℕ → List Row → List Row
rows_after_change names position now rows =
    let told =
    with_status names.position (leaf.Dbpos position) (position_quality position) now rows in
    let after =
    with_status names.control (leaf.Dbpos position) (position_quality position) now told in
    if is_operation position (leaf_named names.position.value rows)
    then rows_after_operation names.operations now after
    else after

-- the rows after a reported position; one that changes neither value nor quality changes nothing
abbrev pub rows_after_contact : SwitchNames → Dbpos → ℕ → List Row → List Row
rows_after_contact names position now rows =
    if has_position names.position position rows
    then rows
    else rows_after_change names position now rows

-- the leaf is this number
abbrev pub is_number : ℤ → Option Leaf → Bool
is_number n (Some (leaf.Int32 m)) = int_eq n m
is_number n other = false

-- the rows already have this measured value, with good quality
abbrev pub has_measure : StatusNames → ℤ → List Row → Bool
has_measure names value rows =
    is_number value (leaf_named names.value rows) && is_quality Good (leaf_named names.quality rows)

-- the leaf is a float
abbrev pub is_float : Option Leaf → Bool
is_float (Some (leaf.Float n)) = true
is_float other = false

-- the rows with a measured value as a float, if they have a float with this name
abbrev pub with_float : List ℕ → ℤ → List Row → List Row
with_float name value rows =
    if is_float (leaf_named name rows) then with_leaf_named name (leaf.Float value) rows else rows

-- the rows after a measured value, which the float with this name repeats, if there is one; a value
-- that changes neither value nor quality changes nothing
abbrev pub rows_after_measure : StatusNames → List ℕ → ℤ → ℕ → List Row → List Row
rows_after_measure names float value now rows =
    if has_measure names value rows then rows
    else with_float float value (with_status names (leaf.Int32 value) Good now rows)

-- the rows already have this measured value as invalid
abbrev pub has_invalid_measure : StatusNames → List Row → Bool
has_invalid_measure names rows = is_quality Invalid (leaf_named names.quality rows)

-- the rows after a report that a measured value is invalid, whose value stays; one that does not
-- change the quality changes nothing
abbrev pub rows_after_bad_measure : StatusNames → ℕ → List Row → List Row
rows_after_bad_measure names now rows =
    if has_invalid_measure names rows then rows
    else with_leaf_named names.time (leaf.Utc now)
    (with_leaf_named names.quality (leaf.Quality Invalid) rows)

-- the number of a position; 0 without a position
abbrev pub number_of_position : Option Leaf → ℤ
number_of_position (Some (leaf.Dbpos position)) = position_number position
number_of_position other = pos 0

-- the value of a point of a switch from its position; the points that the program writes are FALSE
abbrev pub position_value : SwitchPoint → Option Leaf → Value
position_value Position position = Short (number_of_position position)
position_value Open position = Truth (is_position Off position)
position_value Closed position = Truth (is_position On position)
position_value EnableOpen position = Truth false
position_value EnableClose position = Truth false

-- the position of the switch at index k in the rows
abbrev pub position_leaf : List Switch → List Row → ℕ → Option Switch → Option Leaf
position_leaf switches rows k None = None
position_leaf switches rows k (Some switch) =
    leaf_named (switch_names switches k switch).position.value rows

-- a measured value, as an integer
abbrev pub number_of_leaf : Option Leaf → ℤ
number_of_leaf (Some (leaf.Int32 n)) = n
number_of_leaf other = pos 0

-- the value of a field of the meter at index k in the rows
abbrev pub measure_leaf : List Row → ℕ → MeterField → Option (List ℕ) → Option Leaf
measure_leaf rows k field None = None
measure_leaf rows k field (Some id) = leaf_named (field_names field (meter_names k)).value rows

-- two points of a switch are equal
abbrev pub same_point : SwitchPoint → SwitchPoint → Bool
same_point Position Position = true
same_point Open Open = true
same_point Closed Closed = true
same_point EnableOpen EnableOpen = true
same_point EnableClose EnableClose = true
same_point p q = false

-- the source is this point of the switch at index k
abbrev pub is_point : ℕ → SwitchPoint → Source → Bool
is_point k point (source.Switch j which) = j == k && same_point which point
is_point k point (source.Input j) = false
is_point k point (source.Meter j field) = false

-- the value at an index, if there is one
abbrev pub output_at : Option ℕ → List Value → Option Value
output_at None outputs = None
output_at (Some n) outputs = slice_get outputs n

-- the value that the program wrote to a point of the switch at index k; FALSE if it does not name
-- the point
abbrev pub output_of : ℕ → SwitchPoint → List Source → List Value → Bool
output_of k point writes outputs = is_true (output_at (position (is_point k point) writes) outputs)

-- the rows with an interlocking value of good quality; the time is set if the value or quality
-- changes
abbrev pub with_enabled : StatusNames → Bool → ℕ → List Row → List Row
with_enabled names value now rows =
    if is_truth value (leaf_named names.value rows)
    && is_quality Good (leaf_named names.quality rows)
    then rows
    else with_status names (leaf.Truth value) Good now rows

-- both interlocking values of a switch: whether it may be opened, and closed
abbrev pub with_output : SwitchNames → Bool → Bool → ℕ → List Row → List Row
with_output names opens closes now rows =
    with_enabled names.ena_cls closes now (with_enabled names.ena_opn opens now rows)

-- the rows after a scan has written its outputs to the interlocking values of switches; the first
-- of these switches has index k
abbrev pub with_outputs : List Switch → List Source → List Value → ℕ → ℕ → List Switch → List Row
    → List Row
with_outputs switches writes outputs now k [] rows = rows
with_outputs switches writes outputs now k (s ∷ ss) rows =
    with_outputs switches writes outputs now (k + 1) ss
    (with_output (switch_names switches k s) (output_of k EnableOpen writes outputs)
    (output_of k EnableClose writes outputs) now rows)
