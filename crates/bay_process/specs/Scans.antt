-- What a scan reads and writes, with switches and meters bound to the rows of the tree.
use Rattle.std.specs.Prelude.{◌≡◌, ◌<◌, ◌≤◌, ℕ, Bool, false, List, [], ◌∷◌, slice_get, unwrap_or, Option, Some, None}
use Rattle.bay_tree.specs.Rows.{leaf_named}
use Rattle.bay_tree.specs.declared.leaf.Leaf.{Leaf}
use Rattle.bay_tree.specs.declared.row.Row.{Row}
use Rattle.bay_base.specs.declared.point.MeterField.{MeterField}
use Rattle.bay_base.specs.declared.point.Source.{Source}
use Rattle.bay_base.specs.declared.point.Source.TheVariants as source
use Rattle.bay_base.specs.declared.point.SwitchPoint.{SwitchPoint}
use Rattle.il_image.specs.declared.value.Value.{Value}
use Rattle.il_image.specs.declared.value.Value.TheVariants.{Truth, Long}
use Rattle.il_scan.specs.OutputValues.{is_true}
use Rattle.il_scan.specs.declared.span.Span.{Span}
use Rattle.bay_process.specs.Values.{number_of_leaf, output_at, position_value, with_output}
use Rattle.bay_process.specs.Layout.{Layout, field_rows, layout_of, row_name_in, switch_names_in}
use Rattle.bay_process.specs.declared.meter.BoundMeter.{BoundMeter}
use Rattle.bay_process.specs.declared.switch.BoundSwitch.{BoundSwitch}

-- the value at a handle
abbrev pub leaf_at_handle : List Row → ℕ → Option Leaf
leaf_at_handle rows handle = leaf_named (row_name_in (layout_of rows) handle) rows

-- the value that the program reads of a point of a switch
abbrev pub switch_value : List Row → SwitchPoint → Option BoundSwitch → Value
switch_value rows point None = position_value point None
switch_value rows point (Some b) = position_value point (leaf_at_handle rows b.rows.position.value)

-- the value that the program reads of a field of a meter
abbrev pub meter_value : List Row → MeterField → Option BoundMeter → Value
meter_value rows field None = Long (number_of_leaf None)
meter_value rows field (Some m) =
    Long (number_of_leaf (leaf_at_handle rows (field_rows m.rows field).status.value))

-- the value of a point, from the positions, the inputs or the measured values
abbrev pub source_value : List Row → List BoundSwitch → List Bool → List BoundMeter → Source → Value
source_value rows switches inputs meters (source.Switch k point) =
    switch_value rows point (slice_get switches k)
source_value rows switches inputs meters (source.Input k) =
    Truth (unwrap_or (slice_get inputs k) false)
source_value rows switches inputs meters (source.Meter k field) =
    meter_value rows field (slice_get meters k)

-- The span has each read-only point of the switch at index k.
abbrev pub HasPoints : List Source → ℕ → Span → Type 0
HasPoints reads k span = (n : ℕ) (point : SwitchPoint)
    → slice_get reads n ≡ Some (source.Switch k point) → (span.from ≤ n) × (n < span.to)

-- Each span has the points of the switch at its index.
abbrev pub AreSpanned : List Source → List Span → Type 0
AreSpanned reads spans =
    (k : ℕ) (span : Span) → slice_get spans k ≡ Some span → HasPoints reads k span

-- the rows after a scan has written its outputs to the interlocking values of the switches
abbrev pub rows_after_outputs : Layout → List BoundSwitch → List Value → ℕ → List Row → List Row
rows_after_outputs layout [] outputs now rows = rows
rows_after_outputs layout (b ∷ bs) outputs now rows =
    rows_after_outputs layout bs outputs now
    (with_output (switch_names_in layout b.rows) (is_true (output_at b.outputs.ena_opn outputs))
    (is_true (output_at b.outputs.ena_cls outputs)) now rows)
