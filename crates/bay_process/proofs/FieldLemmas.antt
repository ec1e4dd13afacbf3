-- The rows of a meter's field.
use Rattle.std.proofs.Common.{◌≡◌, refl}
use Rattle.bay_tree.specs.declared.leaf.LeafType.TheVariants as leaf_type
use Rattle.bay_base.specs.declared.point.MeterField.{MeterField}
use Rattle.bay_base.specs.declared.point.MeterField.TheVariants.{TotW, TotVAr, Hz, PhaseA, PhaseB, PhaseC}
use Rattle.bay_process.specs.Layout.{Layout, status_names_in, AreStatusRows, meter_names_in, field_rows, AreMeterRows}
use Rattle.bay_process.specs.Names.{field_names}
use Rattle.bay_process.specs.declared.meter.MeterRows.{MeterRows}

-- the rows of one field
pub field-leaf_typed : (layout : Layout) (rows : MeterRows) (field : MeterField)
    → AreMeterRows layout rows → AreStatusRows layout leaf_type.Int32 (field_rows rows field).status
field-leaf_typed layout rows TotW h = h.tot_w
field-leaf_typed layout rows TotVAr h = h.tot_var
field-leaf_typed layout rows Hz h = h.hz
field-leaf_typed layout rows PhaseA h = h.phase_a
field-leaf_typed layout rows PhaseB h = h.phase_b
field-leaf_typed layout rows PhaseC h = h.phase_c

pub field-named : (layout : Layout) (rows : MeterRows) (field : MeterField)
    → status_names_in layout (field_rows rows field).status
    ≡ field_names field (meter_names_in layout rows)
field-named layout rows TotW = refl
field-named layout rows TotVAr = refl
field-named layout rows Hz = refl
field-named layout rows PhaseA = refl
field-named layout rows PhaseB = refl
field-named layout rows PhaseC = refl
