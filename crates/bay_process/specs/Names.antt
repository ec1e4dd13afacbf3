-- The names of one field of a meter.
use Rattle.std.specs.Prelude.{ℕ, List}
use Rattle.bay_base.specs.declared.point.MeterField.{MeterField}
use Rattle.bay_base.specs.declared.point.MeterField.TheVariants.{TotW, TotVAr, Hz, PhaseA, PhaseB, PhaseC}
use Rattle.bay_nodes.specs.Names.{StatusNames, MeterNames, FloatNames}

-- the names of a field of a meter
abbrev pub field_names : MeterField → MeterNames → StatusNames
field_names TotW names = names.tot_w
field_names TotVAr names = names.tot_var
field_names Hz names = names.hz
field_names PhaseA names = names.phase_a
field_names PhaseB names = names.phase_b
field_names PhaseC names = names.phase_c

-- the name of a field of a meter as a float
abbrev pub field_float : MeterField → FloatNames → List ℕ
field_float TotW names = names.tot_w
field_float TotVAr names = names.tot_var
field_float Hz names = names.hz
field_float PhaseA names = names.phase_a
field_float PhaseB names = names.phase_b
field_float PhaseC names = names.phase_c
