-- The positions of a switch (IEC 61850-7-3, DPC: stVal).
use Rattle.std.specs.Prelude.{ℤ, pos, Bool, true, false}
use Rattle.bay_base.specs.declared.position.Dbpos.{Dbpos}
use Rattle.bay_base.specs.declared.position.Dbpos.TheVariants.{Intermediate, Off, On, Bad}

-- two positions are equal
abbrev pub same_position : Dbpos → Dbpos → Bool
same_position Intermediate Intermediate = true
same_position Off Off = true
same_position On On = true
same_position Bad Bad = true
same_position p q = false

-- the number of a position (IEC 61850-8-1, Dbpos)
abbrev pub position_number : Dbpos → ℤ
position_number Intermediate = pos 0
position_number Off = pos 1
position_number On = pos 2
position_number Bad = pos 3
