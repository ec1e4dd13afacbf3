-- The number of each fault.
use Rattle.std.specs.Prelude.{ℕ}
use Rattle.bay_ber.specs.declared.fault.BerFault.{BerFault}
use Rattle.bay_ber.specs.declared.fault.BerFault.TheVariants.{Truncated, Indefinite, LengthTooLong, TagTooLarge, BadContent}

-- ---- own: numbers of faults

-- the number of a fault, 1 to 5
abbrev pub code_of : BerFault → ℕ
code_of Truncated = 1
code_of Indefinite = 2
code_of LengthTooLong = 3
code_of TagTooLarge = 4
code_of BadContent = 5
