-- The sizes of answers and PDUs.
use Rattle.std.specs.Prelude.{◌≤◌, length}
use Rattle.bay_mms_initiate.specs.Sizes.{IsPduSize}
use Rattle.bay_assoc.specs.declared.receive.Heard.{Heard}
use Rattle.bay_assoc.specs.declared.receive.Heard.TheVariants.{Answer, Released}
use Rattle.bay_assoc.specs.declared.receive.Phase.{Phase}
use Rattle.bay_assoc.specs.declared.receive.Phase.TheVariants.{Open}

-- ---- own: the sizes of answers and PDUs

-- The agreed size of an open association is a size of a PDU.
abbrev pub IsSized : Phase → Type 0
IsSized (Open terms) = IsPduSize terms.size
IsSized phase = Unit {0}

-- An answer has at most 1,000 octets.
abbrev pub IsShort : Heard → Type 0
IsShort (Answer octets) = length octets.items ≤ 1000
IsShort (Released octets) = length octets.items ≤ 1000
IsShort heard = Unit {0}
