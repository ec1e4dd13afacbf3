-- The number of each fault.
use Rattle.std.specs.Prelude.{ℕ, Option, Some, None}
use Rattle.bay_mms.specs.declared.fault.MmsFault.{MmsFault}
use Rattle.bay_mms.specs.declared.fault.MmsFault.TheVariants.{BadPdu, UnknownService, TooMany, OutOfMemory}
use Rattle.bay_mms.specs.declared.fault.DataAccessError.{DataAccessError}
use Rattle.bay_mms.specs.declared.fault.DataAccessError.TheVariants.{ObjectAccessDenied, TypeInconsistent, ObjectNonExistent, ObjectValueInvalid}

-- ---- own: numbers of faults

-- The number of a fault of a request, 30 to 32; `OutOfMemory` has none.
abbrev pub code_of : MmsFault → Option ℕ
code_of (BadPdu id) = Some 30
code_of (UnknownService id) = Some 31
code_of (TooMany id) = Some 32
code_of OutOfMemory = None

-- the number of an error (ISO 9506-2, DataAccessError)
abbrev pub access_code_of : DataAccessError → ℕ
access_code_of ObjectAccessDenied = 3
access_code_of TypeInconsistent = 7
access_code_of ObjectNonExistent = 10
access_code_of ObjectValueInvalid = 11
