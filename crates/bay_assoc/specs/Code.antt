-- The number and the words of each fault. `OutOfMemory` has no number.
use Rattle.std.specs.Prelude.{ℕ, ◌==◌, List, codes, Option, Some, None, if◌then◌else◌}
use Rattle.bay_assoc.specs.declared.fault.AssocFault.{AssocFault}
use Rattle.bay_assoc.specs.declared.fault.AssocFault.TheVariants.{BadSession, BadPresentation, NoContext, BadAcse, OutOfPhase, PduSizeTooSmall, Failed, OutOfMemory}

-- ---- own: numbers and words of faults

-- the number of a fault, 20 to 26 in the order of the faults
abbrev pub code_of : AssocFault → Option ℕ
code_of BadSession = Some 20
code_of BadPresentation = Some 21
code_of NoContext = Some 22
code_of BadAcse = Some 23
code_of OutOfPhase = Some 24
code_of PduSizeTooSmall = Some 25
code_of Failed = Some 26
code_of OutOfMemory = None

-- the fault with a number
abbrev pub fault_of : ℕ → Option AssocFault
fault_of code =
    if code == 20 then Some BadSession
    else if code == 21 then Some BadPresentation
    else if code == 22 then Some NoContext
    else if code == 23 then Some BadAcse
    else if code == 24 then Some OutOfPhase
    else if code == 25 then Some PduSizeTooSmall
    else if code == 26 then Some Failed
    else None

-- what the fault is, in words
abbrev pub words_of : AssocFault → List ℕ
words_of BadSession = codes "no SPDU"
words_of BadPresentation = codes "a malformed PPDU"
words_of NoContext = codes "a presentation context that was not offered or accepted"
words_of BadAcse = codes "an APDU that can't be read"
words_of OutOfPhase = codes "an SPDU out of place"
words_of PduSizeTooSmall = codes "a PDU size below 256"
words_of Failed = codes "the association has failed"
words_of OutOfMemory = codes "out of memory"
