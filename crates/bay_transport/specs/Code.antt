-- The number and the words of each fault. `OutOfMemory` has no number.
use Rattle.std.specs.Prelude.{ℕ, ◌==◌, List, codes, Option, Some, None, if◌then◌else◌}
use Rattle.bay_transport.specs.declared.fault.TransportFault.{TransportFault}
use Rattle.bay_transport.specs.declared.fault.TransportFault.TheVariants.{BadTpkt, BadCotp, ClassRefused, TsduTooLong, Failed, OutOfMemory}

-- ---- own: numbers and words of faults

-- the number of a fault, 10 to 14
abbrev pub code_of : TransportFault → Option ℕ
code_of BadTpkt = Some 10
code_of BadCotp = Some 11
code_of ClassRefused = Some 12
code_of TsduTooLong = Some 13
code_of Failed = Some 14
code_of OutOfMemory = None

-- the fault with a number
abbrev pub fault_of : ℕ → Option TransportFault
fault_of code =
    if code == 10 then Some BadTpkt
    else if code == 11 then Some BadCotp
    else if code == 12 then Some ClassRefused
    else if code == 13 then Some TsduTooLong
    else if code == 14 then Some Failed
    else None

-- what the fault is, in words
abbrev pub words_of : TransportFault → List ℕ
words_of BadTpkt = codes "no TPKT"
words_of BadCotp = codes "a TPDU that is malformed, unknown or out of place"
words_of ClassRefused = codes "a transport class other than 0"
words_of TsduTooLong = codes "a TSDU of more than 70,000 octets"
words_of Failed = codes "the transport has failed"
words_of OutOfMemory = codes "out of memory"
