-- The words of the faults of a client's octets.
use Rattle.std.specs.Prelude.{ℕ, List, codes, Option, None, Some}
use Rattle.bay_assoc.specs.Code as association
use Rattle.bay_assoc.specs.declared.fault.AssocFault.{AssocFault}
use Rattle.bay_transport.specs.Code as transport
use Rattle.bay_transport.specs.declared.fault.TransportFault.{TransportFault}

-- the words of the fault of the transport, or else of that of the association, if there is one
abbrev pub words_of : Option TransportFault → Option AssocFault → List ℕ
words_of (Some fault) other = transport.words_of fault
words_of None (Some fault) = association.words_of fault
words_of None None = codes "octets that can't be read"

-- the words of the fault with a number
abbrev pub fault_words : ℕ → List ℕ
fault_words code = words_of (transport.fault_of code) (association.fault_of code)
