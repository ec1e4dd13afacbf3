-- The result of a call with a TSDU, and the phase after it.
use Rattle.std.specs.Prelude.{ℕ, ◌≡◌, ◌⊎◌, ◌++◌, List, Option, Some, None, IsSome, Result, Ok, Err}
use Rattle.bay_assoc.specs.declared.fault.AssocFault.{AssocFault}
use Rattle.bay_assoc.specs.declared.fault.AssocFault.TheVariants.{OutOfMemory}
use Rattle.bay_assoc.specs.declared.receive.AssociationTerms.{AssociationTerms}
use Rattle.bay_assoc.specs.declared.receive.Heard.{Heard}
use Rattle.bay_assoc.specs.declared.receive.Heard.TheVariants as heard
use Rattle.bay_assoc.specs.declared.receive.Phase.{Phase}
use Rattle.bay_assoc.specs.declared.receive.Phase.TheVariants.{Open, Failed}
use Rattle.bay_assoc.specs.TsduMeanings.{tsdu_meaning}
use Rattle.bay_assoc.specs.Views.{heard_view}

-- ---- own: the result of a call

-- the agreed terms, if the association is open
abbrev pub association_terms : Phase → Option AssociationTerms
association_terms (Open terms) = Some terms
association_terms phase = None

-- The result is the meaning of the TSDU, with its next phase; or its fault, or out of memory, and
-- the association has then failed.
abbrev pub ReceivesTsdu : Phase → List ℕ → Result Heard AssocFault → Phase → Type 0
ReceivesTsdu old octets (Ok h) new = tsdu_meaning old octets ≡ Ok (heard_view h, new)
ReceivesTsdu old octets (Err fault) new =
    (new ≡ Failed) × ((fault ≡ OutOfMemory) ⊎ (tsdu_meaning old octets ≡ Err fault))

-- A PDU of MMS is the last part of its TSDU.
abbrev pub IsLastPart : List ℕ → Heard → Type 0
IsLastPart octets (heard.Mms pdu) = (front : List ℕ) × (octets ≡ front ++ pdu.now)
IsLastPart octets h = Unit {0}

-- A PDU of MMS is returned only if the association is open.
abbrev pub IsOpenFor : Heard → Phase → Type 0
IsOpenFor (heard.Mms pdu) phase = IsSome (association_terms phase)
IsOpenFor h phase = Unit {0}
