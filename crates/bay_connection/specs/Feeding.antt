-- The result of feeding a piece of a client's octets.
use Rattle.std.specs.Prelude.{ℕ, ◌≡◌, ◌-◌, ◌<◌, ◌≤◌, List, [], ◌∷◌, ◌++◌, length, take, drop, Option, Some, None, IsSome}
use Rattle.bay_transport.specs.Doings.{StreamState, Going, Over, Broken}
use Rattle.bay_assoc.specs.declared.receive.Phase.{Phase}
use Rattle.bay_assoc.specs.Receives.{association_terms}
use Rattle.bay_connection.specs.declared.indication.Indication as code
use Rattle.bay_connection.specs.declared.indication.Indication.TheVariants as variant
use Rattle.bay_connection.specs.ConnectionStates.{ConnectionState, terms_of, Indication, answers, delivers, releases, ends, fails, ConnectionStep, indications}

-- The consumed octets have this one indication, and the octets before the last of them have none.
pub record CompletesIndication (t : ConnectionState) (piece : List ℕ) (used : ℕ)
    (indication : Indication)
    : Type 0 where
  pub moves : 0 < used
  pub within : used ≤ length piece
  pub quiet : indications t (take (used - 1) piece) ≡ []
  pub does : indications t (take used piece) ≡ indication ∷ []

-- The consumed octets have this one indication, and the octets before the last of them have none;
-- if the indication is a fault, a prefix of the consumed octets may already have it.
abbrev pub Completes : ConnectionState → List ℕ → ℕ → Indication → Type 0
Completes t piece used (answers octets) = CompletesIndication t piece used (answers octets)
Completes t piece used (delivers terms pdu) = CompletesIndication t piece used (delivers terms pdu)
Completes t piece used (releases octets) = CompletesIndication t piece used (releases octets)
Completes t piece used ends = CompletesIndication t piece used ends
Completes t piece used (fails code) =
    (used ≤ length piece) × (indications t (take used piece) ≡ fails code ∷ [])

-- `used` octets of the piece are consumed, and the result is the first indication of the piece, or
-- None if there is none yet. If the connection has ended, no octet is consumed, and the result is
-- the end again.
abbrev pub FeedsFrom : StreamState → ConnectionState → List ℕ → ℕ → Option Indication → Type 0
FeedsFrom (Going connection rest) t piece used None =
    (used ≡ length piece) × (indications t piece ≡ [])
FeedsFrom (Going connection rest) t piece used (Some indication) = Completes t piece used indication
FeedsFrom Over t piece used answer = (used ≡ 0) × (answer ≡ Some ends)
FeedsFrom Broken t piece used answer = ⊥

-- One `feed` of the piece to the connection consumes `used` octets, with this result.
abbrev pub Feeds : ConnectionState → List ℕ → ℕ → Option Indication → Type 0
Feeds t piece used answer = FeedsFrom t.stream.state t piece used answer

-- The indications of the piece are this one, followed by those of the octets that were not
-- consumed.
abbrev pub IndicationThenRest : ConnectionState → ConnectionState → List ℕ → ℕ → Indication → Type 0
IndicationThenRest old new piece used indication =
    indications old piece ≡ indication ∷ indications new (drop used piece)

-- The connection still accepts octets after this indication: after an answer and after a PDU of
-- MMS.
abbrev pub IsContinued : Indication → Type 0
IsContinued (answers octets) = Unit {0}
IsContinued (delivers terms pdu) = Unit {0}
IsContinued indication = ⊥

-- two steps, one after the other
abbrev pub and_then : ConnectionStep → ConnectionStep → ConnectionStep
and_then first later =
    record { indications = first.indications ++ later.indications; state = later.state }

-- the view of a connection: its state, and the PDU of MMS that was received last
pub record ConnectionData : Type 0 where
  pub state : ConnectionState
  pub pdu : List ℕ

-- A PDU of MMS is returned only if the association is open.
abbrev pub IsOpenFor : code.Indication → Phase → Type 0
IsOpenFor variant.Mms phase = IsSome (association_terms phase)
IsOpenFor h phase = Unit {0}

-- `pdu` is empty unless the result is a PDU of MMS.
abbrev pub IsEmptyUnlessMms : code.Indication → List ℕ → Type 0
IsEmptyUnlessMms variant.Mms pdu = Unit {0}
IsEmptyUnlessMms h pdu = pdu ≡ []

-- the view of the code's indication, from the connection after it
abbrev pub indication_of : code.Indication → ConnectionData → Option Indication
indication_of variant.Nothing c = None
indication_of (variant.Answer octets) c = Some (answers octets.items)
indication_of variant.Mms c = Some (delivers (terms_of c.state) c.pdu)
indication_of (variant.Released octets) c = Some (releases octets.items)
indication_of variant.Ended c = Some ends
indication_of (variant.Fault code) c = Some (fails code)
