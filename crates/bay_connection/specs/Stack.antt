-- The layers of a connection: their state, and their invariant.
use Rattle.std.specs.Prelude.{ℕ, ◌≡◌, ◌-◌, ◌≤◌, List, [], ◌∷◌, length, drop, Option, Some, None, option_to_list, IfSome, IsSome}
use Rattle.bay_transport.specs.declared.fed.Got.{Got}
use Rattle.bay_transport.specs.declared.fed.Got.TheVariants as got
use Rattle.bay_transport.specs.Doings.{Doing, StreamState, Going, Over, Broken}
use Rattle.bay_transport.specs.Feeding.{size_agreed}
use Rattle.bay_assoc.specs.declared.receive.Phase.{Phase}
use Rattle.bay_assoc.specs.declared.receive.Phase.TheVariants as phases
use Rattle.bay_assoc.specs.Receives.{association_terms}
use Rattle.bay_connection.specs.declared.stack.Stack.{Stack}
use Rattle.bay_connection.specs.ConnectionStates.{ConnectionState, Indication, after_doings}
use Rattle.bay_connection.specs.Feeding.{ConnectionData}

-- If the association is open, a size of TPDUs is agreed; if the stream has ended, the association
-- has ended; and no stream has failed.
abbrev pub AreJoined : StreamState → Phase → Type 0
AreJoined (Going connection rest) phase =
    IfSome (association_terms phase) (λ _. IsSome connection.size)
AreJoined Over phase = phase ≡ phases.Over
AreJoined Broken phase = ⊥

-- The stream and the association of a connection fit together.
abbrev pub IsJoined : ConnectionState → Type 0
IsJoined t = AreJoined t.stream.state t.phase

-- the state of a stack
abbrev pub connection_state_of : Stack → ConnectionState
connection_state_of s = record { stream = s.transport.stream; phase = s.assoc }

-- the PDU of MMS: the last part of the TSDU that was completed last
abbrev pub pdu_of : Stack → List ℕ
pdu_of s = drop (length s.transport.shown - s.pdu) s.transport.shown

-- the view of a stack
abbrev pub client_of : Stack → ConnectionData
client_of s = record { state = connection_state_of s; pdu = pdu_of s }

-- The invariant of a stack.
pub record IsConsistent (s : Stack) : Type 0 where
  pub within : s.pdu ≤ length s.transport.shown
  pub joined : IsJoined (connection_state_of s)

-- What the transport completed can be handled in this state: for an answer or a TSDU, a size is
-- agreed.
abbrev pub IsReady : Got → ConnectionState → Type 0
IsReady got.More t = IsJoined t
IsReady got.Answer t = IsSome (size_agreed t.stream)
IsReady got.Tsdu t = IsSome (size_agreed t.stream)
IsReady got.Ended t = Unit {0}

-- Which results of the transport make the code allocate: those that may be answered.
abbrev pub MayAllocate : Got → Type 0
MayAllocate got.More = ⊥
MayAllocate got.Answer = Unit {0}
MayAllocate got.Tsdu = Unit {0}
MayAllocate got.Ended = ⊥

-- A doing after which the stream is that of `old` has this indication, in the phase of `old`, and
-- the state after it is `new`.
abbrev pub Indicates : ConnectionState → Doing → Option Indication → ConnectionState → Type 0
Indicates old doing heard new =
    after_doings old.stream (doing ∷ []) (size_agreed old.stream) old.phase
    ≡ record { indications = option_to_list heard; state = new }

-- If the transport completed something, its doing has this indication, and the state after it is
-- `new`; else there is no indication, and nothing changes.
abbrev pub IndicatesIfSome : ConnectionState → Option Doing → Option Indication → ConnectionState
    → Type 0
IndicatesIfSome old None heard new = (heard ≡ None) × (new ≡ old)
IndicatesIfSome old (Some doing) heard new = Indicates old doing heard new
