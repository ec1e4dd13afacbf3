-- The result of feeding a piece of a stream.
use Rattle.std.specs.Prelude.{ℕ, ◌≡◌, ◌-◌, ◌<◌, ◌≤◌, List, [], ◌∷◌, length, take, drop, Option, Some, None, unwrap_or}
use Rattle.bay_transport.specs.declared.fault.TransportFault.{TransportFault}
use Rattle.bay_transport.specs.declared.fault.TransportFault.TheVariants.{BadTpkt, BadCotp, ClassRefused, TsduTooLong, Failed, OutOfMemory}
use Rattle.bay_transport.specs.declared.assembly.Assembly.{Assembly}
use Rattle.bay_transport.specs.declared.fed.Got.{Got}
use Rattle.bay_transport.specs.declared.fed.Got.TheVariants.{More, Answer, Tsdu, Ended}
use Rattle.bay_transport.specs.declared.transport.TransportState.{TransportState}
use Rattle.bay_transport.specs.declared.transport.TransportState.TheVariants.{Open, Closed, Refused}
use Rattle.bay_transport.specs.Doings.{Doing, Answers, Delivers, Ends, Fails, StreamState, Going, Over, Broken, Stream, doings}
use Rattle.bay_transport.specs.Assembly.{stream_state_of, IsSound, HasNoRoom}

-- ---- own: the result of feeding a piece

-- The consumed octets have this one doing, and the octets before the last of them complete nothing.
pub record CompletesDoing (s : Stream) (piece : List ℕ) (used : ℕ) (doing : Doing) : Type 0 where
  pub moves : 0 < used
  pub within : used ≤ length piece
  pub quiet : doings s (take (used - 1) piece) ≡ []
  pub does : doings s (take used piece) ≡ doing ∷ []

-- `used` octets of the piece are consumed, and the result is the first doing of the piece, or None
-- if there is none yet. After an end, no octet is consumed and the result is the end again.
abbrev pub FeedsFrom : StreamState → Stream → List ℕ → ℕ → Option Doing → Type 0
FeedsFrom (Going connection rest) s piece used None = (used ≡ length piece) × (doings s piece ≡ [])
FeedsFrom (Going connection rest) s piece used (Some doing) = CompletesDoing s piece used doing
FeedsFrom Over s piece used answer = (used ≡ 0) × (answer ≡ Some Ends)
FeedsFrom Broken s piece used answer = ⊥

-- One `feed` of the piece to the stream consumes `used` octets, with this result.
abbrev pub Feeds : Stream → List ℕ → ℕ → Option Doing → Type 0
Feeds s piece used answer = FeedsFrom s.state s piece used answer

-- The doings of a piece are this one, followed by those of the octets that were not consumed.
abbrev pub DoingThenRest : Stream → Stream → List ℕ → ℕ → Doing → Type 0
DoingThenRest old new piece used doing = doings old piece ≡ doing ∷ doings new (drop used piece)

-- The stream still accepts octets.
abbrev pub AcceptsOctets : StreamState → Type 0
AcceptsOctets (Going connection rest) = Unit {0}
AcceptsOctets Over = ⊥
AcceptsOctets Broken = ⊥

-- The piece is refused with this fault: the fault is its only doing. A stream that failed refuses
-- every piece with `Failed`. `OutOfMemory` occurs only if the stream still accepts octets and the
-- piece has some.
abbrev pub RefusesPiece : Stream → List ℕ → TransportFault → Type 0
RefusesPiece s piece BadTpkt = doings s piece ≡ Fails BadTpkt ∷ []
RefusesPiece s piece BadCotp = doings s piece ≡ Fails BadCotp ∷ []
RefusesPiece s piece ClassRefused = doings s piece ≡ Fails ClassRefused ∷ []
RefusesPiece s piece TsduTooLong = doings s piece ≡ Fails TsduTooLong ∷ []
RefusesPiece s piece Failed = s.state ≡ Broken
RefusesPiece s piece OutOfMemory = AcceptsOctets s.state × (0 < length piece)

-- the agreed size, if the stream still accepts octets and there was a request
abbrev pub agreed_from : StreamState → Option ℕ
agreed_from (Going connection rest) = connection.size
agreed_from Over = None
agreed_from Broken = None

-- the agreed size of a stream, if there is one
abbrev pub size_agreed : Stream → Option ℕ
size_agreed s = agreed_from s.state

-- the view of a transport: the state of its stream, and the octets that were completed last
pub record TransportData : Type 0 where
  pub stream : Stream
  pub shown : List ℕ

-- the result of feeding, with the octets that were completed last, as a doing
abbrev pub doing_of_result : Got → TransportData → Option Doing
doing_of_result More r = None
doing_of_result Answer r = Some (Answers (unwrap_or (size_agreed r.stream) 0) r.shown)
doing_of_result Tsdu r = Some (Delivers r.shown)
doing_of_result Ended r = Some Ends

-- the agreed size after some doings, given the size before them; none after an end or a fault
abbrev pub size_after : Option ℕ → List Doing → Option ℕ
size_after size [] = size
size_after size (Answers size_agreed reply ∷ doings) = size_after (Some size_agreed) doings
size_after size (Delivers tsdu ∷ doings) = size_after size doings
size_after size (Ends ∷ doings) = None
size_after size (Fails fault ∷ doings) = None

-- The buffers are within their limits: 70,000 octets of a group, less than the longest frame of a
-- rest, and 70,000 octets of what was completed last; and nothing after an end or a fault.
abbrev pub KeepsWithin : StreamState → List ℕ → Type 0
KeepsWithin (Going connection rest) shown =
    (length connection.group ≤ 70000) × (length rest < 65535) × (length shown ≤ 70000)
KeepsWithin Over shown = shown ≡ []
KeepsWithin Broken shown = shown ≡ []

-- The buffers of a transport are within their limits.
abbrev pub IsWithinLimits : TransportData → Type 0
IsWithinLimits r = KeepsWithin r.stream.state r.shown

-- the stream after the end of its connection
abbrev pub end_of_stream : Stream → Stream
end_of_stream s = record { number = s.number; state = Over }

-- the stream after a fault
abbrev pub broken : Stream → Stream
broken s = record { number = s.number; state = Broken }

-- ---- own: views of the code

-- the state of the stream: that of the assembly while octets are accepted
abbrev pub stream_state_in : TransportState → Assembly → StreamState
stream_state_in Open a = stream_state_of a
stream_state_in Closed a = Over
stream_state_in Refused a = Broken

-- the view of a transport, from its fields
abbrev pub received_of : TransportState → Assembly → TransportData
received_of state a =
    record {
      stream = record { number = a.number; state = stream_state_in state a };
      shown = a.shown.items;
    }

-- If no more octets are accepted, the buffers are freed.
abbrev pub ReleasedUnlessOpen : TransportState → Assembly → Type 0
ReleasedUnlessOpen Open a = Unit {0}
ReleasedUnlessOpen Closed a = HasNoRoom a
ReleasedUnlessOpen Refused a = HasNoRoom a

-- The invariant of a transport.
pub record IsConsistent (state : TransportState) (a : Assembly) : Type 0 where
  pub sound : IsSound a
  pub room : ReleasedUnlessOpen state a
