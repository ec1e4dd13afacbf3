-- The buffers of an assembly, and the stream that they represent.
use Rattle.std.specs.Prelude.{ℕ, ◌≡◌, ◌+◌, ◌-◌, ◌<◌, ◌≤◌, List, [], ◌∷◌, length, take, drop, vec_capacity, unwrap_or, IfSome}
use Rattle.bay_transport.specs.declared.fault.TransportFault.{TransportFault}
use Rattle.bay_transport.specs.declared.fault.TransportFault.TheVariants.{BadTpkt, BadCotp, ClassRefused, TsduTooLong, Failed, OutOfMemory}
use Rattle.bay_transport.specs.declared.frame.FramePrefix.TheVariants.{Begun, Whole}
use Rattle.bay_transport.specs.declared.assembly.Assembly.{Assembly}
use Rattle.bay_transport.specs.declared.fed.Got.{Got}
use Rattle.bay_transport.specs.declared.fed.Got.TheVariants.{More, Answer, Tsdu, Ended}
use Rattle.bay_transport.specs.Frame.{frame_prefix}
use Rattle.bay_transport.specs.Doings.{Doing, Answers, Delivers, Ends, TransportConnection, StreamState, Going, Over, Run, run_of}

-- ---- own: the buffers of an assembly

-- the connection: the agreed size, and the data of the unfinished group, which are first in the
-- buffer
abbrev pub connection_of : Assembly → TransportConnection
connection_of a = record { size = a.size; group = take a.group a.buffer.items }

-- the unfinished frame, after the group
abbrev pub rest_of : Assembly → List ℕ
rest_of a = drop a.group a.buffer.items

-- the state of the stream, while octets are still accepted
abbrev pub stream_state_of : Assembly → StreamState
stream_state_of a = Going (connection_of a) (rest_of a)

-- The sizes that a request can agree, in octets.
pub record IsSize (size : ℕ) : Type 0 where
  pub some : 128 ≤ size
  pub few : size ≤ 65531

-- The invariant of an assembly: the group, and what was completed last, are within the limit of a
-- TSDU; an incomplete frame follows the group, shorter than the longest frame.
pub record IsSound (a : Assembly) : Type 0 where
  pub bounds : a.group ≤ length a.buffer.items
  pub few : a.group ≤ 70000
  pub begun : frame_prefix (rest_of a) ≡ Begun
  pub short : length (rest_of a) < 65535
  pub shown : length a.shown.items ≤ 70000
  pub sized : IfSome a.size IsSize

-- A complete frame follows the group, and nothing follows it.
pub record HoldsFrame (a : Assembly) : Type 0 where
  pub bounds : a.group ≤ length a.buffer.items
  pub few : a.group ≤ 70000
  pub whole : frame_prefix (rest_of a) ≡ Whole (length (rest_of a))
  pub shown : length a.shown.items ≤ 70000
  pub sized : IfSome a.size IsSize

-- The buffers are empty and have no capacity.
pub record HasNoRoom (a : Assembly) : Type 0 where
  pub buffer : vec_capacity a.buffer ≡ 0
  pub shown : vec_capacity a.shown ≡ 0
  pub nothing : a.shown.items ≡ []

-- the octets of the TPDU after its code
abbrev pub body_of : Assembly → List ℕ
body_of a = drop (a.group + 6) a.buffer.items

-- what was completed, as doings with the completed octets
abbrev pub doings_of_result : Got → Assembly → List Doing
doings_of_result More a = []
doings_of_result Answer a = Answers (unwrap_or a.size 0) a.shown.items ∷ []
doings_of_result Tsdu a = Delivers a.shown.items ∷ []
doings_of_result Ended a = Ends ∷ []

-- the state after a result of this kind: after an end it is `Over`
abbrev pub state_for_result : Got → StreamState → StreamState
state_for_result More left = left
state_for_result Answer left = left
state_for_result Tsdu left = left
state_for_result Ended left = Over

-- the doings of a result of this kind, and the state that the assembly represents
abbrev pub run_of_result : Got → Assembly → Run
run_of_result kind a =
    record { doings = doings_of_result kind a; state = state_for_result kind (stream_state_of a) }

-- If nothing is completed, what was completed last stays.
abbrev pub KeepsShown : Got → List ℕ → List ℕ → Type 0
KeepsShown More old new = new ≡ old
KeepsShown Answer old new = Unit {0}
KeepsShown Tsdu old new = Unit {0}
KeepsShown Ended old new = Unit {0}

-- A fault implies this condition, except `OutOfMemory`, which may always occur; `Failed` never
-- occurs here.
abbrev pub FaultImplies : TransportFault → Type 0 → Type 0
FaultImplies BadTpkt P = P
FaultImplies BadCotp P = P
FaultImplies ClassRefused P = P
FaultImplies TsduTooLong P = P
FaultImplies Failed P = ⊥
FaultImplies OutOfMemory P = Unit {0}

-- `used` octets of the piece are consumed: their doings are those of the result, and the octets
-- before the last of them complete nothing.
pub record StepConsumes (old : Assembly) (piece : List ℕ) (used : ℕ) (kind : Got) (new : Assembly)
    : Type 0 where
  pub within : used ≤ length piece
  pub moves : 0 < length piece → 0 < used
  pub does : run_of old.number (stream_state_of old) (take used piece) ≡ run_of_result kind new
  pub quiet : (run_of old.number (stream_state_of old) (take (used - 1) piece)).doings ≡ []

-- `used` octets of the piece are consumed, up to the end of the TPDU that completes something, or
-- of the piece: their doings are those of the result, and the octets before the last of them
-- complete nothing.
pub record AdvanceConsumes (old : Assembly) (piece : List ℕ) (used : ℕ) (kind : Got)
    (new : Assembly)
    : Type 0 where
  pub within : used ≤ length piece
  pub all : kind ≡ More → used ≡ length piece
  pub moves : (kind ≡ More → ⊥) → 0 < used
  pub does : run_of old.number (stream_state_of old) (take used piece) ≡ run_of_result kind new
  pub quiet : (kind ≡ More → ⊥)
      → (run_of old.number (stream_state_of old) (take (used - 1) piece)).doings ≡ []
