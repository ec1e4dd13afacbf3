-- The doings of the octets of a stream (RFC 1006 6, X.224 13), defined over whole lists.
use Rattle.std.specs.Prelude.{ℕ, ◌/◌, ◌%◌, ◌==◌, List, [], ◌∷◌, ◌++◌, length, drop, Option, Some, None, Result, Ok, Err, is_some, nat_lt, if◌then◌else◌}
use Rattle.bay_transport.specs.declared.fault.TransportFault.{TransportFault}
use Rattle.bay_transport.specs.declared.fault.TransportFault.TheVariants.{BadTpkt, BadCotp, TsduTooLong}
use Rattle.bay_transport.specs.declared.frame.FramePrefix.{FramePrefix}
use Rattle.bay_transport.specs.declared.frame.FramePrefix.TheVariants.{Begun, NoFrame, Whole}
use Rattle.bay_transport.specs.declared.frame.Tpdu.{Tpdu}
use Rattle.bay_transport.specs.declared.frame.Tpdu.TheVariants.{Request, Data, Release, Unknown}
use Rattle.bay_transport.specs.Frame.{tpdu_of, frame_prefix, cut_of}
use Rattle.bay_transport.specs.Connect.{Confirmation, connect}

-- ---- own: the doings of octets

-- a doing: one thing that octets complete. A size of TPDUs is agreed, with the answer to the
-- request for it; a TSDU is complete; the connection ends; or a fault.
pub data Doing : Type 0 where
  Answers : ℕ → List ℕ → Doing
  Delivers : List ℕ → Doing
  Ends : Doing
  Fails : TransportFault → Doing

-- the state of a connection after complete TPDUs: the agreed size, if there was a request, and the
-- joined data of an unfinished group
pub record TransportConnection : Type 0 where
  pub size : Option ℕ
  pub group : List ℕ

-- the state of a stream after octets: the state after their complete TPDUs, and the rest after
-- these; or that the connection ended or failed
pub data StreamState : Type 0 where
  Going : TransportConnection → List ℕ → StreamState
  Over : StreamState
  Broken : StreamState

-- the doings of octets, in order, and the state after them
pub record Run : Type 0 where
  pub doings : List Doing
  pub state : StreamState

-- the effect of one TPDU: its data join the group, or complete it; a size is agreed, and the
-- request answered; the connection ends; or the TPDU is refused
pub data TpduEffect : Type 0 where
  Joins : List ℕ → TpduEffect
  Finishes : List ℕ → TpduEffect
  Agrees : ℕ → List ℕ → TpduEffect
  Closes : TpduEffect
  Refuses : TransportFault → TpduEffect

-- the effect of a request for a connection, from its confirmation
abbrev pub connect_effect : Result Confirmation TransportFault → TpduEffect
connect_effect (Ok c) = Agrees c.size c.reply
connect_effect (Err fault) = Refuses fault

-- ---- X.224 13.7: data TPDUs

-- The effect of a data TPDU whose data extend the group to this one, and whose third octet is
-- `mark`: at most 70,000 octets are joined, and bit 8 of the mark is set on the last TPDU of a
-- group (X.224 13.7).
abbrev pub group_effect : ℕ → List ℕ → TpduEffect
group_effect mark group =
    if nat_lt 70000 (length group) then Refuses TsduTooLong
    else (if (mark / 128) % 2 == 1 then Finishes group else Joins group)

-- the effect of a data TPDU, from its length indicator and the octets after its code: it must
-- follow a request, its length indicator is 2, and its data fill the frame
abbrev pub data_effect : TransportConnection → ℕ → List ℕ → TpduEffect
data_effect connection indicator [] = Refuses BadCotp
data_effect connection indicator (mark ∷ octets) =
    if indicator == 2
    then (if is_some connection.size then group_effect mark (connection.group ++ octets)
    else Refuses BadCotp)
    else Refuses BadCotp

-- ---- X.224 13.2: TPDUs

-- the effect of a TPDU of a kind, from its length indicator and the octets after its code
abbrev pub kind_effect : ℕ → TransportConnection → Tpdu → ℕ → List ℕ → TpduEffect
kind_effect number connection Request indicator octets =
    connect_effect (connect number (is_some connection.size) indicator octets)
kind_effect number connection Data indicator octets = data_effect connection indicator octets
kind_effect number connection Release indicator octets = Closes
kind_effect number connection Unknown indicator octets = Refuses BadCotp

-- the effect of a TPDU: its length indicator, its code, and the rest (X.224 13.2)
abbrev pub tpdu_effect : ℕ → TransportConnection → List ℕ → TpduEffect
tpdu_effect number connection [] = Refuses BadCotp
tpdu_effect number connection (indicator ∷ []) = Refuses BadCotp
tpdu_effect number connection (indicator ∷ code ∷ octets) =
    kind_effect number connection (tpdu_of code) indicator octets

-- the effect of a frame, which holds its TPDU after four octets (RFC 1006 6)
abbrev pub effect_of : ℕ → TransportConnection → List ℕ → TpduEffect
effect_of number connection frame = tpdu_effect number connection (drop 4 frame)

-- ---- own: runs of frames and octets

-- the state of a connection after a TPDU with this effect
abbrev pub connection_after : TpduEffect → TransportConnection → TransportConnection
connection_after (Joins group) connection = record { size = connection.size; group = group }
connection_after (Finishes group) connection = record { size = connection.size; group = [] }
connection_after (Agrees size reply) connection =
    record { size = Some size; group = connection.group }
connection_after Closes connection = connection
connection_after (Refuses fault) connection = connection

-- the run of a TPDU with this effect, followed by a later run; nothing follows an end or a refusal
abbrev pub run_with_effect : TpduEffect → Run → Run
run_with_effect (Joins group) later = later
run_with_effect (Finishes group) later =
    record { doings = Delivers group ∷ later.doings; state = later.state }
run_with_effect (Agrees size reply) later =
    record { doings = Answers size reply ∷ later.doings; state = later.state }
run_with_effect Closes later = record { doings = Ends ∷ []; state = Over }
run_with_effect (Refuses fault) later = record { doings = Fails fault ∷ []; state = Broken }

-- the run of the rest after the last complete frame, by what it begins with
abbrev pub run_of_rest : FramePrefix → TransportConnection → List ℕ → Run
run_of_rest Begun connection rest = record { doings = []; state = Going connection rest }
run_of_rest NoFrame connection rest = record { doings = Fails BadTpkt ∷ []; state = Broken }
run_of_rest (Whole frame) connection rest = record { doings = []; state = Going connection rest }

-- the run of complete frames and a rest: the rest is refused as soon as it can't begin a frame
abbrev pub frames_run : ℕ → TransportConnection → List (List ℕ) → List ℕ → Run
frames_run number connection [] rest = run_of_rest (frame_prefix rest) connection rest
frames_run number connection (frame ∷ frames) rest =
    run_with_effect (effect_of number connection frame)
    (frames_run number (connection_after (effect_of number connection frame) connection) frames
    rest)

-- The run of octets, from a state of the stream: the rest and the octets after it are cut into
-- frames.
abbrev pub run_of : ℕ → StreamState → List ℕ → Run
run_of number (Going connection rest) octets =
    frames_run number connection (cut_of (rest ++ octets)).frames (cut_of (rest ++ octets)).rest
run_of number Over octets = record { doings = []; state = Over }
run_of number Broken octets = record { doings = []; state = Broken }

-- the run of one frame with this effect, and no more octets
abbrev pub single_frame_run : TpduEffect → TransportConnection → Run
single_frame_run effect connection =
    run_with_effect effect (record
    { doings = []; state = Going (connection_after effect connection) [] })

-- a run, followed by the run of more octets from its state
abbrev pub and_then : ℕ → Run → List ℕ → Run
and_then number first octets =
    record {
      doings = first.doings ++ (run_of number first.state octets).doings;
      state = (run_of number first.state octets).state;
    }

-- a stream on the association of this number, after some octets
pub record Stream : Type 0 where
  pub number : ℕ
  pub state : StreamState

-- the state before any octet
abbrev pub stream_start : StreamState
stream_start = Going (record { size = None; group = [] }) []

-- the doings of octets, from the state of a stream
abbrev pub doings : Stream → List ℕ → List Doing
doings s octets = (run_of s.number s.state octets).doings

-- the stream after octets
abbrev pub after : Stream → List ℕ → Stream
after s octets = record { number = s.number; state = (run_of s.number s.state octets).state }
