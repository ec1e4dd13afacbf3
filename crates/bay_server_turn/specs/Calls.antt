-- The calls of a link, with their results.
use Rattle.std.specs.Prelude.{◌≡◌, ℕ, ◌+◌, ◌≤◌, Bool, true, false, if◌then◌else◌, min, List, [], ◌∷◌, length, take, Option, is_none, Result, Ok, Err}
use Rattle.std.specs.declared.net.socket_addr.SocketAddrV4.{SocketAddrV4}
use Rattle.bay_server_turn.specs.declared.link.ReadResult.{ReadResult}
use Rattle.bay_server_turn.specs.declared.link.ReadResult.TheVariants.{Bytes, Nothing, End}

-- the result of a read: octets, nothing yet, the end, or a failure
pub data ReadOutcome : Type 0 where
  Octets : List ℕ → ReadOutcome
  Silence : ReadOutcome
  StreamEnd : ReadOutcome
  Failure : ReadOutcome

-- One call, with the number of an association: an accept, with the address of the connection that
-- was accepted, if one waited; a read, with the octets that there was room for, and its result; a
-- write, with the octets offered, and how many of them the link took; a close. None is a failure.
pub data Call : Type 0 where
  Accepts : ℕ → Option (Option SocketAddrV4) → Call
  Reads : ℕ → ℕ → ReadOutcome → Call
  Writes : ℕ → List ℕ → Option ℕ → Call
  Closes : ℕ → Call

-- the outcome of a read, from its result and its room
abbrev pub read_outcome_of : {E : Type 0} → Result ReadResult E → List ℕ → ReadOutcome
read_outcome_of (Ok (Bytes n)) room = Octets (take n room)
read_outcome_of (Ok Nothing) room = Silence
read_outcome_of (Ok End) room = StreamEnd
read_outcome_of (Err e) room = Failure

-- a read returns no more octets than there is room for
abbrev pub FitsIn : {E : Type 0} → List ℕ → Result ReadResult E → Type 0
FitsIn room (Ok (Bytes n)) = n ≤ length room
FitsIn room (Ok Nothing) = Unit {0}
FitsIn room (Ok End) = Unit {0}
FitsIn room (Err e) = Unit {0}

-- the read failed
abbrev pub is_failure : ReadOutcome → Bool
is_failure (Octets xs) = false
is_failure Silence = false
is_failure StreamEnd = false
is_failure Failure = true

-- the call failed
abbrev pub is_failed : Call → Bool
is_failed (Accepts a taken) = is_none taken
is_failed (Reads a room what) = is_failure what
is_failed (Writes a octets taken) = is_none taken
is_failed (Closes a) = false

-- the number of failures after a call that may have failed, counted up to
-- 18,446,744,073,709,551,615
abbrev pub failures_after : ℕ → Bool → ℕ
failures_after n failed = if failed then min (n + 1) 18446744073709551615 else n

-- one call of a link, which counts its failures
pub record CountedCall {L : Type 0} (does : L → Call → L → Type 0) (failures : L → ℕ) (old : L)
    (call : Call) (new : L) : Type 0 where
  pub done : does old call new
  pub counted : failures new ≡ failures_after (failures old) (is_failed call)

-- these calls, each in the state of the link after the call before
abbrev pub MakesCalls : {L : Type 0} → (L → Call → L → Type 0) → L → List Call → L → Type 0
MakesCalls step old [] new = old ≡ new
MakesCalls {L} step old (call ∷ calls) new =
    (mid : L) × step old call mid × MakesCalls step mid calls new
