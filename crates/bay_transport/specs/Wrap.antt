-- The data TPDUs in which a TSDU is sent (X.224 13.7).
use Rattle.std.specs.Prelude.{ℕ, ◌≡◌, Some, zero, suc, ◌+◌, ◌-◌, ◌/◌, ◌≤◌, Bool, true, false, List, [], ◌∷◌, ◌++◌, length, take, drop, if◌then◌else◌}
use Rattle.bay_transport.specs.Frame.{cut_of}
use Rattle.bay_transport.specs.Connect.{frame_of}
use Rattle.bay_transport.specs.Doings.{Delivers, Going, run_of}

-- ---- X.224 13.7: data TPDUs

-- a data TPDU in its frame: bit 8 of its third octet is set on the last of a TSDU
abbrev pub data_frame : Bool → List ℕ → List ℕ
data_frame is_last octets = frame_of (2 ∷ 0xF0 ∷ (if is_last then 0x80 else 0x00) ∷ octets)

-- ---- X.224 6.3: segmenting

-- n full data TPDUs, followed by the last one
abbrev pub data_frames : ℕ → ℕ → List ℕ → List ℕ
data_frames room zero octets = data_frame true octets
data_frames room (suc full) octets =
    data_frame false (take room octets) ++ data_frames room full (drop room octets)

-- how many data TPDUs precede the last one, if each has room for `room` octets
abbrev pub full_tpdus : ℕ → List ℕ → ℕ
full_tpdus room octets = (length octets - 1) / room

-- The data TPDUs of a TSDU. A TPDU has three octets before its data.
abbrev pub tpdus_of : ℕ → List ℕ → List ℕ
tpdus_of size octets = data_frames (size - 3) (full_tpdus (size - 3) octets) octets

-- ---- own: how the sent octets are received

-- each frame holds a TPDU of at most this size, after four octets
abbrev pub AreWithin : ℕ → List (List ℕ) → Type 0
AreWithin size [] = Unit {0}
AreWithin size (frame ∷ frames) = (length frame ≤ size + 4) × AreWithin size frames

-- The octets are complete frames whose one doing is the TSDU, for any receiver that agreed this
-- size and has no unfinished group.
pub record Carries (size : ℕ) (tsdu octets : List ℕ) : Type 0 where
  pub does : (number : ℕ) → run_of number (Going (record { size = Some size; group = [] }) [])
      octets
      ≡ record {
        doings = Delivers tsdu ∷ [];
        state = Going (record { size = Some size; group = [] }) [];
      }
  pub within : AreWithin size (cut_of octets).frames
