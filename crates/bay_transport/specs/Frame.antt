-- The frames of a stream (RFC 1006 6): each is one TPKT.
use Rattle.std.specs.Prelude.{ℕ, zero, suc, ◌≡◌, ◌+◌, ◌-◌, ◌*◌, ◌≤◌, ◌==◌, List, [], ◌∷◌, ◌++◌, length, take, nat_lt, if◌then◌else◌}
use Rattle.bay_transport.specs.declared.frame.FramePrefix.{FramePrefix}
use Rattle.bay_transport.specs.declared.frame.FramePrefix.TheVariants.{Begun, NoFrame, Whole}
use Rattle.bay_transport.specs.declared.frame.Tpdu.{Tpdu}
use Rattle.bay_transport.specs.declared.frame.Tpdu.TheVariants.{Request, Data, Release, Unknown}

-- ---- RFC 1006 6: frames

-- the number of two octets, the high one first (own)
abbrev pub pair_of : ℕ → ℕ → ℕ
pair_of high low = high * 256 + low

-- the kind of a TPDU with this code, its whole second octet (X.224 13.1): CR E0, DT F0, DR 80, ER
-- 70
abbrev pub tpdu_of : ℕ → Tpdu
tpdu_of code =
    if code == 0xE0 then Request
    else (if code == 0xF0 then Data
    else (if code == 0x80 then Release else (if code == 0x70 then Release else Unknown)))

-- A frame is 03, any octet, the number of all its octets in two octets, which is 7 or more, and one
-- TPDU.
pub record IsFrame (frame : List ℕ) : Type 0 where
  pub reserved : ℕ
  pub high : ℕ
  pub low : ℕ
  pub tpdu : List ℕ
  pub spelled : frame ≡ 3 ∷ reserved ∷ high ∷ low ∷ tpdu
  pub counted : length frame ≡ pair_of high low
  pub some : 7 ≤ length frame

-- Each of these lists is one frame.
abbrev pub AreFrames : List (List ℕ) → Type 0
AreFrames [] = Unit {0}
AreFrames (frame ∷ frames) = IsFrame frame × AreFrames frames

-- ---- own: complete frames and a rest

-- these lists, one after another
abbrev pub concatenation : List (List ℕ) → List ℕ
concatenation [] = []
concatenation (xs ∷ lists) = xs ++ concatenation lists

-- complete frames, and the octets after them
pub record Cut : Type 0 where
  pub frames : List (List ℕ)
  pub rest : List ℕ

-- The octets are these complete frames, followed by a rest that begins with no complete frame.
pub record IsCut (octets : List ℕ) (cut : Cut) : Type 0 where
  pub whole : AreFrames cut.frames
  pub parts : octets ≡ concatenation cut.frames ++ cut.rest
  pub ended : (frame more : List ℕ) → IsFrame frame → cut.rest ≡ frame ++ more → ⊥

-- ---- own: cutting; a law proves that it agrees with the relation above

-- what octets begin with, from the length field of a frame and the number of octets received
abbrev pub of_length : ℕ → ℕ → FramePrefix
of_length frame have =
    if nat_lt frame 7 then NoFrame else (if nat_lt have frame then Begun else Whole frame)

-- what the octets begin with: a first octet other than 03, or a length below 7, begins no frame
-- (RFC 1006 6)
abbrev pub frame_prefix : List ℕ → FramePrefix
frame_prefix [] = Begun
frame_prefix (version ∷ []) = if version == 3 then Begun else NoFrame
frame_prefix (version ∷ reserved ∷ []) = if version == 3 then Begun else NoFrame
frame_prefix (version ∷ reserved ∷ high ∷ []) = if version == 3 then Begun else NoFrame
frame_prefix (version ∷ reserved ∷ high ∷ low ∷ octets) =
    if version == 3 then of_length (pair_of high low) (length octets + 4) else NoFrame

-- how many octets an incomplete frame still needs: up to the end of its length field, or after that
-- up to its end
abbrev pub missing_count : List ℕ → ℕ
missing_count [] = 4
missing_count (version ∷ []) = 3
missing_count (version ∷ reserved ∷ []) = 2
missing_count (version ∷ reserved ∷ high ∷ []) = 1
missing_count (version ∷ reserved ∷ high ∷ low ∷ octets) = pair_of high low - (length octets + 4)

-- how many octets of the frame follow its first one; 0 if there is no complete frame
abbrev pub length_of_rest : FramePrefix → ℕ
length_of_rest Begun = 0
length_of_rest NoFrame = 0
length_of_rest (Whole frame) = frame - 1

-- the complete frame that octets begin with, if any, followed by the later cut
abbrev pub with_frame_first : FramePrefix → List ℕ → Cut → Cut
with_frame_first Begun octets later = record { frames = []; rest = octets }
with_frame_first NoFrame octets later = record { frames = []; rest = octets }
with_frame_first (Whole frame) octets later =
    record { frames = take frame octets ∷ later.frames; rest = later.rest }

-- the cut of the octets after the first n
abbrev pub cut_after : ℕ → List ℕ → Cut
cut_after skipped [] = record { frames = []; rest = [] }
cut_after zero (x ∷ xs) =
    with_frame_first (frame_prefix (x ∷ xs)) (x ∷ xs)
    (cut_after (length_of_rest (frame_prefix (x ∷ xs))) xs)
cut_after (suc skipped) (x ∷ xs) = cut_after skipped xs

-- the cut of octets into complete frames and the rest
abbrev pub cut_of : List ℕ → Cut
cut_of octets = cut_after 0 octets
