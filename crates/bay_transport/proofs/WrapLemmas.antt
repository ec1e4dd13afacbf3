-- The data TPDUs of a TSDU, and what they come to.
use Rattle.std.proofs.Common.{◌≡◌, ℕ, zero, suc, ◌+◌, ◌-◌, ◌*◌, ◌/◌, ◌%◌, ◌<◌, ◌≤◌, Bool, true, false, cond, List, [], ◌∷◌, ◌++◌, length, take, drop, Some, refl, sym, ap, subst, ◌∙◌, arith}
use Rattle.std.proofs.lemmas.Bool.{le-ltb}
use Rattle.std.proofs.lemmas.List.{append-nil, append_assoc, length-append, length-take, length-drop, length-take-le, take-append-drop, take_at, drop_at, take_rest, drop-drop}
use Rattle.std.proofs.Math.Nat.{suc-mul, add-div_left, div-eq_of_lt, lt-div-mul-add}
use Rattle.bay_transport.specs.Connect.{frame_header}
use Rattle.bay_transport.specs.Frame.{IsFrame, Cut, cut_of}
use Rattle.bay_transport.specs.Doings.{Delivers, TransportConnection, Going, Joins, Finishes, effect_of, connection_after, run_with_effect, run_of}
use Rattle.bay_transport.specs.Wrap.{data_frame, data_frames, full_tpdus, tpdus_of, AreWithin, Carries}
use Rattle.bay_transport.proofs.FrameLemmas.{cut-frame}

-- ---- what is written

pub wrapped-last : (size : ℕ) (octets : List ℕ) → 3 < size → length octets ≤ size - 3
    → tpdus_of size octets ≡ data_frame true octets
wrapped-last size octets some few =
    let e : (length octets - 1) / (size - 3) ≡ 0 = div-eq_of_lt (omega arith) in
    rw e refl

pub wrapped-more : (size : ℕ) (octets : List ℕ) → 3 < size → size - 3 < length octets
    → tpdus_of size octets ≡ data_frame false (take (size - 3) octets)
    ++ tpdus_of size (drop (size - 3) octets)
wrapped-more size octets some more =
    let room = size - 3 in
    let n : length (drop room octets) ≡ length octets - room = length-drop room octets in
    let s : length octets - 1 ≡ room + (length (drop room octets) - 1) = omega arith in
    let p : 0 < room = omega arith in
    let d : (room + (length (drop room octets) - 1)) / room
    ≡ (length (drop room octets) - 1) / room + 1 =
    add-div_left (length (drop room octets) - 1) {k = room} p in
    let e : (length octets - 1) / room ≡ suc ((length (drop room octets) - 1) / room) =
    ap (λ (k : ℕ). k / room) s ∙ d ∙ omega arith in
    rw e refl

-- one more data TPDU
pub wrapped-step : (size at : ℕ) (octets before out next text : List ℕ) → 3 < size
    → at ≤ length octets → size - 3 < length octets - at
    → next ≡ out ++ data_frame false (take (at + (size - 3) - at) (drop at octets))
    → out ++ tpdus_of size (drop at octets) ≡ before ++ text
    → next ++ tpdus_of size (drop (at + (size - 3)) octets) ≡ before ++ text
wrapped-step size at octets before out next text some within more is same =
    let n : length (drop at octets) ≡ length octets - at = length-drop at octets in
    let m : at + (size - 3) - at ≡ size - 3 = omega arith in
    let w = wrapped-more size (drop at octets) some (omega arith) in
    let d : drop (size - 3) (drop at octets) ≡ drop (at + (size - 3)) octets =
    drop-drop (size - 3) at octets in
    rw (is, m, ← d) (append_assoc out (data_frame false (take (size - 3) (drop at octets)))
    (tpdus_of size (drop (size - 3) (drop at octets))) ∙ ap (λ (ys : List ℕ). out ++ ys) (sym w)
    ∙ same)

-- the last data TPDU
pub wrapped-end : (size at : ℕ) (octets before out all text : List ℕ) → 3 < size
    → at ≤ length octets → length octets - at ≤ size - 3
    → all ≡ out ++ data_frame true (take (length octets - at) (drop at octets))
    → out ++ tpdus_of size (drop at octets) ≡ before ++ text
    → all ≡ before ++ text
wrapped-end size at octets before out all text some within few is same =
    let n : length (drop at octets) ≡ length octets - at = length-drop at octets in
    let w = wrapped-last size (drop at octets) some (omega arith) in
    is ∙ ap (λ (ys : List ℕ). out ++ data_frame true ys) (take_rest octets at)
    ∙ ap (λ (ys : List ℕ). out ++ ys) (sym w) ∙ same

-- a front that the first data TPDU holds
pub wrapped-front : (size : ℕ) (front rest one all : List ℕ) → 3 < size → length front ≤ size - 3
    → size - 3 - length front < length rest
    → one ≡ data_frame false (front ++ take (size - 3 - length front) rest)
    → all ≡ one ++ tpdus_of size (drop (size - 3 - length front) rest)
    → all ≡ tpdus_of size (front ++ rest)
wrapped-front size front rest one all some fits more first is =
    let room = size - 3 in
    let k = room - length front in
    let parts : front ++ rest ≡ (front ++ take k rest) ++ drop k rest =
    ap (λ (ys : List ℕ). front ++ ys) (sym (take-append-drop k rest))
    ∙ sym (append_assoc front (take k rest) (drop k rest)) in
    let n : length (front ++ take k rest) ≡ room =
    omega (arith, length-append front (take k rest), length-take-le k rest) in
    let t : take room (front ++ rest) ≡ front ++ take k rest =
    ap (take room) parts ∙ take_at (front ++ take k rest) (drop k rest) room n in
    let d : drop room (front ++ rest) ≡ drop k rest =
    ap (drop room) parts ∙ drop_at (front ++ take k rest) (drop k rest) room n in
    let w = wrapped-more size (front ++ rest) some (omega (arith, length-append front rest)) in
    is ∙ rw (first, ← t, ← d) (sym w)

pub wrapped-alone : (size : ℕ) (front rest : List ℕ) → 3 < size → length front ≤ size - 3
    → length rest ≤ size - 3 - length front
    → data_frame true (front ++ rest) ≡ tpdus_of size (front ++ rest)
wrapped-alone size front rest some fits few =
    sym (wrapped-last size (front ++ rest) some (omega (arith, length-append front rest)))

-- what stands before a TSDU that one data TPDU holds
pub wrapped-behind : (size count : ℕ) (tsdu : List ℕ) → 3 < size → count ≤ size - 3
    → length tsdu ≡ count
    → frame_header (count + 3) ++ (2 ∷ 0xF0 ∷ 0x80 ∷ tsdu) ≡ tpdus_of size tsdu
wrapped-behind size count tsdu some few is =
    let n : count + 3 ≡ length (2 ∷ 0xF0 ∷ 0x80 ∷ tsdu) = omega arith in
    ap (λ (k : ℕ). frame_header k ++ (2 ∷ 0xF0 ∷ 0x80 ∷ tsdu)) n
    ∙ sym (wrapped-last size tsdu some (omega arith))

-- ---- what it comes to

is-data-frame : (is_last : Bool) (octets : List ℕ) → IsFrame (data_frame is_last octets)
is-data-frame is_last octets =
    let tpdu = 2 ∷ 0xF0 ∷ (cond is_last 0x80 0x00) ∷ octets in
    record {
      reserved = 0;
      high = (length tpdu + 4) / 256;
      low = (length tpdu + 4) % 256;
      tpdu = tpdu;
      spelled = refl;
      counted = omega arith;
      some = omega arith;
    }

run-frame : (number : ℕ) (connection : TransportConnection) (is_last : Bool) (octets more : List ℕ)
    → run_of number (Going connection []) (data_frame is_last octets ++ more)
    ≡ run_with_effect (effect_of number connection (data_frame is_last octets))
    (run_of number
    (Going (connection_after (effect_of number connection (data_frame is_last octets)) connection)
    []) more)
run-frame number connection is_last octets more =
    rw (cut-frame (data_frame is_last octets) more (is-data-frame is_last octets)) refl

joins : (number size : ℕ) (group octets : List ℕ) → length (group ++ octets) ≤ 70000
    → effect_of number (record { size = Some size; group = group }) (data_frame false octets)
    ≡ Joins (group ++ octets)
joins number size group octets few = rw (le-ltb 70000 (length (group ++ octets)) few) refl

finishes : (number size : ℕ) (group octets : List ℕ) → length (group ++ octets) ≤ 70000
    → effect_of number (record { size = Some size; group = group }) (data_frame true octets)
    ≡ Finishes (group ++ octets)
finishes number size group octets few = rw (le-ltb 70000 (length (group ++ octets)) few) refl

pub run-data_frames : (number size room full : ℕ) (group octets : List ℕ)
    → length (group ++ octets) ≤ 70000
    → run_of number (Going (record { size = Some size; group = group }) [])
    (data_frames room full octets)
    ≡ record {
      doings = Delivers (group ++ octets) ∷ [];
      state = Going (record { size = Some size; group = [] }) [];
    }
run-data_frames number size room zero group octets few =
    ap (run_of number (Going (record { size = Some size; group = group }) []))
    (sym (append-nil (data_frame true octets)))
    ∙ run-frame number (record { size = Some size; group = group }) true octets []
    ∙ rw (finishes number size group octets few) refl
run-data_frames number size room (suc full) group octets few =
    let front = take room octets in
    let behind = drop room octets in
    let parts : (group ++ front) ++ behind ≡ group ++ octets =
    append_assoc group front behind
    ∙ ap (λ (ys : List ℕ). group ++ ys) (take-append-drop room octets) in
    let all : length ((group ++ front) ++ behind) ≤ 70000 = rw parts few in
    let some : length (group ++ front) ≤ 70000 =
    omega (arith, length-append (group ++ front) behind) in
    run-frame number (record { size = Some size; group = group }) false front
    (data_frames room full behind)
    ∙ rw (joins number size group front some)
    (run-data_frames number size room full (group ++ front) behind all ∙ rw parts refl)

length-data_frame : (is_last : Bool) (octets : List ℕ)
    → length (data_frame is_last octets) ≡ length octets + 7
length-data_frame is_last octets = omega arith

frames-one : (octets more : List ℕ) (is_last : Bool)
    → (cut_of (data_frame is_last octets ++ more)).frames
    ≡ data_frame is_last octets ∷ (cut_of more).frames
frames-one octets more is_last =
    ap (λ (c : Cut). c.frames)
    (cut-frame (data_frame is_last octets) more (is-data-frame is_last octets))

within-frames : (size full : ℕ) (octets : List ℕ) → 3 < size
    → length octets ≤ full * (size - 3) + (size - 3)
    → AreWithin size (cut_of (data_frames (size - 3) full octets)).frames
within-frames size zero octets some few =
    let e : (cut_of (data_frame true octets)).frames ≡ data_frame true octets ∷ [] =
    ap (λ (ys : List ℕ). (cut_of ys).frames) (sym (append-nil (data_frame true octets)))
    ∙ frames-one octets [] true in
    let P : List (List ℕ) → Type 0 = λ frames. AreWithin size frames in
    subst P (sym e) (omega (arith, length-data_frame true octets), tt)
within-frames size (suc full) octets some few =
    let room = size - 3 in
    let front = take room octets in
    let e : (cut_of (data_frame false front ++ data_frames room full (drop room octets))).frames
    ≡ data_frame false front ∷ (cut_of (data_frames room full (drop room octets))).frames =
    frames-one front (data_frames room full (drop room octets)) false in
    let P : List (List ℕ) → Type 0 = λ frames. AreWithin size frames in
    let n : length (drop room octets) ≡ length octets - room = length-drop room octets in
    let m : length front ≤ room = omega (arith, length-take room octets) in
    let k : suc full * room ≡ full * room + room = suc-mul full room in
    subst P (sym e) (
      omega (arith, length-data_frame false front),
      within-frames size full (drop room octets) some (omega arith),
    )

-- the TPDUs that are written carry the TSDU
pub carries : (size : ℕ) (tsdu octets : List ℕ) → 3 < size → length tsdu ≤ 70000
    → octets ≡ tpdus_of size tsdu → Carries size tsdu octets
carries size tsdu octets some few is =
    let room = size - 3 in
    let positive : 0 < room = omega arith in
    let q : length tsdu - 1 < (length tsdu - 1) / room * room + room =
    lt-div-mul-add {a = length tsdu - 1} {b = room} positive in
    rw is (record {
      does = λ number. run-data_frames number size room (full_tpdus room tsdu) [] tsdu few;
      within = within-frames size (full_tpdus room tsdu) tsdu some (omega arith);
    })
