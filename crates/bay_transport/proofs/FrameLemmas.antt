-- What stands at the front of octets, and how octets are cut into frames.
use Rattle.std.proofs.Common.{◌≡◌, ℕ, zero, suc, ◌+◌, ◌-◌, ◌<◌, ◌≤◌, List, [], ◌∷◌, ◌++◌, length, take, drop, refl, sym, ap, ◌∙◌, inl, inr, arith}
use Rattle.std.proofs.lemmas.Bool.{cases_lt, cases_eq, lt-ltb, le-ltb, ne_eqb}
use Rattle.std.proofs.lemmas.List.{length-append, append_assoc, take-append-drop, length-take-le, take_at, drop_at, take-append-le}
use Rattle.bay_transport.specs.declared.frame.FramePrefix.{FramePrefix}
use Rattle.bay_transport.specs.declared.frame.FramePrefix.TheVariants.{Begun, NoFrame, Whole}
use Rattle.bay_transport.specs.Frame.{pair_of, IsFrame, AreFrames, concatenation, Cut, IsCut, of_length, frame_prefix, cut_after, cut_of}

-- a whole frame of so many octets stands at the front
pub record IsWhole (octets : List ℕ) (frame : ℕ) : Type 0 where
  pub reserved : ℕ
  pub high : ℕ
  pub low : ℕ
  pub tpdu : List ℕ
  pub spelled : octets ≡ 3 ∷ reserved ∷ high ∷ low ∷ tpdu
  pub counted : frame ≡ pair_of high low
  pub some : 7 ≤ frame
  pub there : frame ≤ length tpdu + 4

of-length-whole : (n have k : ℕ) → of_length n have ≡ Whole k → (k ≡ n) × (7 ≤ n) × (n ≤ have)
of-length-whole n have k e =
    elim (cases_lt n 7) [
      | inl small ↦ absurd (let f : NoFrame ≡ Whole k = rw (lt-ltb n 7 small) at e in cc)
      | inr some ↦ elim (cases_lt have n) [
        | inl few ↦ absurd (let f : Begun ≡ Whole k =
            rw (le-ltb n 7 some, lt-ltb have n few) at e in cc)
        | inr all ↦ let f : Whole n ≡ Whole k = rw (le-ltb n 7 some, le-ltb have n all) at e in
            let g : n ≡ k = cc in (sym g, some, all)
      ]
    ]

pub whole-of-length : (n have : ℕ) → 7 ≤ n → n ≤ have → of_length n have ≡ Whole n
whole-of-length n have some all = rw (le-ltb n 7 some, le-ltb have n all) refl

pub is_whole : (octets : List ℕ) (k : ℕ) → frame_prefix octets ≡ Whole k → IsWhole octets k
is_whole [] k e = absurd (cc)
is_whole (v ∷ []) k e = absurd (grind arith)
is_whole (v ∷ r ∷ []) k e = absurd (grind arith)
is_whole (v ∷ r ∷ h ∷ []) k e = absurd (grind arith)
is_whole (v ∷ r ∷ h ∷ l ∷ tpdu) k e =
    elim (cases_eq v 3) [
      | inl is ↦
          let f : of_length (pair_of h l) (length tpdu + 4) ≡ Whole k = rw is at e in
          let w = of-length-whole (pair_of h l) (length tpdu + 4) k f in
          record {
            reserved = r;
            high = h;
            low = l;
            tpdu = tpdu;
            spelled = rw is refl;
            counted = w.0;
            some = omega arith;
            there = omega arith;
          }
      | inr ne ↦ absurd (let f : NoFrame ≡ Whole k = rw (ne_eqb v 3 ne) at e in cc)
    ]

pub whole-front : (octets : List ℕ) (k : ℕ) → IsWhole octets k → frame_prefix octets ≡ Whole k
whole-front octets k w =
    let counted = w.counted in
    rw w.spelled (whole-of-length (pair_of w.high w.low) (length w.tpdu + 4) (omega arith)
    (omega arith) ∙ ap (λ (n : ℕ). Whole n) (sym counted))

pub whole-within : (octets : List ℕ) (k : ℕ) → IsWhole octets k → k ≤ length octets
whole-within octets k w = rw w.spelled (let h = w.there in omega arith)

pub whole-append : (octets more : List ℕ) (k : ℕ) → IsWhole octets k → IsWhole (octets ++ more) k
whole-append octets more k w = record {
  reserved = w.reserved;
  high = w.high;
  low = w.low;
  tpdu = w.tpdu ++ more;
  spelled = rw w.spelled refl;
  counted = w.counted;
  some = w.some;
  there = let h = w.there in omega (arith, length-append w.tpdu more);
}

pub front-append : (octets more : List ℕ) (k : ℕ) → frame_prefix octets ≡ Whole k
    → frame_prefix (octets ++ more) ≡ Whole k
front-append octets more k e =
    whole-front (octets ++ more) k (whole-append octets more k (is_whole octets k e))

bad-first : (v : ℕ) (octets : List ℕ) → (v ≡ 3 → ⊥) → frame_prefix (v ∷ octets) ≡ NoFrame
bad-first v [] ne = rw (ne_eqb v 3 ne) refl
bad-first v (r ∷ []) ne = rw (ne_eqb v 3 ne) refl
bad-first v (r ∷ h ∷ []) ne = rw (ne_eqb v 3 ne) refl
bad-first v (r ∷ h ∷ l ∷ tpdu) ne = rw (ne_eqb v 3 ne) refl

of-length-none : (n have more : ℕ) → of_length n have ≡ NoFrame → of_length n more ≡ NoFrame
of-length-none n have more e =
    elim (cases_lt n 7) [
      | inl small ↦ rw (lt-ltb n 7 small) refl
      | inr some ↦ elim (cases_lt have n) [
        | inl few ↦ absurd (let f : Begun ≡ NoFrame =
            rw (le-ltb n 7 some, lt-ltb have n few) at e in cc)
        | inr all ↦ absurd (let f : Whole n ≡ NoFrame =
            rw (le-ltb n 7 some, le-ltb have n all) at e in cc)
      ]
    ]

-- octets that no frame begins with stay so
pub none-append : (octets more : List ℕ) → frame_prefix octets ≡ NoFrame
    → frame_prefix (octets ++ more) ≡ NoFrame
none-append [] more e = absurd (cc)
none-append (v ∷ []) more e =
    elim (cases_eq v 3) [
      | inl is ↦ absurd (let f : Begun ≡ NoFrame = rw is at e in cc)
      | inr ne ↦ bad-first v more ne
    ]
none-append (v ∷ r ∷ []) more e =
    elim (cases_eq v 3) [
      | inl is ↦ absurd (let f : Begun ≡ NoFrame = rw is at e in cc)
      | inr ne ↦ bad-first v (r ∷ more) ne
    ]
none-append (v ∷ r ∷ h ∷ []) more e =
    elim (cases_eq v 3) [
      | inl is ↦ absurd (let f : Begun ≡ NoFrame = rw is at e in cc)
      | inr ne ↦ bad-first v (r ∷ h ∷ more) ne
    ]
none-append (v ∷ r ∷ h ∷ l ∷ tpdu) more e =
    elim (cases_eq v 3) [
      | inl is ↦
          let f : of_length (pair_of h l) (length tpdu + 4) ≡ NoFrame = rw is at e in
          rw is (of-length-none (pair_of h l) (length tpdu + 4) (length (tpdu ++ more) + 4) f)
      | inr ne ↦ bad-first v (r ∷ h ∷ l ∷ (tpdu ++ more)) ne
    ]

-- less than a whole frame is the beginning of one
pub front-part : (octets more : List ℕ) (k : ℕ) → IsWhole (octets ++ more) k → length octets < k
    → frame_prefix octets ≡ Begun
front-part [] more k w few = refl
front-part (v ∷ []) more k w few = let s : v ∷ more ≡ 3 ∷ w.reserved ∷ w.high ∷ w.low ∷ w.tpdu =
    w.spelled in let e : v ≡ 3 = cc in rw e refl
front-part (v ∷ r ∷ []) more k w few =
    let s : v ∷ r ∷ more ≡ 3 ∷ w.reserved ∷ w.high ∷ w.low ∷ w.tpdu = w.spelled in let e : v ≡ 3 =
    cc in rw e refl
front-part (v ∷ r ∷ h ∷ []) more k w few =
    let s : v ∷ r ∷ h ∷ more ≡ 3 ∷ w.reserved ∷ w.high ∷ w.low ∷ w.tpdu =
    w.spelled in let e : v ≡ 3 = cc in rw e refl
front-part (v ∷ r ∷ h ∷ l ∷ tpdu) more k w few =
    let s : v ∷ r ∷ h ∷ l ∷ (tpdu ++ more) ≡ 3 ∷ w.reserved ∷ w.high ∷ w.low ∷ w.tpdu = w.spelled in
    let e : v ≡ 3 = cc in
    let eh : h ≡ w.high = cc in
    let el : l ≡ w.low = cc in
    let counted : k ≡ pair_of h l = rw (eh, el) w.counted in
    let some = w.some in
    rw (
      e,
      le-ltb (pair_of h l) 7 (omega arith),
      lt-ltb (length tpdu + 4) (pair_of h l) (omega arith),
    ) refl

pub whole-length : (v r h l k : ℕ) (tpdu : List ℕ) → IsWhole (v ∷ r ∷ h ∷ l ∷ tpdu) k
    → k ≡ pair_of h l
whole-length v r h l k tpdu w =
    let s : v ∷ r ∷ h ∷ l ∷ tpdu ≡ 3 ∷ w.reserved ∷ w.high ∷ w.low ∷ w.tpdu = w.spelled in
    let eh : h ≡ w.high = cc in
    let el : l ≡ w.low = cc in
    rw (eh, el) w.counted

-- a frame that is whole within a front of the octets stands there
pub whole-part : (octets more : List ℕ) (k : ℕ) → IsWhole (octets ++ more) k → k ≤ length octets
    → frame_prefix octets ≡ Whole k
whole-part [] more k w all = let some = w.some in absurd (omega arith)
whole-part (v ∷ []) more k w all = let some = w.some in absurd (omega arith)
whole-part (v ∷ r ∷ []) more k w all = let some = w.some in absurd (omega arith)
whole-part (v ∷ r ∷ h ∷ []) more k w all = let some = w.some in absurd (omega arith)
whole-part (v ∷ r ∷ h ∷ l ∷ tpdu) more k w all =
    let s : v ∷ r ∷ h ∷ l ∷ (tpdu ++ more) ≡ 3 ∷ w.reserved ∷ w.high ∷ w.low ∷ w.tpdu = w.spelled in
    let e : v ≡ 3 = cc in
    let eh : h ≡ w.high = cc in
    let el : l ≡ w.low = cc in
    let counted : k ≡ pair_of h l = rw (eh, el) w.counted in
    whole-front (v ∷ r ∷ h ∷ l ∷ tpdu) k
    (record {
      reserved = r;
      high = h;
      low = l;
      tpdu = tpdu;
      spelled = rw e refl;
      counted = counted;
      some = w.some;
      there = omega arith;
    })

-- ---- cutting

pub cut_behind-is : (k : ℕ) (octets : List ℕ) → cut_after k octets ≡ cut_of (drop k octets)
cut_behind-is (suc k) (x ∷ octets) = cut_behind-is k octets
cut_behind-is k octets = refl

-- one frame, and what stands behind it
abbrev pub first_cut : List ℕ → Cut → Cut
first_cut frame later = record { frames = frame ∷ later.frames; rest = later.rest }

pub drop-less : (k x : ℕ) (octets : List ℕ) → 0 < k → drop k (x ∷ octets) ≡ drop (k - 1) octets
drop-less zero x octets some = absurd (omega arith)
drop-less (suc k) x octets some = let e : k ≡ suc k - 1 =
    omega arith in ap (λ (n : ℕ). drop n octets) e

cut-whole-at : (x : ℕ) (octets : List ℕ) (k : ℕ) → 7 ≤ k → frame_prefix (x ∷ octets) ≡ Whole k
    → cut_of (x ∷ octets) ≡ first_cut (take k (x ∷ octets)) (cut_of (drop k (x ∷ octets)))
cut-whole-at x octets k some e =
    let some : 0 < k = omega arith in
    rw (e, cut_behind-is (k - 1) octets, drop-less k x octets some) refl

pub cut-whole : (octets : List ℕ) (k : ℕ) → IsWhole octets k
    → cut_of octets ≡ first_cut (take k octets) (cut_of (drop k octets))
cut-whole [] k w = absurd (let s : [] ≡ 3 ∷ w.reserved ∷ w.high ∷ w.low ∷ w.tpdu = w.spelled in cc)
cut-whole (x ∷ octets) k w = cut-whole-at x octets k w.some (whole-front (x ∷ octets) k w)

-- octets that begin with no whole frame are all rest
pub cut-rest : (f : FramePrefix) (octets : List ℕ) → frame_prefix octets ≡ f
    → ((k : ℕ) → f ≡ Whole k → ⊥)
    → cut_of octets ≡ record { frames = []; rest = octets }
cut-rest f [] e none = refl
cut-rest Begun (x ∷ octets) e none = rw e refl
cut-rest NoFrame (x ∷ octets) e none = rw e refl
cut-rest (Whole k) (x ∷ octets) e none = absurd (none k refl)

-- what is cut first, and then what the rest gives with more octets
abbrev pub cut_then : Cut → List ℕ → Cut
cut_then first more =
    record {
      frames = first.frames ++ (cut_of (first.rest ++ more)).frames;
      rest = (cut_of (first.rest ++ more)).rest;
    }

cut-append-at : (f : FramePrefix) (x : ℕ) (octets more : List ℕ) → frame_prefix (x ∷ octets) ≡ f
    → ((k : ℕ) → k ≤ length octets
    → cut_after k (octets ++ more) ≡ cut_then (cut_after k octets) more)
    → cut_of (x ∷ (octets ++ more)) ≡ cut_then (cut_of (x ∷ octets)) more
cut-append-at Begun x octets more e ih = rw e refl
cut-append-at NoFrame x octets more e ih = rw e refl
cut-append-at (Whole k) x octets more e ih =
    let w = is_whole (x ∷ octets) k e in
    let some = w.some in
    let within = whole-within (x ∷ octets) k w in
    let f : frame_prefix (x ∷ (octets ++ more)) ≡ Whole k = front-append (x ∷ octets) more k e in
    let t : take k (x ∷ (octets ++ more)) ≡ take k (x ∷ octets) =
    take-append-le k (x ∷ octets) more within in
    rw (e, f, ih (k - 1) (omega arith), t) refl

cut-append-behind : (k : ℕ) (octets more : List ℕ) → k ≤ length octets
    → cut_after k (octets ++ more) ≡ cut_then (cut_after k octets) more
cut-append-behind zero [] more within = refl
cut-append-behind (suc k) [] more within = absurd (omega arith)
cut-append-behind zero (x ∷ octets) more within =
    cut-append-at (frame_prefix (x ∷ octets)) x octets more refl
    (λ k. cut-append-behind k octets more)
cut-append-behind (suc k) (x ∷ octets) more within = cut-append-behind k octets more (omega arith)

pub cut-append : (octets more : List ℕ) → cut_of (octets ++ more) ≡ cut_then (cut_of octets) more
cut-append octets more = cut-append-behind 0 octets more (omega arith)

-- ---- in one way

pub frame-whole : (frame more : List ℕ) → IsFrame frame → IsWhole (frame ++ more) (length frame)
frame-whole frame more is = whole-append frame more (length frame) (record {
  reserved = is.reserved;
  high = is.high;
  low = is.low;
  tpdu = is.tpdu;
  spelled = is.spelled;
  counted = is.counted;
  some = is.some;
  there = let e : length frame ≡ length is.tpdu + 4 =
      ap length is.spelled ∙ omega arith in omega arith;
})

four-more : (k : ℕ) → 7 ≤ k → k ≡ suc (suc (suc (suc (k - 4))))
four-more k some = omega arith

take-four : (k a b d e : ℕ) (octets : List ℕ) → 7 ≤ k
    → take k (a ∷ b ∷ d ∷ e ∷ octets) ≡ a ∷ b ∷ d ∷ e ∷ take (k - 4) octets
take-four k a b d e octets some = ap (λ (n : ℕ). take n (a ∷ b ∷ d ∷ e ∷ octets)) (four-more k some)

pub is-frame : (octets : List ℕ) (k : ℕ) → IsWhole octets k → IsFrame (take k octets)
is-frame octets k w =
    let n : length (take k octets) ≡ k = length-take-le k octets (whole-within octets k w) in
    let some = w.some in
    record {
      reserved = w.reserved;
      high = w.high;
      low = w.low;
      tpdu = take (k - 4) w.tpdu;
      spelled = rw w.spelled (take-four k 3 w.reserved w.high w.low w.tpdu some);
      counted = n ∙ w.counted;
      some = omega arith;
    }

no-whole : (f : FramePrefix) (octets : List ℕ) → frame_prefix octets ≡ f
    → ((k : ℕ) → f ≡ Whole k → ⊥)
    → (frame more : List ℕ) → IsFrame frame → octets ≡ frame ++ more → ⊥
no-whole f octets e none frame more is parts =
    let w : frame_prefix octets ≡ Whole (length frame) =
    rw parts (whole-front (frame ++ more) (length frame) (frame-whole frame more is)) in
    none (length frame) (sym e ∙ w)

is-cut-at : (f : FramePrefix) (x : ℕ) (octets : List ℕ) → frame_prefix (x ∷ octets) ≡ f
    → ((k : ℕ) → k ≤ length octets → IsCut (drop k octets) (cut_after k octets))
    → IsCut (x ∷ octets) (cut_of (x ∷ octets))
is-cut-at Begun x octets e ih =
    rw e (record { whole = tt; parts = refl; ended = no-whole Begun (x ∷ octets) e (λ k h. cc) })
is-cut-at NoFrame x octets e ih =
    rw e (record { whole = tt; parts = refl; ended = no-whole NoFrame (x ∷ octets) e (λ k h. cc) })
is-cut-at (Whole k) x octets e ih =
    let w = is_whole (x ∷ octets) k e in
    let some = w.some in
    let within = whole-within (x ∷ octets) k w in
    let later = ih (k - 1) (omega arith) in
    let positive : 0 < k = omega arith in
    rw e (record {
      whole = (is-frame (x ∷ octets) k w, later.whole);
      parts =
          sym (take-append-drop k (x ∷ octets))
          ∙ ap (λ (ys : List ℕ). take k (x ∷ octets) ++ ys)
          (drop-less k x octets positive ∙ later.parts)
          ∙ sym (append_assoc (take k (x ∷ octets))
          (concatenation (cut_after (k - 1) octets).frames)
          (cut_after (k - 1) octets).rest);
      ended = later.ended;
    })

is-cut-behind : (k : ℕ) (octets : List ℕ) → k ≤ length octets
    → IsCut (drop k octets) (cut_after k octets)
is-cut-behind zero [] within =
    record { whole = tt; parts = refl; ended = no-whole Begun [] refl (λ k h. cc) }
is-cut-behind (suc k) [] within = absurd (omega arith)
is-cut-behind zero (x ∷ octets) within =
    is-cut-at (frame_prefix (x ∷ octets)) x octets refl (λ k. is-cut-behind k octets)
is-cut-behind (suc k) (x ∷ octets) within = is-cut-behind k octets (omega arith)

pub is-cut : (octets : List ℕ) → IsCut octets (cut_of octets)
is-cut octets = is-cut-behind 0 octets (omega arith)

frame-taken : (frame more : List ℕ) → take (length frame) (frame ++ more) ≡ frame
frame-taken frame more = take_at frame more (length frame) refl

frame-dropped : (frame more : List ℕ) → drop (length frame) (frame ++ more) ≡ more
frame-dropped frame more = drop_at frame more (length frame) refl

pub cut-frame : (frame more : List ℕ) → IsFrame frame
    → cut_of (frame ++ more) ≡ first_cut frame (cut_of more)
cut-frame frame more is =
    cut-whole (frame ++ more) (length frame) (frame-whole frame more is)
    ∙ rw (frame-taken frame more, frame-dropped frame more) refl

cut-of-rest : (f : FramePrefix) (rest : List ℕ) → frame_prefix rest ≡ f
    → ((frame more : List ℕ) → IsFrame frame → rest ≡ frame ++ more → ⊥)
    → cut_of rest ≡ record { frames = []; rest = rest }
cut-of-rest Begun rest e ended = cut-rest Begun rest e (λ k h. cc)
cut-of-rest NoFrame rest e ended = cut-rest NoFrame rest e (λ k h. cc)
cut-of-rest (Whole k) rest e ended =
    absurd (ended (take k rest) (drop k rest) (is-frame rest k (is_whole rest k e))
    (sym (take-append-drop k rest)))

only-frames : (frames : List (List ℕ)) (rest : List ℕ) → AreFrames frames
    → ((frame more : List ℕ) → IsFrame frame → rest ≡ frame ++ more → ⊥)
    → cut_of (concatenation frames ++ rest) ≡ record { frames = frames; rest = rest }
only-frames [] rest whole ended = cut-of-rest (frame_prefix rest) rest refl ended
only-frames (frame ∷ frames) rest whole ended =
    rw (
      append_assoc frame (concatenation frames) rest,
      cut-frame frame (concatenation frames ++ rest) whole.0,
      only-frames frames rest whole.1 ended,
    ) refl

pub only-cut : (octets : List ℕ) (c d : Cut) → IsCut octets c → IsCut octets d → c ≡ d
only-cut octets c d a b =
    sym (only-frames c.frames c.rest a.whole a.ended) ∙ ap cut_of (sym a.parts ∙ b.parts)
    ∙ only-frames d.frames d.rest b.whole b.ended
