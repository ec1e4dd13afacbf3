-- What octets come to does not hang on how they are cut into pieces.
use Rattle.std.proofs.Common.{◌≡◌, ℕ, ◌<◌, List, [], ◌∷◌, ◌++◌, length, take, drop, refl, sym, ap, ◌∙◌, arith}
use Rattle.std.proofs.lemmas.List.{append_assoc, length-append, take_all, drop_all, take-append-drop}
use Rattle.bay_transport.specs.declared.frame.FramePrefix.{FramePrefix}
use Rattle.bay_transport.specs.declared.frame.FramePrefix.TheVariants.{Begun, NoFrame, Whole}
use Rattle.bay_transport.specs.declared.fault.TransportFault.TheVariants.{BadTpkt}
use Rattle.bay_transport.specs.Frame.{frame_prefix, cut_of}
use Rattle.bay_transport.specs.Doings.{Fails, TransportConnection, StreamState, Going, Over, Broken, Run, TpduEffect, Joins, Finishes, Agrees, Closes, Refuses, effect_of, connection_after, run_with_effect, run_of_rest, frames_run, single_frame_run, run_of, and_then, Stream, doings, after}
use Rattle.bay_transport.proofs.FrameLemmas.{is_whole, none-append, front-part, cut-rest, cut-whole, cut-append}

rest-run : (f : FramePrefix) (number : ℕ) (connection : TransportConnection) (rest more : List ℕ)
    → frame_prefix rest ≡ f
    → frames_run number connection (cut_of (rest ++ more)).frames (cut_of (rest ++ more)).rest
    ≡ and_then number (run_of_rest (frame_prefix rest) connection rest) more
rest-run Begun number connection rest more e = rw e refl
rest-run (Whole k) number connection rest more e = rw e refl
rest-run NoFrame number connection rest more e =
    let n : frame_prefix (rest ++ more) ≡ NoFrame = none-append rest more e in
    rw (e, cut-rest NoFrame (rest ++ more) n (λ k h. cc), n) refl

effect-run : (effect : TpduEffect) (number : ℕ) (later longer : Run) (more : List ℕ)
    → longer ≡ and_then number later more
    → run_with_effect effect longer ≡ and_then number (run_with_effect effect later) more
effect-run (Joins group) number later longer more e = e
effect-run (Finishes group) number later longer more e = rw e refl
effect-run (Agrees size reply) number later longer more e = rw e refl
effect-run Closes number later longer more e = refl
effect-run (Refuses fault) number later longer more e = refl

frames_run-append : (number : ℕ) (connection : TransportConnection) (frames : List (List ℕ))
    (rest more : List ℕ)
    → frames_run number connection (frames ++ (cut_of (rest ++ more)).frames)
    (cut_of (rest ++ more)).rest
    ≡ and_then number (frames_run number connection frames rest) more
frames_run-append number connection [] rest more =
    rest-run (frame_prefix rest) number connection rest more refl
frames_run-append number connection (frame ∷ frames) rest more =
    effect-run (effect_of number connection frame) number _ _ more
    (frames_run-append number (connection_after (effect_of number connection frame) connection)
    frames rest more)

pub run-append : (number : ℕ) (left : StreamState) (octets more : List ℕ)
    → run_of number left (octets ++ more) ≡ and_then number (run_of number left octets) more
run-append number (Going connection rest) octets more =
    rw (← append_assoc rest octets more, cut-append (rest ++ octets) more)
    (frames_run-append number connection (cut_of (rest ++ octets)).frames
    (cut_of (rest ++ octets)).rest more)
run-append number Over octets more = refl
run-append number Broken octets more = refl

-- ---- one frame

pub run-begun : (number : ℕ) (connection : TransportConnection) (rest octets : List ℕ)
    → frame_prefix (rest ++ octets) ≡ Begun
    → run_of number (Going connection rest) octets
    ≡ record { doings = []; state = Going connection (rest ++ octets) }
run-begun number connection rest octets e =
    rw (cut-rest Begun (rest ++ octets) e (λ k h. cc), e) refl

pub run-none : (number : ℕ) (connection : TransportConnection) (rest octets more : List ℕ)
    → frame_prefix (rest ++ octets) ≡ NoFrame
    → run_of number (Going connection rest) (octets ++ more)
    ≡ record { doings = Fails BadTpkt ∷ []; state = Broken }
run-none number connection rest octets more e =
    let n : frame_prefix ((rest ++ octets) ++ more) ≡ NoFrame =
    none-append (rest ++ octets) more e in
    rw (
      ← append_assoc rest octets more,
      cut-rest NoFrame ((rest ++ octets) ++ more) n (λ k h. cc),
      n,
    ) refl

pub run-whole : (number : ℕ) (connection : TransportConnection) (rest octets : List ℕ)
    → frame_prefix (rest ++ octets) ≡ Whole (length (rest ++ octets))
    → run_of number (Going connection rest) octets
    ≡ single_frame_run (effect_of number connection (rest ++ octets)) connection
run-whole number connection rest octets e =
    let frame = rest ++ octets in
    rw (
      cut-whole frame (length frame) (is_whole frame (length frame) e),
      take_all (length frame) frame (omega arith),
      drop_all (length frame) frame (omega arith),
    )
    refl

-- less than the frame comes to nothing
pub run-part : (number : ℕ) (connection : TransportConnection) (rest octets more : List ℕ)
    → frame_prefix (rest ++ (octets ++ more)) ≡ Whole (length (rest ++ (octets ++ more)))
    → 0 < length more → (run_of number (Going connection rest) octets).doings ≡ []
run-part number connection rest octets more e some =
    let w = is_whole (rest ++ (octets ++ more)) (length (rest ++ (octets ++ more))) e in
    let few : length (rest ++ octets) < length (rest ++ (octets ++ more)) =
    omega (arith, length-append {A = ℕ}) in
    let begun : frame_prefix (rest ++ octets) ≡ Begun =
    front-part (rest ++ octets) more (length (rest ++ (octets ++ more)))
    (rw (append_assoc rest octets more) w) few in
    rw (run-begun number connection rest octets begun) refl

nil-front : {A : Type 0} (xs ys : List A) → xs ++ ys ≡ [] → xs ≡ []
nil-front [] ys e = refl
nil-front (x ∷ xs) ys e = absurd (cc)

-- what comes to nothing came to nothing before
pub run-front : (number : ℕ) (left : StreamState) (octets more : List ℕ)
    → (run_of number left (octets ++ more)).doings ≡ [] → (run_of number left octets).doings ≡ []
run-front number left octets more e =
    nil-front (run_of number left octets).doings
    (run_of number (run_of number left octets).state more).doings
    (rw (run-append number left octets more) at e)

-- ---- streams

pub doings-append : (s : Stream) (octets more : List ℕ)
    → doings s (octets ++ more) ≡ doings s octets ++ doings (after s octets) more
doings-append s octets more = ap (λ (r : Run). r.doings) (run-append s.number s.state octets more)

pub after-append : (s : Stream) (octets more : List ℕ)
    → after s (octets ++ more) ≡ after (after s octets) more
after-append s octets more =
    ap (λ (r : Run). let t : Stream = record { number = s.number; state = r.state } in t)
    (run-append s.number s.state octets more)

pub doings-take : (s : Stream) (octets : List ℕ) (used : ℕ)
    → doings s octets ≡ doings s (take used octets)
    ++ doings (after s (take used octets)) (drop used octets)
doings-take s octets used =
    ap (doings s) (sym (take-append-drop used octets))
    ∙ doings-append s (take used octets) (drop used octets)

pub after-take : (s : Stream) (octets : List ℕ) (used : ℕ)
    → after s octets ≡ after (after s (take used octets)) (drop used octets)
after-take s octets used =
    ap (after s) (sym (take-append-drop used octets))
    ∙ after-append s (take used octets) (drop used octets)
