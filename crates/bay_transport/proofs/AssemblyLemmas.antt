-- The steps of the assembly, over plain lists.
use Rattle.std.proofs.Common.{◌≡◌, ℕ, zero, suc, ◌+◌, ◌-◌, ◌<◌, ◌≤◌, true, List, [], ◌∷◌, ◌++◌, length, take, drop, get_or, Option, Result, Ok, Err, refl, sym, ap, ◌∙◌, inl, inr, arith}
use Rattle.std.specs.Prelude.{IfErr, is_some}
use Rattle.std.proofs.lemmas.Bool.{lt-ltb, cases_lt}
use Rattle.std.proofs.lemmas.List.{append-nil, length-append, length-take-le, length-drop, drop_more, drop-drop, take-append-drop, take-take, drop-take, take_rest, get_or_read}
use Rattle.bay_transport.specs.declared.assembly.Assembly.{Assembly}
use Rattle.bay_transport.specs.declared.fed.Got.{Got}
use Rattle.bay_transport.specs.declared.fed.Got.TheVariants.{More}
use Rattle.bay_transport.specs.declared.frame.Tpdu.{Tpdu}
use Rattle.bay_transport.specs.declared.frame.FramePrefix.{FramePrefix}
use Rattle.bay_transport.specs.declared.frame.FramePrefix.TheVariants.{Begun, NoFrame, Whole}
use Rattle.bay_transport.specs.declared.fault.TransportFault.{TransportFault}
use Rattle.bay_transport.specs.declared.fault.TransportFault.TheVariants.{BadTpkt, BadCotp, ClassRefused, TsduTooLong, Failed, OutOfMemory}
use Rattle.bay_transport.specs.Frame.{pair_of, tpdu_of, frame_prefix, missing_count}
use Rattle.bay_transport.specs.Doings.{Fails, TransportConnection, StreamState, Broken, Run, TpduEffect, Refuses, effect_of, data_effect, kind_effect, single_frame_run, run_of}
use Rattle.bay_transport.specs.Assembly.{connection_of, rest_of, stream_state_of, body_of, HoldsFrame, run_of_result, FaultImplies, StepConsumes, AdvanceConsumes}
use Rattle.bay_transport.proofs.FrameLemmas.{is_whole, whole-within, whole-length, whole-part}
use Rattle.bay_transport.proofs.RunLemmas.{run-append, run-begun, run-none, run-whole, run-part, run-front}

-- ---- faults

pub fails-weaker : {P Q : Type 0} (fault : TransportFault) → (P → Q) → FaultImplies fault P
    → FaultImplies fault Q
fails-weaker BadTpkt f h = f h
fails-weaker BadCotp f h = f h
fails-weaker ClassRefused f h = f h
fails-weaker TsduTooLong f h = f h
fails-weaker Failed f h = h
fails-weaker OutOfMemory f h = tt

pub err_weaker : {X : Type 0} (result : Result X TransportFault) (P Q : TransportFault → Type 0)
    → ((fault : TransportFault) → P fault → Q fault)
    → IfErr result (λ fault. FaultImplies fault (P fault))
    → IfErr result (λ fault. FaultImplies fault (Q fault))
err_weaker (Ok x) P Q f h = tt
err_weaker (Err fault) P Q f h = fails-weaker fault (f fault) h

-- ---- one TPDU

pub three-parts : (octets : List ℕ) (at : ℕ) → at + 6 ≤ length octets
    → drop 4 (drop at octets)
    ≡ get_or octets (at + 4) 0 ∷ get_or octets (at + 5) 0 ∷ drop (at + 6) octets
three-parts octets at within =
    let a : at + 4 < length octets = omega arith in
    let b : at + 5 < length octets = omega arith in
    let p : at + 4 + 1 ≡ at + 5 = omega arith in
    let q : at + 5 + 1 ≡ at + 6 = omega arith in
    drop-drop 4 at octets ∙ drop_more octets (at + 4) 0 a
    ∙ ap (λ (n : ℕ). get_or octets (at + 4) 0 ∷ drop n octets) p
    ∙ ap (λ (ys : List ℕ). get_or octets (at + 4) 0 ∷ ys)
    (drop_more octets (at + 5) 0 b ∙ ap (λ (n : ℕ). get_or octets (at + 5) 0 ∷ drop n octets) q)

pub frame-behind : (octets : List ℕ) (at : ℕ) → at ≤ length octets
    → frame_prefix (drop at octets) ≡ Whole (length (drop at octets)) → at + 7 ≤ length octets
frame-behind octets at bounds whole =
    let some : 7 ≤ length (drop at octets) =
    (is_whole (drop at octets) (length (drop at octets)) whole).some in
    omega (arith, length-drop at octets)

effect-at : (number : ℕ) (connection : TransportConnection) (octets : List ℕ)
    (at indicator code : ℕ) → at + 6 ≤ length octets → indicator ≡ get_or octets (at + 4) 0
    → code ≡ get_or octets (at + 5) 0
    → effect_of number connection (drop at octets)
    ≡ kind_effect number connection (tpdu_of code) indicator (drop (at + 6) octets)
effect-at number connection octets at indicator code within i k =
    rw (three-parts octets at within, ← i, ← k) refl

-- the frame that the assembly holds, by the indicator and the code that are read
pub frame-effect : (a : Assembly) (indicator code : ℕ) (kind : Tpdu) → HoldsFrame a
    → indicator ≡ get_or a.buffer.items (a.group + 4) indicator
    → code ≡ get_or a.buffer.items (a.group + 5) code → kind ≡ tpdu_of code
    → effect_of a.number (connection_of a) (rest_of a)
    ≡ kind_effect a.number (connection_of a) kind indicator (body_of a)
frame-effect a indicator code kind holds i k is =
    let h : a.group + 7 ≤ length a.buffer.items =
    frame-behind a.buffer.items a.group holds.bounds holds.whole in
    rw is (effect-at a.number (connection_of a) a.buffer.items a.group indicator code (omega arith)
    (get_or_read a.buffer.items (a.group + 4) indicator (omega arith) i 0)
    (get_or_read a.buffer.items (a.group + 5) code (omega arith) k 0))

-- a group that gets too long
pub too_long : (size : Option ℕ) (octets : List ℕ) (at : ℕ) → is_some size ≡ true
    → at + 7 ≤ length octets → 70000 < length octets - 7
    → data_effect (record { size = size; group = take at octets }) 2 (drop (at + 6) octets)
    ≡ Refuses TsduTooLong
too_long size octets at there within long =
    let a : at + 6 < length octets = omega arith in
    let p : at + 6 + 1 ≡ at + 7 = omega arith in
    let e : drop (at + 6) octets ≡ get_or octets (at + 6) 0 ∷ drop (at + 7) octets =
    drop_more octets (at + 6) 0 a
    ∙ ap (λ (n : ℕ). get_or octets (at + 6) 0 ∷ drop n octets) p in
    let n : length (take at octets ++ drop (at + 7) octets) ≡ length octets - 7 =
    length-append (take at octets) (drop (at + 7) octets)
    ∙ rw (length-take-le at octets (omega arith), length-drop (at + 7) octets) (omega arith) in
    rw (e, there, n, lt-ltb 70000 (length octets - 7) long) refl

-- ---- steps

-- the beginning of a frame is shorter than the frame
begun-more : (rest octets : List ℕ) (k : ℕ) → frame_prefix rest ≡ Begun
    → frame_prefix (rest ++ octets) ≡ Whole k → length rest < k
begun-more rest octets k begun e =
    elim (cases_lt (length rest) k) [
      | inl few ↦ few
      | inr all ↦ absurd (let f : Begun ≡ Whole k =
          sym begun ∙ whole-part rest octets k (is_whole (rest ++ octets) k e) all in cc)
    ]

-- the octets that can follow the beginning of a frame do not pass its end
pub wanted-fits : (rest octets : List ℕ) (k : ℕ) → frame_prefix rest ≡ Begun
    → length octets ≤ missing_count rest → frame_prefix (rest ++ octets) ≡ Whole k
    → k ≡ length (rest ++ octets)
wanted-fits [] octets k begun few e = let w = is_whole octets k e in let some = w.some in let n =
    whole-within octets k w in absurd (omega arith)
wanted-fits (v ∷ []) octets k begun few e = let w = is_whole (v ∷ octets) k e in let some =
    w.some in let n = whole-within (v ∷ octets) k w in absurd (omega arith)
wanted-fits (v ∷ r ∷ []) octets k begun few e = let w = is_whole (v ∷ r ∷ octets) k e in let some =
    w.some in let n = whole-within (v ∷ r ∷ octets) k w in absurd (omega arith)
wanted-fits (v ∷ r ∷ h ∷ []) octets k begun few e = let w = is_whole (v ∷ r ∷ h ∷ octets) k e in
    let some = w.some in let n = whole-within (v ∷ r ∷ h ∷ octets) k w in absurd (omega arith)
wanted-fits (v ∷ r ∷ h ∷ l ∷ tpdu) octets k begun few e =
    let w = is_whole (v ∷ r ∷ h ∷ l ∷ (tpdu ++ octets)) k e in
    let counted : k ≡ pair_of h l = whole-length v r h l k (tpdu ++ octets) w in
    let n = whole-within (v ∷ r ∷ h ∷ l ∷ (tpdu ++ octets)) k w in
    let more : length (v ∷ r ∷ h ∷ l ∷ tpdu) < k =
    begun-more (v ∷ r ∷ h ∷ l ∷ tpdu) octets k begun e in
    omega (arith, length-append tpdu octets)

shorter : (octets : List ℕ) (used : ℕ)
    → take used octets ≡ take (used - 1) octets ++ drop (used - 1) (take used octets)
shorter octets used =
    sym (take-append-drop (used - 1) (take used octets))
    ∙ rw (take-take (used - 1) used octets (omega arith)) refl

pub takes-more : (old new : Assembly) (piece : List ℕ) (used : ℕ) → used ≤ length piece
    → (0 < length piece → 0 < used)
    → rest_of new ≡ rest_of old ++ take used piece → connection_of new ≡ connection_of old
    → frame_prefix (rest_of new) ≡ Begun → StepConsumes old piece used More new
takes-more old new piece used within moves rest connection begun =
    let b : frame_prefix (rest_of old ++ take used piece) ≡ Begun = rw (← rest) begun in
    let does : run_of old.number (stream_state_of old) (take used piece) ≡ run_of_result More new =
    rw (connection, rest) (run-begun old.number (connection_of old) (rest_of old)
    (take used piece) b) in
    record {
      within = within;
      moves = moves;
      does = does;
      quiet =
          run-front old.number (stream_state_of old) (take (used - 1) piece)
          (drop (used - 1) (take used piece))
          (rw (← shorter piece used) (ap (λ (r : Run). r.doings) does));
    }

used-some : (rest piece : List ℕ) (used : ℕ) → frame_prefix rest ≡ Begun
    → frame_prefix (rest ++ take used piece) ≡ Whole (length (rest ++ take used piece)) → 0 < used
used-some rest piece zero begun whole =
    absurd (let f : Begun ≡ Whole (length rest) = sym begun ∙ rw (append-nil rest) at whole in cc)
used-some rest piece (suc used) begun whole = omega arith

pub takes-frame : (old new : Assembly) (frame piece : List ℕ) (used : ℕ) (kind : Got)
    → used ≤ length piece → (0 < length piece → 0 < used)
    → frame ≡ rest_of old ++ take used piece → frame_prefix frame ≡ Whole (length frame)
    → frame_prefix (rest_of old) ≡ Begun
    → single_frame_run (effect_of old.number (connection_of old) frame) (connection_of old)
    ≡ run_of_result kind new → StepConsumes old piece used kind new
takes-frame old new frame piece used kind within moves rest whole begun does =
    let n : frame_prefix (rest_of old ++ take used piece)
    ≡ Whole (length (rest_of old ++ take used piece)) = rw (← rest) whole in
    let parts = shorter piece used in
    let some : 0 < used = used-some (rest_of old) piece used begun n in
    let left : length (drop (used - 1) (take used piece)) ≡ 1 =
    length-drop (used - 1) (take used piece)
    ∙ rw (length-take-le used piece within) (omega arith) in
    let more : 0 < length (drop (used - 1) (take used piece)) = omega arith in
    record {
      within = within;
      moves = moves;
      does = run-whole old.number (connection_of old) (rest_of old) (take used piece) n
          ∙ rw (← rest) does;
      quiet = run-part old.number (connection_of old) (rest_of old) (take (used - 1) piece)
          (drop (used - 1) (take used piece)) (rw (← parts) n) more;
    }

pub front-seen : (a : Assembly) (items : List ℕ) (f : FramePrefix) → items ≡ a.buffer.items
    → f ≡ frame_prefix (take (length items - a.group) (drop a.group items))
    → frame_prefix (rest_of a) ≡ f
front-seen a items f is seen =
    sym (seen ∙ ap frame_prefix (take_rest items a.group)
    ∙ ap (λ (ys : List ℕ). frame_prefix (drop a.group ys)) is)

-- a whole frame that is seen behind the group is all that stands there
pub whole-seen : (old new : Assembly) (piece : List ℕ) (used k : ℕ)
    → frame_prefix (rest_of old) ≡ Begun
    → used ≤ missing_count (rest_of old) → used ≤ length piece
    → rest_of new ≡ rest_of old ++ take used piece → frame_prefix (rest_of new) ≡ Whole k
    → frame_prefix (rest_of new) ≡ Whole (length (rest_of new))
whole-seen old new piece used k begun few within rest whole =
    let n : length (take used piece) ≡ used = length-take-le used piece within in
    let fits : k ≡ length (rest_of old ++ take used piece) =
    wanted-fits (rest_of old) (take used piece) k begun (omega arith) (rw (← rest) whole) in
    let all : k ≡ length (rest_of new) = rw rest fits in
    whole ∙ ap (λ (m : ℕ). Whole m) all

-- a frame that is refused
pub refuses-frame : (old : Assembly) (frame piece : List ℕ) (used : ℕ) (fault : TransportFault)
    → frame ≡ rest_of old ++ take used piece → frame_prefix frame ≡ Whole (length frame)
    → effect_of old.number (connection_of old) frame ≡ Refuses fault
    → (run_of old.number (stream_state_of old) piece).doings ≡ Fails fault ∷ []
refuses-frame old frame piece used fault rest whole effect =
    let n : frame_prefix (rest_of old ++ take used piece)
    ≡ Whole (length (rest_of old ++ take used piece)) = rw (← rest) whole in
    let r : run_of old.number (stream_state_of old) (take used piece)
    ≡ record { doings = Fails fault ∷ []; state = Broken } =
    run-whole old.number (connection_of old) (rest_of old) (take used piece) n
    ∙ ap (λ (ys : List ℕ). single_frame_run (effect_of old.number (connection_of old) ys)
    (connection_of old)) (sym rest)
    ∙ ap (λ (e : TpduEffect). single_frame_run e (connection_of old)) effect in
    ap (λ (ys : List ℕ). (run_of old.number (stream_state_of old) ys).doings)
    (sym (take-append-drop used piece))
    ∙ ap (λ (d : Run). d.doings)
    (run-append old.number (stream_state_of old) (take used piece) (drop used piece)) ∙ rw r refl

pub refuses-front : (old : Assembly) (begun piece : List ℕ) (used : ℕ)
    → begun ≡ rest_of old ++ take used piece → frame_prefix begun ≡ NoFrame
    → (run_of old.number (stream_state_of old) piece).doings ≡ Fails BadTpkt ∷ []
refuses-front old begun piece used rest none =
    ap (λ (ys : List ℕ). (run_of old.number (stream_state_of old) ys).doings)
    (sym (take-append-drop used piece))
    ∙ ap (λ (d : Run). d.doings)
    (run-none old.number (connection_of old) (rest_of old) (take used piece) (drop used piece)
    (rw (← rest) none))

same-effect : (old new : Assembly) (frame : List ℕ) → new.number ≡ old.number
    → connection_of new ≡ connection_of old
    → effect_of old.number (connection_of old) frame
    ≡ effect_of new.number (connection_of new) frame
same-effect old new frame number connection =
    ap (λ (n : ℕ). effect_of n (connection_of old) frame) (sym number)
    ∙ ap (λ (l : TransportConnection). effect_of new.number l frame) (sym connection)

same-alone : (old new : Assembly) (frame : List ℕ) → new.number ≡ old.number
    → connection_of new ≡ connection_of old
    → single_frame_run (effect_of old.number (connection_of old) frame) (connection_of old)
    ≡ single_frame_run (effect_of new.number (connection_of new) frame) (connection_of new)
same-alone old new frame number connection =
    ap (λ (e : TpduEffect). single_frame_run e (connection_of old))
    (same-effect old new frame number connection)
    ∙ ap (λ (l : TransportConnection). single_frame_run
    (effect_of new.number (connection_of new) frame) l)
    (sym connection)

-- octets are taken, and then the frame that they end is done
pub takes-whole : (old middle new : Assembly) (piece : List ℕ) (used k : ℕ) (kind : Got)
    → frame_prefix (rest_of old) ≡ Begun → used ≤ length piece → (0 < length piece → 0 < used)
    → used ≤ missing_count (rest_of old)
    → rest_of middle ≡ rest_of old ++ take used piece → connection_of middle ≡ connection_of old
    → middle.number ≡ old.number → frame_prefix (rest_of middle) ≡ Whole k
    → single_frame_run (effect_of middle.number (connection_of middle) (rest_of middle))
    (connection_of middle)
    ≡ run_of_result kind new → StepConsumes old piece used kind new
takes-whole old middle new piece used k kind begun within moves few rest connection number whole
    does =
    takes-frame old new (rest_of middle) piece used kind within moves rest
    (whole-seen old middle piece used k begun few within rest whole) begun
    (same-alone old middle (rest_of middle) number connection ∙ does)

pub refuses-whole : (old middle : Assembly) (piece : List ℕ) (used k : ℕ) (fault : TransportFault)
    → frame_prefix (rest_of old) ≡ Begun → used ≤ length piece → used ≤ missing_count (rest_of old)
    → rest_of middle ≡ rest_of old ++ take used piece → connection_of middle ≡ connection_of old
    → middle.number ≡ old.number → frame_prefix (rest_of middle) ≡ Whole k
    → FaultImplies fault (effect_of middle.number (connection_of middle) (rest_of middle)
    ≡ Refuses fault) → FaultImplies fault
    ((run_of old.number (stream_state_of old) piece).doings ≡ Fails fault ∷ [])
refuses-whole old middle piece used k fault begun within few rest connection number whole refused =
    fails-weaker fault (λ r. refuses-frame old (rest_of middle) piece used fault rest
    (whole-seen old middle piece used k begun few within rest whole)
    (same-effect old middle (rest_of middle) number connection ∙ r)) refused

-- ---- one step after another

take-add : (at more : ℕ) (xs : List ℕ) → take (at + more) xs ≡ take at xs ++ take more (drop at xs)
take-add at more xs =
    sym (take-append-drop at (take (at + more) xs))
    ∙ rw (take-take at (at + more) xs (omega arith), drop-take at more xs) refl

-- octets that came to nothing, and what comes next
pub run-quiet : (number : ℕ) (old middle : StreamState) (front octets : List ℕ)
    → run_of number old front ≡ record { doings = []; state = middle }
    → run_of number old (front ++ octets) ≡ run_of number middle octets
run-quiet number old middle front octets quiet = run-append number old front octets ∙ rw quiet refl

pub nothing-yet : (a : Assembly) → frame_prefix (rest_of a) ≡ Begun
    → run_of a.number (stream_state_of a) [] ≡ record { doings = []; state = stream_state_of a }
nothing-yet a begun =
    run-begun a.number (connection_of a) (rest_of a) [] (rw (append-nil (rest_of a)) begun)
    ∙ rw (append-nil (rest_of a)) refl

pub quiet-more : (old middle new : Assembly) (piece : List ℕ) (at used : ℕ)
    → middle.number ≡ old.number
    → run_of old.number (stream_state_of old) (take at piece)
    ≡ record { doings = []; state = stream_state_of middle }
    → StepConsumes middle (drop at piece) used More new
    → run_of old.number (stream_state_of old) (take (at + used) piece)
    ≡ record { doings = []; state = stream_state_of new }
quiet-more old middle new piece at used number quiet t =
    rw (take-add at used piece)
    (run-quiet old.number (stream_state_of old) (stream_state_of middle) (take at piece)
    (take used (drop at piece)) quiet
    ∙ ap (λ (n : ℕ). run_of n (stream_state_of middle) (take used (drop at piece))) (sym number)
    ∙ t.does)

pub reaches-kind : (old middle new : Assembly) (piece : List ℕ) (at used : ℕ) (kind : Got)
    → at < length piece → middle.number ≡ old.number
    → run_of old.number (stream_state_of old) (take at piece)
    ≡ record { doings = []; state = stream_state_of middle }
    → StepConsumes middle (drop at piece) used kind new → (kind ≡ More → ⊥)
    → AdvanceConsumes old piece (at + used) kind new
reaches-kind old middle new piece at used kind within number quiet t done =
    let n : length (drop at piece) ≡ length piece - at = length-drop at piece in
    let some : 0 < used = t.moves (omega arith) in
    let w = t.within in
    let e : at + used - 1 ≡ at + (used - 1) = omega arith in
    record {
      within = omega arith;
      all = λ more. absurd (done more);
      moves = λ _. omega arith;
      does = rw (take-add at used piece)
          (run-quiet old.number (stream_state_of old) (stream_state_of middle) (take at piece)
          (take used (drop at piece)) quiet
          ∙ ap (λ (n : ℕ). run_of n (stream_state_of middle) (take used (drop at piece)))
          (sym number)
          ∙ t.does);
      quiet =
          λ _. rw (e, take-add at (used - 1) piece)
          (ap (λ (d : Run). d.doings)
          (run-quiet old.number (stream_state_of old) (stream_state_of middle) (take at piece)
          (take (used - 1) (drop at piece)) quiet)
          ∙ ap (λ (n : ℕ). (run_of n (stream_state_of middle)
          (take (used - 1) (drop at piece))).doings)
          (sym number) ∙ t.quiet);
    }

pub reaches-end : (old new : Assembly) (piece : List ℕ) (at : ℕ) → at ≤ length piece
    → length piece ≤ at → run_of old.number (stream_state_of old) (take at piece)
    ≡ record { doings = []; state = stream_state_of new } → AdvanceConsumes old piece at More new
reaches-end old new piece at within all quiet =
    record {
      within = within;
      all = λ _. omega arith;
      moves = λ more. absurd (more refl);
      does = quiet;
      quiet = λ more. absurd (more refl);
    }

pub refuses-later : (old middle : Assembly) (piece : List ℕ) (at : ℕ) (fault : TransportFault)
    → middle.number ≡ old.number
    → run_of old.number (stream_state_of old) (take at piece)
    ≡ record { doings = []; state = stream_state_of middle }
    → FaultImplies fault ((run_of middle.number (stream_state_of middle) (drop at piece)).doings
    ≡ Fails fault ∷ []) → FaultImplies fault
    ((run_of old.number (stream_state_of old) piece).doings ≡ Fails fault ∷ [])
refuses-later old middle piece at fault number quiet refused =
    fails-weaker fault (λ r. ap
    (λ (ys : List ℕ). (run_of old.number (stream_state_of old) ys).doings)
    (sym (take-append-drop at piece))
    ∙ ap (λ (d : Run). d.doings)
    (run-quiet old.number (stream_state_of old) (stream_state_of middle) (take at piece)
    (drop at piece) quiet)
    ∙ ap (λ (n : ℕ). (run_of n (stream_state_of middle) (drop at piece)).doings) (sym number) ∙ r)
    refused
