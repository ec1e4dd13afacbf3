-- Lemmas on the releases that a process is told.
use Rattle.std.proofs.Common.{◌≡◌, ℕ, zero, suc, ◌+◌, ◌-◌, ◌<◌, ◌==◌, nat_le, Bool, if◌then◌else◌, true, false, List, [], ◌∷◌, ◌++◌, length, map, replicate, drop, get_or, add-one, nat_lt, slice_get, Option, None, Some, is_some, Result, Ok, Err, refl, sym, ap, ap₂, ◌∙◌, subst, arith, append_assoc, append-nil}
use Rattle.std.proofs.lemmas.Bool.{and_parts}
use Rattle.std.proofs.Math.Seq.{drop-cons}
use Rattle.std.proofs.lemmas.Bool.Decides.{nat_tests}
use Rattle.std.proofs.lemmas.List.FromFn.{get_or-map-range_with_len, length-map-range_with_len}
use Rattle.std.specs.Bool.{beq}
use Rattle.std.specs.List.{range_with_len}
use Rattle.std.specs.declared.net.socket_addr.SocketAddrV4.{SocketAddrV4}
use Rattle.bay_device.specs.Device.{State}
use Rattle.bay_device.specs.LookUps.{enabled_of, may_close, may_open}
use Rattle.bay_lines.specs.FirstLines.{LineSearchData, Overlong, Waiting, Whole, first_line_of}
use Rattle.bay_process_port.specs.Polling.{PollPart, Script, accept_outcome, all_output, outcome_by_presence, and_then, closed_or_open, first_part, greet_part, offer_part, offer_queue, on_read, read_part, opened_or_closed, exchange_part, with_report_queued}
use Rattle.bay_process_port.specs.Fit.{is_waiting}
use Rattle.bay_process_port.specs.Ports.{PortData, with_no_data, empty_port, judge_port, presence_reading, judged_reading}
use Rattle.bay_process_port.specs.Releases.{ReleaseData, is_same, last_release_sent, no_releases_sent, release_part, releases_text, release_at, releases_from, new_releases, sent_releases_after}
use Rattle.bay_process_port.specs.ProcessOutput.{ReportedTurn, fits_in, greeting_text}
use Rattle.bay_process_port.specs.Uses.{IsUpToDate, StaysPresent, Use, Takes, Polls, after_uses, all_releases_sent, port_after, releases_sent_as, releases_sent}
use Rattle.bay_process_port.specs.Supervised.{SupervisionSettings, after_alive_answer, active_at}
use Rattle.bay_process_port.specs.declared.connection_event.DisconnectReason.{DisconnectReason}
use Rattle.bay_process_port.specs.declared.connection_event.DisconnectReason.TheVariants.{QueueFull}
use Rattle.bay_process_port.specs.declared.supervision.TimedMessage.{TimedMessage}
use Rattle.bay_process_port.specs.declared.port.Presence.{Presence}
use Rattle.bay_process_port.specs.declared.port.Presence.TheVariants.{Absent, LossPending, Dismissed, Present}
use Rattle.bay_server_turn.specs.Calls.{Call, ReadOutcome, Octets, Silence, StreamEnd, Failure}

-- ---- as text

releases-append : (s : State) (xs ys : List (ℕ × ReleaseData))
    → releases_text s (xs ++ ys) ≡ releases_text s xs ++ releases_text s ys
releases-append s [] ys = refl
releases-append s (x ∷ xs) ys =
    let line = release_part x.1 (slice_get s.switches x.0) in
    ap (λ l. line ++ l) (releases-append s xs ys)
    ∙ sym (append_assoc line (releases_text s xs) (releases_text s ys))

-- the next switch
pub changes-turn : (s : State) (sent : List (Option ReleaseData)) (k : ℕ) (d : Option ReleaseData)
    → k < length sent → releases_text s (releases_from s k (drop k sent))
    ≡ releases_text s (release_at k (get_or sent k d) (enabled_of s k))
    ++ releases_text s (releases_from s (k + 1) (drop (k + 1) sent))
changes-turn s sent k d lt =
    let next : drop k sent ≡ get_or sent k d ∷ drop (k + 1) sent =
    rw (add-one, drop-cons sent k d) refl in
    ap (λ l. releases_text s (releases_from s k l)) next
    ∙ releases-append s (release_at k (get_or sent k d) (enabled_of s k))
    (releases_from s (k + 1) (drop (k + 1) sent))

-- ---- the last that was said of a switch

last-append : (k : ℕ) (last : Option ReleaseData) (xs ys : List (ℕ × ReleaseData))
    → last_release_sent k last (xs ++ ys) ≡ last_release_sent k (last_release_sent k last xs) ys
last-append k last [] ys = refl
last-append k last (x ∷ xs) ys = last-append k (if x.0 == k then Some x.1 else last) xs ys

same-truth : (a b : Bool) → beq a b ≡ true → a ≡ b
same-truth true true e = refl
same-truth true false e = absurd cc
same-truth false true e = absurd cc
same-truth false false e = refl

same-release : (a b : ReleaseData) → is_same (Some a) b ≡ true → a ≡ b
same-release a b e =
    let both = and_parts (beq a.0 b.0) (beq a.1 b.1) e in
    ap₂ (λ x y. (x, y)) (same-truth a.0 b.0 both.0) (same-truth a.1 b.1 both.1)

-- another switch
other-said : (k j : ℕ) (sent last now : Option ReleaseData) → (j == k) ≡ false
    → last_release_sent k last (release_at j sent now) ≡ last
other-said k j sent last None other = refl
other-said k j sent last (Some release) other = by-same (is_same sent release)
  where
    by-same : (v : Bool) → last_release_sent k last (if v then [] else (j, release) ∷ []) ≡ last
    by-same true = refl
    by-same false = rw other refl

-- the switch itself, of which the last that was told is known
same-said : (k : ℕ) (sent last : Option ReleaseData) (release : ReleaseData)
    → ((r : ReleaseData) → sent ≡ Some r → last ≡ Some r)
    → last_release_sent k last (release_at k sent (Some release)) ≡ Some release
same-said k sent last release knows = by-told sent refl
  where
    here : (k == k) ≡ true
    here = grind (arith, nat_tests)

    by-told : (o : Option ReleaseData) → sent ≡ o
        → last_release_sent k last (release_at k o (Some release)) ≡ Some release
    by-told None is = rw here refl
    by-told (Some r) is = by-same (is_same (Some r) release) refl
      where
        by-same : (v : Bool) → is_same (Some r) release ≡ v
            → last_release_sent k last (if v then [] else (k, release) ∷ []) ≡ Some release
        by-same true same = knows r is ∙ ap Some (same-release r release same)
        by-same false same = rw here refl

later-said : (s : State) (k j : ℕ) (last : Option ReleaseData) (sent : List (Option ReleaseData))
    → k < j
    → last_release_sent k last (releases_from s j sent) ≡ last
later-said s k j last [] lt = refl
later-said s k j last (one ∷ sent) lt =
    let rest = releases_from s (j + 1) sent in
    let other : (j == k) ≡ false = grind (arith, nat_tests) in
    last-append k last (release_at j one (enabled_of s j)) rest
    ∙ ap (λ l. last_release_sent k l rest) (other-said k j one last (enabled_of s j) other)
    ∙ later-said s k (j + 1) last sent (omega arith)

place-said : (s : State) (j i k : ℕ) (last : Option ReleaseData) (sent : List (Option ReleaseData))
    (release : ReleaseData) → j + i ≡ k → i < length sent → enabled_of s k ≡ Some release
    → ((r : ReleaseData) → get_or sent i None ≡ Some r → last ≡ Some r)
    → last_release_sent k last (releases_from s j sent) ≡ Some release
place-said s j i k last [] release at lt is knows = absurd (omega arith)
place-said s j zero k last (one ∷ sent) release at lt is knows =
    let rest = releases_from s (j + 1) sent in
    let e : j ≡ k = omega arith in
    let both : release_at j one (enabled_of s j) ≡ release_at k one (Some release) =
    ap (λ n. release_at n one (enabled_of s n)) e ∙ ap (release_at k one) is in
    last-append k last (release_at j one (enabled_of s j)) rest
    ∙ later-said s k (j + 1) (last_release_sent k last (release_at j one (enabled_of s j))) sent
    (omega arith)
    ∙ ap (last_release_sent k last) both ∙ same-said k one last release knows
place-said s j (suc i) k last (one ∷ sent) release at lt is knows =
    let rest = releases_from s (j + 1) sent in
    let other : (j == k) ≡ false = grind (arith, nat_tests) in
    last-append k last (release_at j one (enabled_of s j)) rest
    ∙ ap (λ l. last_release_sent k l rest) (other-said k j one last (enabled_of s j) other)
    ∙ place-said s (j + 1) i k last sent release (omega arith) (omega arith) is knows

-- ---- what is kept of it

-- each release that is kept as told is the last that was said
record Knows (said : List (ℕ × ReleaseData)) (sent : List (Option ReleaseData)) : Type 0 where
  sized : length sent ≡ 32
  knows : (k : ℕ) (r : ReleaseData) → k < 32 → get_or sent k None ≡ Some r
      → last_release_sent k None said ≡ Some r

abbrev KnowsIn : List (ℕ × ReleaseData) → Option (List (Option ReleaseData)) → Type 0
KnowsIn said None = ⊥
KnowsIn said (Some sent) = Knows said sent

none-told : (n k : ℕ) (r : ReleaseData) → get_or (replicate n None) k None ≡ Some r → ⊥
none-told zero k r e = cc
none-told (suc n) zero r e = cc
none-told (suc n) (suc k) r e = none-told n k r e

knows-nothing : (said : List (ℕ × ReleaseData)) → Knows said no_releases_sent
unfolding no_releases_sent
knows-nothing said =
    record { sized = refl; knows = λ k r lt e. absurd (none-told 32 k r e) }

-- what a turn says is known behind it
said-known : (s : State) (said : List (ℕ × ReleaseData)) (sent : List (Option ReleaseData))
    → Knows said sent → (k : ℕ) (r : ReleaseData) → k < 32 → enabled_of s k ≡ Some r
    → last_release_sent k None (said ++ releases_from s 0 sent) ≡ Some r
said-known s said sent h k r lt is =
    let n = h.sized in
    last-append k None said (releases_from s 0 sent)
    ∙ place-said s 0 k k (last_release_sent k None said) sent r (omega arith) (omega arith) is
    (λ q e. h.knows k q lt e)

knows-after : (s : State) (said : List (ℕ × ReleaseData)) (sent : List (Option ReleaseData))
    → Knows said sent
    → Knows (said ++ releases_from s 0 sent) (map (enabled_of s) (range_with_len 0 (length sent)))
knows-after s said sent h =
    let n = h.sized in
    record {
      sized = length-map-range_with_len (enabled_of s) 0 (length sent) ∙ n;
      knows = λ k r lt e. said-known s said sent h k r lt
          (sym (get_or-map-range_with_len (enabled_of s) 0 (length sent) k k None (omega arith)
          (omega arith)) ∙ e);
    }

knows-told : (s : State) (said : List (ℕ × ReleaseData)) (sent : Option (List (Option ReleaseData)))
    → KnowsIn said sent → KnowsIn (said ++ new_releases s sent) (sent_releases_after s sent)
knows-told s said None h = absurd h
knows-told s said (Some sent) h = knows-after s said sent h

knows-emptied : (said more : List (ℕ × ReleaseData)) (sent : Option (List (Option ReleaseData)))
    → KnowsIn said sent → KnowsIn more (if is_some sent then Some no_releases_sent else None)
knows-emptied said more None h = absurd h
knows-emptied said more (Some sent) h = knows-nothing more

-- nothing was said
knows-same : (said : List (ℕ × ReleaseData)) (sent after : Option (List (Option ReleaseData)))
    → KnowsIn said sent → after ≡ sent → KnowsIn (said ++ []) after
knows-same said sent after h is =
    subst (λ t. KnowsIn (said ++ []) t) (sym is)
    (subst (λ l. KnowsIn l sent) (sym (append-nil said)) h)

-- ---- the parts of what is done

-- unless a part led to a closing, this is what was told then
abbrev HasTold : Option (List (Option ReleaseData)) → Result PortData DisconnectReason → Type 0
HasTold sent r = (q : PortData) → r ≡ Ok q → q.sent ≡ sent

has-port : (p : PortData) (sent : Option (List (Option ReleaseData))) → p.sent ≡ sent
    → HasTold sent (Ok p)
has-port p sent same q e =
    let is : p ≡ q = cc in ap (λ (d : PortData). d.sent) (sym is) ∙ same

has-closed : (why : DisconnectReason) (sent : Option (List (Option ReleaseData)))
    → HasTold sent (Err why)
has-closed why sent q e = absurd cc

has-behind : (sent : Option (List (Option ReleaseData))) (r : Result PortData DisconnectReason)
    (calls : List Call) (f : PortData → PollPart) → HasTold sent r
    → ((p : PortData) → HasTold p.sent (f p).after)
    → (let b : PollPart = and_then (record { after = r; calls = calls }) f in
    HasTold sent b.after)
has-behind sent (Err why) calls f h next = has-closed why sent
has-behind sent (Ok p) calls f h next = λ q e. next p q e ∙ h p refl

has-told : (t : ReportedTurn) (s : State) (p : PortData)
    → HasTold (sent_releases_after s p.sent) (with_report_queued t s p).after
has-told t s p = by-room (fits_in p.queue (all_output t s p)) refl
  where
    by-room : (v : Bool) → fits_in p.queue (all_output t s p) ≡ v
        → HasTold (sent_releases_after s p.sent) (with_report_queued t s p).after
    by-room true e = rw e (λ q is.
        let same : record p {
          queue = p.queue ++ all_output t s p;
          sent = sent_releases_after s p.sent;
          watch = after_alive_answer p.watch;
        } ≡ q = cc in
        ap (λ (d : PortData). d.sent) (sym same))
    by-room false e = rw e (λ q is. absurd cc)

has-offered : (queue : List ℕ) (taken : Option ℕ) (p : PortData)
    → HasTold p.sent (offer_queue queue taken p).after
has-offered [] taken p = has-port p p.sent refl
has-offered (b ∷ bs) None p = λ q e. absurd cc
has-offered (b ∷ bs) (Some n) p = has-port (record p { queue = drop n p.queue }) p.sent refl

has-read : (heard : ReadOutcome) (p : PortData) → HasTold p.sent (read_part heard p).after
has-read heard p = by-front (is_waiting (first_line_of p.buffer)) refl
  where
    by-heard : (h : ReadOutcome) (calls : List Call) → HasTold p.sent (on_read h p calls).after
    by-heard (Octets octets) calls =
        has-port (record p { buffer = p.buffer ++ octets }) p.sent refl
    by-heard Silence calls = has-port p p.sent refl
    by-heard StreamEnd calls = λ q e. absurd cc
    by-heard Failure calls = λ q e. absurd cc

    by-front : (v : Bool) → is_waiting (first_line_of p.buffer) ≡ v
        → HasTold p.sent (read_part heard p).after
    by-front true e = rw e (by-heard heard _)
    by-front false e = rw e (has-port p p.sent refl)

has-greeted : (now : ℕ) (s : State) (p : PortData) → HasTold p.sent (greet_part now s p).after
has-greeted now s p = by-room (fits_in p.queue (greeting_text now s p.watch)) refl
  where
    by-room : (v : Bool) → fits_in p.queue (greeting_text now s p.watch) ≡ v
        → HasTold p.sent (greet_part now s p).after
    by-room true e =
        rw e (has-port
        (record p { queue = p.queue ++ greeting_text now s p.watch; watch = active_at now p.watch })
        p.sent refl)
    by-room false e = rw e (has-closed QueueFull p.sent)

has-talked : (t : ReportedTurn) (s : State) (answers : Option ℕ × ReadOutcome) (p : PortData)
    → HasTold (sent_releases_after s p.sent) (exchange_part t s answers p).after
has-talked t s answers p =
    let sent = sent_releases_after s p.sent in
    let a = with_report_queued t s p in
    let ha = has-behind sent a.after a.calls (offer_part answers.0) (has-told t s p)
    (λ q. has-offered q.queue answers.0 q) in
    let b = and_then a (offer_part answers.0) in
    has-behind sent b.after b.calls (read_part answers.1) ha (has-read answers.1)

-- ---- a use

here-known : (s : State) (said : List (ℕ × ReleaseData)) (p : PortData)
    (r : Result PortData DisconnectReason)
    (calls : List Call) → KnowsIn said p.sent → HasTold (sent_releases_after s p.sent) r
    → KnowsIn (said ++ new_releases s p.sent) (closed_or_open p r calls).port.sent
here-known s said p (Ok q) calls h sent =
    subst (KnowsIn (said ++ new_releases s p.sent)) (sym (sent q refl)) (knows-told s said p.sent h)
here-known s said p (Err why) calls h sent =
    knows-emptied said (said ++ new_releases s p.sent) p.sent h

come-known : (said : List (ℕ × ReleaseData)) (p : PortData) (r : Result PortData DisconnectReason)
    (calls : List Call) → KnowsIn said p.sent → HasTold (with_no_data Present p).sent r
    → KnowsIn (said ++ []) (opened_or_closed p r calls).port.sent
come-known said p (Ok q) calls h sent =
    subst (KnowsIn (said ++ [])) (sym (sent q refl)) (knows-emptied said (said ++ []) p.sent h)
come-known said p (Err why) calls h sent = knows-emptied said (said ++ []) p.sent h

away-known : (said : List (ℕ × ReleaseData)) (now : ℕ) (s : State)
    (accepted : Option (Option SocketAddrV4)) (heard : ReadOutcome × ReadOutcome) (p : PortData)
    → KnowsIn said p.sent
    → KnowsIn (said ++ []) (accept_outcome now s accepted heard p).port.sent
away-known said now s None heard p h = knows-same said p.sent p.sent h refl
away-known said now s (Some None) heard p h = knows-same said p.sent p.sent h refl
away-known said now s (Some (Some from)) heard p h =
    let q = with_no_data Present p in
    let g = greet_part now s q in
    let a = and_then g (read_part heard.0) in
    let part = first_part now s heard q in
    come-known said p part.after part.calls h
    (has-behind q.sent a.after a.calls (read_part heard.1)
    (has-behind q.sent g.after g.calls (read_part heard.0) (has-greeted now s q) (has-read heard.0))
    (has-read heard.1))

attended-known : (presence : Presence) (said : List (ℕ × ReleaseData)) (t : ReportedTurn)
    (s : State)
    (script : Script) (p : PortData) → KnowsIn said p.sent
    → KnowsIn (said ++ releases_sent_as presence s p)
    (outcome_by_presence presence t s script p).port.sent
attended-known Absent said t s script p h =
    away-known said t.now s script.accepted (script.heard, script.again) p h
attended-known LossPending said t s script p h = knows-same said p.sent p.sent h refl
attended-known (Dismissed why) said t s script p h = knows-emptied said (said ++ []) p.sent h
attended-known Present said t s script p h =
    let part = exchange_part t s (script.taken, script.heard) p in
    here-known s said p part.after part.calls h (has-talked t s (script.taken, script.heard) p)

by-known : (said : List (ℕ × ReleaseData)) (now : ℕ)
    (r : Result (Option TimedMessage) DisconnectReason) (f : LineSearchData) (p : PortData)
    → KnowsIn said p.sent → KnowsIn (said ++ []) (judged_reading now r f p).port.sent
by-known said now (Err why) f p h = knows-emptied said (said ++ []) p.sent h
by-known said now (Ok None) f p h = knows-same said p.sent p.sent h refl
by-known said now (Ok (Some timed)) Waiting p h = knows-same said p.sent p.sent h refl
by-known said now (Ok (Some timed)) Overlong p h = knows-same said p.sent p.sent h refl
by-known said now (Ok (Some timed)) (Whole line rest) p h = knows-same said p.sent p.sent h refl

taken-known : (presence : Presence) (said : List (ℕ × ReleaseData)) (s : State) (now jump : ℕ)
    (p : PortData) → KnowsIn said p.sent
    → KnowsIn (said ++ []) (presence_reading presence s now jump p).port.sent
taken-known Absent said s now jump p h = knows-same said p.sent p.sent h refl
taken-known LossPending said s now jump p h = knows-emptied said (said ++ []) p.sent h
taken-known (Dismissed why) said s now jump p h = knows-same said p.sent p.sent h refl
taken-known Present said s now jump p h =
    by-known said now (judge_port s now jump p) (first_line_of p.buffer) p h

use-known : (u : Use) (said : List (ℕ × ReleaseData)) (p : PortData) → KnowsIn said p.sent
    → KnowsIn (said ++ releases_sent u p) (port_after u p).sent
use-known (Takes s now jump) said p h = taken-known p.presence said s now jump p h
use-known (Polls t s script) said p h =
    attended-known p.presence said t s script p h

uses-known : (us : List Use) (said : List (ℕ × ReleaseData)) (p : PortData) → KnowsIn said p.sent
    → KnowsIn (said ++ all_releases_sent us p) (after_uses us p).sent
uses-known [] said p h = knows-same said p.sent p.sent h refl
uses-known (u ∷ us) said p h =
    let q = port_after u p in
    subst (λ l. KnowsIn l (after_uses us q).sent)
    (append_assoc said (releases_sent u p) (all_releases_sent us q))
    (uses-known us (said ++ releases_sent u p) q (use-known u said p h))

one-more : (us : List Use) (u : Use) (p : PortData)
    → all_releases_sent (us ++ u ∷ []) p
    ≡ all_releases_sent us p ++ releases_sent u (after_uses us p)
one-more [] u p = append-nil (releases_sent u p)
one-more (v ∷ us) u p =
    let q = port_after v p in
    ap (λ l. releases_sent v p ++ l) (one-more us u q)
    ∙ sym (append_assoc (releases_sent v p) (all_releases_sent us q)
    (releases_sent u (after_uses us q)))

-- behind a turn each release is known
known-here : (s : State) (said : List (ℕ × ReleaseData)) (sent : Option (List (Option ReleaseData)))
    → KnowsIn said sent → (k : ℕ) (r : ReleaseData) → k < 32 → enabled_of s k ≡ Some r
    → last_release_sent k None (said ++ new_releases s sent) ≡ Some r
known-here s said None h k r lt is = absurd h
known-here s said (Some sent) h k r lt is = said-known s said sent h k r lt is

pub is-up-to-date : (settings : Option SupervisionSettings) (uses : List Use) (t : ReportedTurn)
    (s : State)
    (script : Script) → StaysPresent uses (empty_port true settings Absent)
    → IsUpToDate settings uses t s script
is-up-to-date settings uses t s script stays here none k lt within =
    let p0 = empty_port true settings Absent in
    let p = after_uses uses p0 in
    let start : KnowsIn [] p0.sent = knows-nothing [] in
    let known : KnowsIn (all_releases_sent uses p0) p.sent = uses-known uses [] p0 start in
    let release : ReleaseData = (may_open s k, may_close s k) in
    let there : nat_lt k (length s.switches) ≡ true = grind (arith, nat_tests) in
    let is : enabled_of s k ≡ Some release =
    ap (λ v. if v then Some release else None) there in
    ap (last_release_sent k None)
    (one-more uses (Polls t s script) p0
    ∙ ap (λ presence. all_releases_sent uses p0 ++ releases_sent_as presence s p) here)
    ∙ known-here s (all_releases_sent uses p0) p.sent known k release lt is
