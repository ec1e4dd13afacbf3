-- Lemmas on what is known of a supervised process while it is there, and for how long it is silent.
use Rattle.std.proofs.Common.{◌≡◌, ℕ, ◌-◌, ◌≤◌, min, Bool, true, false, nat_le, nat_lt, drop, if◌then◌else◌, List, [], ◌∷◌, ◌++◌, Option, None, Some, option_map, Result, Ok, Err, refl, sym, ap, ◌∙◌, subst, arith, ◌⊎◌, inl, inr}
use Rattle.std.proofs.lemmas.Bool.{and_parts}
use Rattle.std.proofs.lemmas.Bool.Decides.{nat_tests}
use Rattle.std.specs.declared.net.socket_addr.SocketAddrV4.{SocketAddrV4}
use Rattle.bay_device.specs.Device.{State}
use Rattle.bay_lines.specs.FirstLines.{LineSearchData, Waiting, Overlong, Whole, first_line_of}
use Rattle.bay_server_turn.specs.Calls.{Call, ReadOutcome, Octets, Silence, StreamEnd, Failure}
use Rattle.bay_process_port.specs.Introduction.{introduction_moment}
use Rattle.bay_server_turn.specs.Supervised.{timed_line_of}
use Rattle.bay_server_turn.specs.declared.supervised.TimedLine.{TimedLine}
use Rattle.bay_process_port.specs.Polling.{PollOutcome, PollPart, Script, accept_outcome, all_output, poll_outcome, outcome_by_presence, connected_outcome, and_then, closed_or_open, first_part, greet_part, offer_part, offer_queue, on_read, read_part, opened_or_closed, exchange_part, with_report_queued}
use Rattle.bay_process_port.specs.Fit.{is_waiting}
use Rattle.bay_process_port.specs.Ports.{PortData, PortReading, with_no_data, has_jumped, judge_port, judge_buffer, line_reading, message_of, empty_reading, judge_silence, presence_reading, judged_reading, connected_reading, port_reading}
use Rattle.bay_process_port.proofs.FitLemmas.{IsTimely, report-is, timely-is}
use Rattle.bay_process_port.specs.Releases.{sent_releases_after}
use Rattle.bay_process_port.specs.Supervision.{IsBelieved, IsLostOrBelieved}
use Rattle.bay_process_port.specs.ProcessOutput.{ReportedTurn, fits_in, greeting_text}
use Rattle.bay_process_port.specs.Supervised.{SupervisionSettings, WatchData, after_alive_answer, settings_in, active_at, judge_introduction, is_timely, judge_line, after_message, watch_after, after_timed_message, overlong_reason, judge_later_line, initial_watch, event_message}
use Rattle.bay_process_port.specs.declared.connection_event.DisconnectReason.{DisconnectReason}
use Rattle.bay_process_port.specs.declared.connection_event.DisconnectReason.TheVariants.{Ended, QueueFull, LinkFailed, Silent, Jumped}
use Rattle.bay_process_port.specs.declared.port.Presence.{Presence}
use Rattle.bay_process_port.specs.declared.port.Presence.TheVariants.{Absent, LossPending, Dismissed, Present}
use Rattle.bay_process_port.specs.declared.supervision.ProcessMessage.{ProcessMessage}
use Rattle.bay_process_port.specs.declared.supervision.ProcessMessage.TheVariants.{Blank, Reports, Introduces, Lives}
use Rattle.bay_process_port.specs.declared.supervision.TimedMessage.{TimedMessage}

-- ---- what is known of a process while it is there

-- what is known stays, but for when it was heard and whether it said that it lives
pub record SameWatch (w : WatchData) (watch : Option WatchData) : Type 0 where
  pub later : WatchData
  pub is : watch ≡ Some later
  pub introduced : later.introduced ≡ w.introduced
  pub settings : later.settings ≡ w.settings

same-watch : (w : WatchData) (watch : Option WatchData) → watch ≡ Some w → SameWatch w watch
same-watch w watch is = record { later = w; is = is; introduced = refl; settings = refl }

heard-watch : (moment : ℕ) (w : WatchData) (watch : Option WatchData) → SameWatch w watch
    → SameWatch w (active_at moment watch)
heard-watch moment w watch h = record {
  later = record h.later { heard = moment };
  is = ap (active_at moment) h.is;
  introduced = h.introduced;
  settings = h.settings;
}

-- it is there, and what is known stays
record SamePort (w : WatchData) (p : PortData) : Type 0 where
  here : p.presence ≡ Present
  watch : SameWatch w p.watch

-- unless a part led to a closing
abbrev Steady : WatchData → Result PortData DisconnectReason → Type 0
Steady w r = (q : PortData) → r ≡ Ok q → SamePort w q

steady-port : (w : WatchData) (p : PortData) → SamePort w p → Steady w (Ok p)
steady-port w p h q e = let is : p ≡ q = cc in subst (SamePort w) is h

steady-closed : (w : WatchData) (why : DisconnectReason) → Steady w (Err why)
steady-closed w why q e = absurd cc

steady-behind : (w : WatchData) (r : Result PortData DisconnectReason) (calls : List Call)
    (f : PortData → PollPart) → Steady w r
    → ((p : PortData) → SamePort w p → Steady w (f p).after)
    → (let b : PollPart = and_then (record { after = r; calls = calls }) f in Steady w b.after)
steady-behind w (Err why) calls f h next = steady-closed w why
steady-behind w (Ok p) calls f h next = next p (h p refl)

steady-told : (w : WatchData) (t : ReportedTurn) (s : State) (p : PortData) → SamePort w p
    → Steady w (with_report_queued t s p).after
steady-told w t s p h = by-room (fits_in p.queue (all_output t s p)) refl
  where
    sent : PortData
    sent = record p {
      queue = p.queue ++ all_output t s p;
      sent = sent_releases_after s p.sent;
      watch = after_alive_answer p.watch;
    }

    by-room : (v : Bool) → fits_in p.queue (all_output t s p) ≡ v
        → Steady w (with_report_queued t s p).after
    by-room true e = rw e (steady-port w sent (record {
      here = h.here;
      watch = record {
        later = record h.watch.later { lives = false };
        is = ap after_alive_answer h.watch.is;
        introduced = h.watch.introduced;
        settings = h.watch.settings;
      };
    }))
    by-room false e = rw e (steady-closed w QueueFull)

steady-offered : (w : WatchData) (queue : List ℕ) (taken : Option ℕ) (p : PortData)
    → SamePort w p → Steady w (offer_queue queue taken p).after
steady-offered w [] taken p h = steady-port w p h
steady-offered w (b ∷ bs) None p h = steady-closed w LinkFailed
steady-offered w (b ∷ bs) (Some n) p h =
    steady-port w (record p { queue = drop n p.queue }) (record { here = h.here; watch = h.watch })

steady-read : (w : WatchData) (heard : ReadOutcome) (p : PortData) → SamePort w p
    → Steady w (read_part heard p).after
steady-read w heard p h = by-front (is_waiting (first_line_of p.buffer)) refl
  where
    by-heard : (o : ReadOutcome) (calls : List Call) → Steady w (on_read o p calls).after
    by-heard (Octets octets) calls =
        steady-port w (record p { buffer = p.buffer ++ octets })
        (record { here = h.here; watch = h.watch })
    by-heard Silence calls = steady-port w p h
    by-heard StreamEnd calls = steady-closed w Ended
    by-heard Failure calls = steady-closed w LinkFailed

    by-front : (v : Bool) → is_waiting (first_line_of p.buffer) ≡ v
        → Steady w (read_part heard p).after
    by-front true e = rw e (by-heard heard _)
    by-front false e = rw e (steady-port w p h)

steady-greeted : (w : WatchData) (now : ℕ) (s : State) (p : PortData) → SamePort w p
    → Steady w (greet_part now s p).after
steady-greeted w now s p h = by-room (fits_in p.queue (greeting_text now s p.watch)) refl
  where
    greeted : PortData
    greeted =
        record p { queue = p.queue ++ greeting_text now s p.watch; watch = active_at now p.watch }

    by-room : (v : Bool) → fits_in p.queue (greeting_text now s p.watch) ≡ v
        → Steady w (greet_part now s p).after
    by-room true e = rw e (steady-port w greeted
        (record { here = h.here; watch = heard-watch now w p.watch h.watch }))
    by-room false e = rw e (steady-closed w QueueFull)

steady-talked : (w : WatchData) (t : ReportedTurn) (s : State) (answers : Option ℕ × ReadOutcome)
    (p : PortData) → SamePort w p → Steady w (exchange_part t s answers p).after
steady-talked w t s answers p h =
    let a = with_report_queued t s p in
    let b = and_then a (offer_part answers.0) in
    steady-behind w b.after b.calls (read_part answers.1)
    (steady-behind w a.after a.calls (offer_part answers.0) (steady-told w t s p h)
    (λ q k. steady-offered w q.queue answers.0 q k))
    (λ q k. steady-read w answers.1 q k)

steady-begun : (w : WatchData) (now : ℕ) (s : State) (answers : ReadOutcome × ReadOutcome)
    (p : PortData) → SamePort w p → Steady w (first_part now s answers p).after
steady-begun w now s answers p h =
    let a = greet_part now s p in
    let b = and_then a (read_part answers.0) in
    steady-behind w b.after b.calls (read_part answers.1)
    (steady-behind w a.after a.calls (read_part answers.0) (steady-greeted w now s p h)
    (λ q k. steady-read w answers.0 q k))
    (λ q k. steady-read w answers.1 q k)

here-same : (w : WatchData) (before : PortData) (r : Result PortData DisconnectReason)
    (calls : List Call)
    → Steady w r → (closed_or_open before r calls).port.presence ≡ Present
    → SameWatch w (closed_or_open before r calls).port.watch
here-same w before (Ok q) calls h here = (h q refl).watch
here-same w before (Err why) calls h here = absurd cc

come-same : (w : WatchData) (before : PortData) (r : Result PortData DisconnectReason)
    (calls : List Call)
    → Steady w r → (opened_or_closed before r calls).port.presence ≡ Present
    → SameWatch w (opened_or_closed before r calls).port.watch
come-same w before (Ok q) calls h here = (h q refl).watch
come-same w before (Err why) calls h here = absurd cc

-- behind a turn, while it is there
pub attended-same : (w : WatchData) (t : ReportedTurn) (s : State) (script : Script) (p : PortData)
    → p.presence ≡ Present → p.watch ≡ Some w → (poll_outcome t s script p).port.presence ≡ Present
    → SameWatch w (poll_outcome t s script p).port.watch
attended-same w t s script p here is still =
    let part = exchange_part t s (script.taken, script.heard) p in
    let whole : poll_outcome t s script p ≡ connected_outcome p part =
    ap (λ presence. outcome_by_presence presence t s script p) here in
    subst (λ (a : PollOutcome). a.port.presence ≡ Present → SameWatch w a.port.watch) (sym whole)
    (here-same w p part.after part.calls
    (steady-talked w t s (script.taken, script.heard) p
    (record { here = here; watch = same-watch w p.watch is }))) still

pub accepted-same : (w : WatchData) (now : ℕ) (s : State) (taken : Option (Option SocketAddrV4))
    (heard : ReadOutcome × ReadOutcome) (p : PortData) → p.presence ≡ Absent
    → (with_no_data Present p).watch ≡ Some w
    → (accept_outcome now s taken heard p).port.presence ≡ Present
    → SameWatch w (accept_outcome now s taken heard p).port.watch
accepted-same w now s None heard p away is here =
    let no : Absent ≡ Present = sym away ∙ here in absurd cc
accepted-same w now s (Some None) heard p away is here =
    let no : Absent ≡ Present = sym away ∙ here in absurd cc
accepted-same w now s (Some (Some from)) heard p away is here =
    let part = first_part now s heard (with_no_data Present p) in
    come-same w p part.after part.calls
    (steady-begun w now s heard (with_no_data Present p)
    (record { here = refl; watch = same-watch w (with_no_data Present p).watch is })) here

-- ---- what a turn takes was said in time

said-near : (limit now moment : ℕ) (message : ProcessMessage) (said : TimedMessage)
    → IsTimely limit now moment message said → now - min now said.moment ≤ limit
said-near limit now moment message said t =
    let old = (and_parts (nat_le (now - moment) limit) (nat_le (moment - now) limit) t.near).0 in
    let le : now - moment ≤ limit = grind (arith, nat_tests) in
    let few : now - min now moment ≤ limit = omega (arith, le) in
    subst (λ (x : TimedMessage). now - min now x.moment ≤ limit) t.is few

report-near : (line : List ℕ) (w : WatchData) (now : ℕ) (o : Option TimedLine)
    (said : TimedMessage) → judge_later_line line w now o ≡ Ok said
    → now - min now said.moment ≤ w.settings.limit
report-near line w now None said e = absurd cc
report-near line w now (Some timed) said e =
    said-near w.settings.limit now timed.moment (event_message timed.event) said
    (report-is line w now timed said e).check_moment

introduction-near : (settings : SupervisionSettings) (now : ℕ) (o : Option ℕ) (said : TimedMessage)
    → judge_introduction settings now o ≡ Ok said → now - min now said.moment ≤ settings.limit
introduction-near settings now None said e = absurd cc
introduction-near settings now (Some moment) said e =
    said-near settings.limit now moment Introduces said
    (timely-is settings.limit now moment Introduces said e)

judged-near : (s : State) (now : ℕ) (w : WatchData) (line : List ℕ) (said : TimedMessage)
    → judge_line (Some w) s now line ≡ Ok said → now - min now said.moment ≤ w.settings.limit
judged-near s now w line said e = by-known w.introduced refl
  where
    by-known : (v : Bool) → w.introduced ≡ v → now - min now said.moment ≤ w.settings.limit
    by-known true known = report-near line w now (timed_line_of s line) said (rw known at e)
    by-known false known =
        introduction-near w.settings now
        (introduction_moment w.settings.key s.domain s.revision line) said
        (rw known at e)

-- what was judged of a process that is believed: the clock has not jumped, and the first line, if
-- it is whole, can be taken
pub record Judged (s : State) (now jump : ℕ) (p : PortData) (f : LineSearchData)
    (m : Option TimedMessage) : Type 0 where
  pub no_jump : has_jumped jump p.watch ≡ false
  pub front : judge_buffer s now p f ≡ Ok m

pub judged-is : (s : State) (now jump : ℕ) (p : PortData) (f : LineSearchData)
    (m : Option TimedMessage) → first_line_of p.buffer ≡ f → judge_port s now jump p ≡ Ok m
    → Judged s now jump p f m
judged-is s now jump p f m there e = by-jump (has_jumped jump p.watch) refl
  where
    by-jump : (v : Bool) → has_jumped jump p.watch ≡ v → Judged s now jump p f m
    by-jump true far = let none : Err Jumped ≡ Ok m = rw far at e in absurd cc
    by-jump false near = record {
      no_jump = near;
      front = ap (λ f. judge_buffer s now p f) (sym there) ∙ (rw near at e);
    }

message-is : (r : Result TimedMessage DisconnectReason) (said : TimedMessage)
    → message_of r ≡ Ok (Some said) → r ≡ Ok said
message-is (Err why) said e = absurd cc
message-is (Ok x) said e = cc

-- the message of a whole line
pub line-judged : (s : State) (now jump : ℕ) (p : PortData) (line rest : List ℕ)
    (said : TimedMessage) → first_line_of p.buffer ≡ Whole line rest
    → judge_port s now jump p ≡ Ok (Some said) → judge_line p.watch s now line ≡ Ok said
line-judged s now jump p line rest said there e =
    message-is (judge_line p.watch s now line) said
    (judged-is s now jump p (Whole line rest) (Some said) there e).front

no-message : (r : Result TimedMessage DisconnectReason) → message_of r ≡ Ok None → ⊥
no-message (Err why) e = cc
no-message (Ok x) e = cc

jump-near : (jump : ℕ) (w : WatchData) (watch : Option WatchData) → watch ≡ Some w
    → has_jumped jump watch ≡ false → jump ≤ w.settings.limit
jump-near jump w None is near = absurd cc
jump-near jump w (Some v) is near =
    let same : v ≡ w = cc in
    let le : jump ≤ v.settings.limit = grind (arith, nat_tests) in
    subst (λ (x : WatchData). jump ≤ x.settings.limit) same le

silence-near : (now : ℕ) (w : WatchData) (watch : Option WatchData) → watch ≡ Some w
    → judge_silence now watch ≡ Ok None → now - w.heard ≤ w.settings.limit
silence-near now w None is e = absurd cc
silence-near now w (Some v) is e = by-span (nat_le (now - v.heard) v.settings.limit) refl
  where
    by-span : (b : Bool) → nat_le (now - v.heard) v.settings.limit ≡ b
        → now - w.heard ≤ w.settings.limit
    by-span true few =
        let same : v ≡ w = cc in
        let le : now - v.heard ≤ v.settings.limit = grind (arith, nat_tests) in
        subst (λ (x : WatchData). now - x.heard ≤ x.settings.limit) same le
    by-span false few =
        let none : Err (Silent v.settings.limit) ≡ Ok None = rw few at e in absurd cc

front-near : (s : State) (now : ℕ) (w : WatchData) (p : PortData) (f : LineSearchData)
    → p.watch ≡ Some w → judge_buffer s now p f ≡ Ok None → now - w.heard ≤ w.settings.limit
front-near s now w p Waiting is e = silence-near now w p.watch is e
front-near s now w p Overlong is e = absurd cc
front-near s now w p (Whole line rest) is e =
    absurd (no-message (judge_line p.watch s now line) e)

-- ---- what is known after a line

pub known-duties : (message : ProcessMessage) (w : WatchData)
    → (after_message message w).settings ≡ w.settings
known-duties Blank w = refl
known-duties (Reports event) w = refl
known-duties Introduces w = refl
known-duties Lives w = refl

known-heard : (message : ProcessMessage) (w : WatchData) → (after_message message w).heard ≡ w.heard
known-heard Blank w = refl
known-heard (Reports event) w = refl
known-heard Introduces w = refl
known-heard Lives w = refl

stays-introduced : (message : ProcessMessage) (w : WatchData) → w.introduced ≡ true
    → (after_message message w).introduced ≡ true
stays-introduced Blank w known = known
stays-introduced (Reports event) w known = known
stays-introduced Introduces w known = refl
stays-introduced Lives w known = known

known-first : (w : WatchData) (now : ℕ) (o : Option ℕ) (said : TimedMessage)
    → judge_introduction w.settings now o ≡ Ok said
    → (after_timed_message now said w).introduced ≡ true
known-first w now None said e = absurd cc
known-first w now (Some moment) said e =
    sym (ap (λ (x : TimedMessage). (after_timed_message now x w).introduced)
    (timely-is w.settings.limit now moment Introduces said e).is)

known-later : (s : State) (now : ℕ) (w : WatchData) (line : List ℕ) (said : TimedMessage)
    → judge_line (Some w) s now line ≡ Ok said → (after_timed_message now said w).introduced ≡ true
known-later s now w line said e = by-known w.introduced refl
  where
    by-known : (v : Bool) → w.introduced ≡ v → (after_timed_message now said w).introduced ≡ true
    by-known true known =
        stays-introduced said.message (record w { heard = min now said.moment; last = said.moment })
        known
    by-known false known =
        known-first w now (introduction_moment w.settings.key s.domain s.revision line) said
        (rw known at e)

-- ---- what a turn takes of a connected process

-- It is lost, and nothing happened.
pub record TookLoss (taken : PortReading) : Type 0 where
  pub lost : taken.is_lost ≡ true
  pub event : taken.event ≡ None

-- Or it is still believed: it has introduced itself, or it had not and nothing happened; its last
-- line is not too old, and the clock has not jumped.
pub record Took (now jump : ℕ) (w : WatchData) (taken : PortReading) : Type 0 where
  pub not_lost : taken.is_lost ≡ false
  pub here : taken.port.presence ≡ Present
  pub later : WatchData
  pub watched : taken.port.watch ≡ Some later
  pub known : (later.introduced ≡ true) ⊎ ((w.introduced ≡ false) × (taken.event ≡ None))
  pub recent : now - later.heard ≤ later.settings.limit
  pub no_jump : jump ≤ later.settings.limit

took-none : (s : State) (now jump : ℕ) (p : PortData) (w : WatchData) (f : LineSearchData)
    → p.presence ≡ Present → p.watch ≡ Some w → Judged s now jump p f None
    → Took now jump w (empty_reading p)
took-none s now jump p w f here watched j = record {
  not_lost = refl;
  here = here;
  later = w;
  watched = watched;
  known = by-known w.introduced refl;
  recent = front-near s now w p f watched j.front;
  no_jump = jump-near jump w p.watch watched j.no_jump;
}
  where
    by-known : (v : Bool) → w.introduced ≡ v
        → (w.introduced ≡ true) ⊎ ((w.introduced ≡ false) × ((empty_reading p).event ≡ None))
    by-known true e = inl e
    by-known false e = inr (e, refl)

not-silent : (now : ℕ) (watch : Option WatchData) (said : TimedMessage)
    → judge_silence now watch ≡ Ok (Some said) → ⊥
not-silent now None said e = cc
not-silent now (Some v) said e = by-span (nat_le (now - v.heard) v.settings.limit) refl
  where
    by-span : (b : Bool) → nat_le (now - v.heard) v.settings.limit ≡ b → ⊥
    by-span true few = let none : Ok None ≡ Ok (Some said) = rw few at e in cc
    by-span false few =
        let none : Err (Silent v.settings.limit) ≡ Ok (Some said) = rw few at e in cc

took-some : (s : State) (now jump : ℕ) (p : PortData) (w : WatchData) (f : LineSearchData)
    (said : TimedMessage) → p.presence ≡ Present → p.watch ≡ Some w
    → Judged s now jump p f (Some said) → Took now jump w (line_reading now said f p)
took-some s now jump p w Waiting said here watched j =
    absurd (not-silent now p.watch said j.front)
took-some s now jump p w Overlong said here watched j =
    let none : Err (overlong_reason p.watch p.buffer) ≡ Ok (Some said) = j.front in absurd cc
took-some s now jump p w (Whole line rest) said here watched j =
    let e : judge_line (Some w) s now line ≡ Ok said =
    ap (λ o. judge_line o s now line) (sym watched)
    ∙ message-is (judge_line p.watch s now line) said j.front in
    let before : WatchData = record w { heard = min now said.moment; last = said.moment } in
    let near : now - min now said.moment ≤ w.settings.limit = judged-near s now w line said e in
    record {
      not_lost = refl;
      here = here;
      later = after_timed_message now said w;
      watched = ap (watch_after now said) watched;
      known = inl (known-later s now w line said e);
      recent =
          subst (λ h. now - h ≤ (after_timed_message now said w).settings.limit)
          (sym (known-heard said.message before))
          (subst (λ (d : SupervisionSettings). now - min now said.moment ≤ d.limit)
          (sym (known-duties said.message before)) near);
      no_jump =
          subst (λ (d : SupervisionSettings). jump ≤ d.limit)
          (sym (known-duties said.message before))
          (jump-near jump w p.watch watched j.no_jump);
    }

took-by : (s : State) (now jump : ℕ) (p : PortData) (w : WatchData)
    (r : Result (Option TimedMessage) DisconnectReason) → p.presence ≡ Present → p.watch ≡ Some w
    → judge_port s now jump p ≡ r
    → TookLoss (judged_reading now r (first_line_of p.buffer) p)
    ⊎ Took now jump w (judged_reading now r (first_line_of p.buffer) p)
took-by s now jump p w (Err why) here watched e = inl (record { lost = refl; event = refl })
took-by s now jump p w (Ok None) here watched e =
    inr (took-none s now jump p w (first_line_of p.buffer) here watched
    (judged-is s now jump p (first_line_of p.buffer) None refl e))
took-by s now jump p w (Ok (Some said)) here watched e =
    inr (took-some s now jump p w (first_line_of p.buffer) said here watched
    (judged-is s now jump p (first_line_of p.buffer) (Some said) refl e))

-- what a turn takes of a connected process
pub took : (s : State) (now jump : ℕ) (p : PortData) (w : WatchData) → p.presence ≡ Present
    → p.watch ≡ Some w
    → TookLoss (port_reading s now jump p) ⊎ Took now jump w (port_reading s now jump p)
took s now jump p w here watched =
    subst (λ (t : PortReading). TookLoss t ⊎ Took now jump w t)
    (sym (ap (λ presence. presence_reading presence s now jump p) here))
    (took-by s now jump p w (judge_port s now jump p) here watched refl)

-- one that is not supervised is not watched after it
unwatched : (now : ℕ) (r : Result (Option TimedMessage) DisconnectReason) (f : LineSearchData)
    (p : PortData) → p.watch ≡ None → (judged_reading now r f p).port.watch ≡ None
unwatched now (Err why) f p is = ap (λ watch. option_map initial_watch (settings_in watch)) is
unwatched now (Ok None) f p is = is
unwatched now (Ok (Some said)) Waiting p is = is
unwatched now (Ok (Some said)) Overlong p is = is
unwatched now (Ok (Some said)) (Whole line rest) p is = ap (watch_after now said) is

-- a connected process that is supervised is lost, or believed
pub is-heard : (s : State) (now jump : ℕ) (p : PortData) → IsLostOrBelieved s now jump p
is-heard s now jump p w here watched = by-watch p.watch refl
  where
    by-watch : (watch : Option WatchData) → p.watch ≡ watch
        → ((port_reading s now jump p).is_lost ≡ true)
        ⊎ (((port_reading s now jump p).port.presence ≡ Present) × IsBelieved s now jump p w)
    by-watch None none =
        let is : port_reading s now jump p ≡ connected_reading s now jump p =
        ap (λ presence. presence_reading presence s now jump p) here in
        let no : None ≡ Some w =
        sym (ap (λ (t : PortReading). t.port.watch) is
        ∙ unwatched now (judge_port s now jump p) (first_line_of p.buffer) p none) ∙ watched in
        absurd cc
    by-watch (Some v) some = elim (took s now jump p v here some) [
      | inl loss ↦ inl loss.lost
      | inr k ↦
          (let both : Some k.later ≡ Some w = sym k.watched ∙ watched in
          let same : k.later ≡ w = cc in
          inr (
            k.here,
            record {
              not_lost = k.not_lost;
              recent = subst (λ (x : WatchData). now - x.heard ≤ x.settings.limit) same k.recent;
              no_jump = subst (λ (x : WatchData). jump ≤ x.settings.limit) same k.no_jump;
            },
          ))
    ]

-- ---- after a turn

-- behind a turn a process that was there is still there, or is lost in the next
here-or-lost : (w : WatchData) (before : PortData) (r : Result PortData DisconnectReason)
    (calls : List Call)
    → Steady w r → ((closed_or_open before r calls).port.presence ≡ LossPending)
    ⊎ ((closed_or_open before r calls).port.presence ≡ Present)
here-or-lost w before (Ok q) calls h = inr (h q refl).here
here-or-lost w before (Err why) calls h = inl refl

pub attended-here : (w : WatchData) (t : ReportedTurn) (s : State) (script : Script) (p : PortData)
    → p.presence ≡ Present → p.watch ≡ Some w
    → ((poll_outcome t s script p).port.presence ≡ LossPending)
    ⊎ ((poll_outcome t s script p).port.presence ≡ Present)
attended-here w t s script p here is =
    let part = exchange_part t s (script.taken, script.heard) p in
    let whole : poll_outcome t s script p ≡ connected_outcome p part =
    ap (λ presence. outcome_by_presence presence t s script p) here in
    subst (λ (a : PollOutcome). (a.port.presence ≡ LossPending) ⊎ (a.port.presence ≡ Present))
    (sym whole)
    (here-or-lost w p part.after part.calls
    (steady-talked w t s (script.taken, script.heard) p
    (record { here = here; watch = same-watch w p.watch is })))

-- It is connected and has introduced itself.
pub record IsKnown (p : PortData) : Type 0 where
  pub here : p.presence ≡ Present
  pub watch : WatchData
  pub watched : p.watch ≡ Some watch
  pub introduced : watch.introduced ≡ true

-- a process that is so is so after a turn, or lost in the next one
pub stays-known : (t : ReportedTurn) (s : State) (script : Script) (p : PortData) (w : WatchData)
    → p.presence ≡ Present → p.watch ≡ Some w → w.introduced ≡ true
    → ((poll_outcome t s script p).port.presence ≡ LossPending)
    ⊎ IsKnown (poll_outcome t s script p).port
stays-known t s script p w here watched known = elim (attended-here w t s script p here watched) [
  | inl gone ↦ inl gone
  | inr still ↦
      (let h : SameWatch w (poll_outcome t s script p).port.watch =
      attended-same w t s script p here watched still in
      inr (record {
        here = still;
        watch = h.later;
        watched = h.is;
        introduced = h.introduced ∙ known;
      }))
]

-- ---- what it owes stays

owes-emptied : (presence : Presence) (p : PortData)
    → settings_in (with_no_data presence p).watch ≡ settings_in p.watch
owes-emptied presence p = by-watch p.watch
  where
    by-watch : (watch : Option WatchData)
        → settings_in (option_map initial_watch (settings_in watch)) ≡ settings_in watch
    by-watch None = refl
    by-watch (Some w) = refl

pub took-owes : (s : State) (now jump : ℕ) (p : PortData)
    → settings_in (port_reading s now jump p).port.watch ≡ settings_in p.watch
took-owes s now jump p = by-standing p.presence
  where
    by-word : (said : TimedMessage) (watch : Option WatchData)
        → settings_in (watch_after now said watch) ≡ settings_in watch
    by-word said None = refl
    by-word said (Some w) =
        ap (λ (d : SupervisionSettings). let o : Option SupervisionSettings = Some d in o)
        (known-duties said.message (record w { heard = min now said.moment; last = said.moment }))

    by-judged : (r : Result (Option TimedMessage) DisconnectReason) (f : LineSearchData)
        → settings_in (judged_reading now r f p).port.watch ≡ settings_in p.watch
    by-judged (Err why) f = owes-emptied (Dismissed why) p
    by-judged (Ok None) f = refl
    by-judged (Ok (Some said)) Waiting = refl
    by-judged (Ok (Some said)) Overlong = refl
    by-judged (Ok (Some said)) (Whole line rest) = by-word said p.watch

    by-standing : (presence : Presence)
        → settings_in (presence_reading presence s now jump p).port.watch ≡ settings_in p.watch
    by-standing Absent = refl
    by-standing LossPending = owes-emptied Absent p
    by-standing (Dismissed why) = refl
    by-standing Present = by-judged (judge_port s now jump p) (first_line_of p.buffer)

kept-owes : (w : WatchData) (before : PortData) (r : Result PortData DisconnectReason)
    (calls : List Call)
    → before.watch ≡ Some w → Steady w r
    → settings_in (closed_or_open before r calls).port.watch ≡ Some w.settings
kept-owes w before (Ok q) calls is h =
    let same : SameWatch w q.watch = (h q refl).watch in
    ap settings_in same.is ∙ ap (λ d. let o : Option SupervisionSettings = Some d in o)
    same.settings
kept-owes w before (Err why) calls is h = owes-emptied LossPending before ∙ ap settings_in is

come-owes : (w : WatchData) (before : PortData) (r : Result PortData DisconnectReason)
    (calls : List Call)
    → before.watch ≡ Some w → Steady (initial_watch w.settings) r
    → settings_in (opened_or_closed before r calls).port.watch ≡ Some w.settings
come-owes w before (Ok q) calls is h =
    let same : SameWatch (initial_watch w.settings) q.watch = (h q refl).watch in
    ap settings_in same.is ∙ ap (λ d. let o : Option SupervisionSettings = Some d in o)
    same.settings
come-owes w before (Err why) calls is h = owes-emptied Absent before ∙ ap settings_in is

-- behind a turn
pub attended-owes : (t : ReportedTurn) (s : State) (script : Script) (p : PortData) (w : WatchData)
    → p.watch ≡ Some w → settings_in (poll_outcome t s script p).port.watch ≡ Some w.settings
attended-owes t s script p w is = by-standing p.presence refl
  where
    by-accepted : (taken : Option (Option SocketAddrV4))
        → settings_in (accept_outcome t.now s taken (script.heard, script.again) p).port.watch
        ≡ Some w.settings
    by-accepted None = ap settings_in is
    by-accepted (Some None) = ap settings_in is
    by-accepted (Some (Some from)) =
        let heard : ReadOutcome × ReadOutcome = (script.heard, script.again) in
        let part = first_part t.now s heard (with_no_data Present p) in
        come-owes w p part.after part.calls is
        (steady-begun (initial_watch w.settings) t.now s heard (with_no_data Present p)
        (record {
          here = refl;
          watch = same-watch (initial_watch w.settings) (with_no_data Present p).watch
              (ap (λ watch. option_map initial_watch (settings_in watch)) is);
        }))

    by-standing : (presence : Presence) → p.presence ≡ presence
        → settings_in (outcome_by_presence presence t s script p).port.watch ≡ Some w.settings
    by-standing Absent at = by-accepted script.accepted
    by-standing LossPending at = ap settings_in is
    by-standing (Dismissed why) at = owes-emptied Absent p ∙ ap settings_in is
    by-standing Present at =
        let part = exchange_part t s (script.taken, script.heard) p in
        kept-owes w p part.after part.calls is
        (steady-talked w t s (script.taken, script.heard) p
        (record { here = at; watch = same-watch w p.watch is }))
