-- Lemmas on what holds of the port of a process.
use Rattle.std.proofs.Common.{◌≡◌, ℕ, ◌-◌, Bool, ◌||◌, true, false, nat_le, List, [], ◌∷◌, ◌++◌, take, drop, Option, None, Some, Result, Ok, Err, refl, sym, ap, ◌∙◌, append_assoc, append-nil, take-append-drop}
use Rattle.std.specs.declared.net.socket_addr.SocketAddrV4.{SocketAddrV4}
use Rattle.bay_device.specs.Device.{State}
use Rattle.bay_lines.specs.FirstLines.{LineSearchData, Waiting, Overlong, Whole, first_line_of}
use Rattle.bay_process_port.specs.Polling.{PollOutcome, all_output, PollPart, Script, accept_outcome, poll_outcome, outcome_by_presence, connected_outcome, and_then, closed_or_open, first_part, greet_part, offer_part, offer_queue, on_read, read_part, opened_or_closed, exchange_part, with_report_queued, after_greeting}
use Rattle.bay_process_port.specs.Fit.{is_waiting}
use Rattle.bay_process_port.specs.Laws.{IsReadable, ReportsNothing, WritesInOrder, reads_end, is_end, accepted_octets}
use Rattle.bay_process_port.specs.Ports.{PortData, PortReading, dismissed_reading, with_no_data, judge_port, presence_reading, judged_reading}
use Rattle.bay_process_port.specs.Releases.{sent_releases_after}
use Rattle.bay_process_port.specs.ProcessOutput.{ReportedTurn, fits_in}
use Rattle.bay_process_port.specs.Supervised.{after_alive_answer}
use Rattle.bay_process_port.specs.declared.connection_event.ConnectionEvent.TheVariants.{Closed, Opened}
use Rattle.bay_process_port.specs.declared.connection_event.DisconnectReason.{DisconnectReason}
use Rattle.bay_process_port.specs.declared.port.Presence.{Presence}
use Rattle.bay_process_port.specs.declared.port.Presence.TheVariants.{Absent, LossPending, Dismissed, Present}
use Rattle.bay_process_port.specs.declared.supervision.TimedMessage.{TimedMessage}
use Rattle.bay_server_turn.specs.Calls.{Call, Accepts, Reads, Writes, Closes, ReadOutcome, Octets, Silence, StreamEnd, Failure}
use Rattle.bay_server_turn.specs.Served.{report_of_event, event_in_line, input_of_event}
use Rattle.bay_process_port.proofs.AttendLemmas.{greet-calls}
use Rattle.bay_process_port.proofs.FitLemmas.{judged-readable}
use Rattle.bay_process_port.proofs.WatchLemmas.{line-judged}

-- ---- lines that are read

by-readable : (s : State) (now jump : ℕ) (p : PortData) (line : List ℕ)
    (r : Result (Option TimedMessage) DisconnectReason) (f : LineSearchData)
    → judge_port s now jump p ≡ r → first_line_of p.buffer ≡ f
    → (judged_reading now r f p).line ≡ Some line
    → input_of_event (event_in_line s line) ≡ Ok (report_of_event (judged_reading now r f p).event)
by-readable s now jump p line (Err why) f is there e = absurd cc
by-readable s now jump p line (Ok None) f is there e = absurd cc
by-readable s now jump p line (Ok (Some said)) Waiting is there e = absurd cc
by-readable s now jump p line (Ok (Some said)) Overlong is there e = absurd cc
by-readable s now jump p line (Ok (Some said)) (Whole text rest) is there e =
    judged-readable p.watch s now text line said
    (line-judged s now jump p text rest said there is) e

taken-readable : (presence : Presence) (s : State) (now jump : ℕ) (p : PortData) (line : List ℕ)
    → (presence_reading presence s now jump p).line ≡ Some line
    → input_of_event (event_in_line s line)
    ≡ Ok (report_of_event (presence_reading presence s now jump p).event)
taken-readable Absent s now jump p line e = absurd cc
taken-readable LossPending s now jump p line e = absurd cc
taken-readable (Dismissed why) s now jump p line e = absurd cc
taken-readable Present s now jump p line e =
    by-readable s now jump p line (judge_port s now jump p) (first_line_of p.buffer) refl refl e

pub is-readable : (s : State) (now jump : ℕ) (p : PortData) → IsReadable s now jump p
is-readable s now jump p line e = taken-readable p.presence s now jump p line e

-- ---- a process that has gone

closed-empty : (before : PortData) (r : Result PortData DisconnectReason) (calls : List Call)
    (why : DisconnectReason) → (closed_or_open before r calls).connection_event ≡ Some (Closed why)
    → (closed_or_open before r calls).port ≡ with_no_data LossPending before
closed-empty before (Ok p) calls why e = absurd cc
closed-empty before (Err w) calls why e = refl

-- one that has gone while it waited
record Untaken (p : PortData) (a : PollOutcome) : Type 0 where
  connection_event : a.connection_event ≡ None
  port : a.port ≡ with_no_data Absent p

-- a call that brought no end
ends-none : (calls : List Call) (call : Call) → reads_end (call ∷ []) ≡ false
    → reads_end (calls ++ call ∷ []) ≡ true → reads_end calls ≡ true
ends-none [] call none ends = let no : true ≡ false = sym ends ∙ none in absurd cc
ends-none (Accepts a taken ∷ calls) call none ends = ends-none calls call none ends
ends-none (Reads a room heard ∷ calls) call none ends =
    by-end (is_end heard) (ends-none calls call none) ends
  where
    by-end : (v : Bool) → (reads_end (calls ++ call ∷ []) ≡ true → reads_end calls ≡ true)
        → (v || reads_end (calls ++ call ∷ [])) ≡ true → (v || reads_end calls) ≡ true
    by-end true more e = refl
    by-end false more e = more e
ends-none (Writes a octets taken ∷ calls) call none ends = ends-none calls call none ends
ends-none (Closes a ∷ calls) call none ends = ends-none calls call none ends

-- a read that brought an end
read-ended : (before : PortData) (heard : ReadOutcome) (p : PortData) (calls : List Call)
    → reads_end calls ≡ false → reads_end (calls ++ (read_part heard p).calls) ≡ true
    → Untaken before
    (opened_or_closed before (read_part heard p).after (calls ++ (read_part heard p).calls))
read-ended before heard p calls none = by-front (is_waiting (first_line_of p.buffer)) refl
  where
    by-heard : (h : ReadOutcome)
        → (let part = on_read h p (Reads 1 4096 h ∷ []) in
        reads_end (calls ++ part.calls) ≡ true
        → Untaken before (opened_or_closed before part.after (calls ++ part.calls)))
    by-heard (Octets octets) ends =
        let no : reads_end calls ≡ true =
        ends-none calls (Reads 1 4096 (Octets octets)) refl ends in
        absurd cc
    by-heard Silence ends =
        let no : reads_end calls ≡ true = ends-none calls (Reads 1 4096 Silence) refl ends in
        absurd cc
    by-heard StreamEnd ends = record { connection_event = refl; port = refl }
    by-heard Failure ends = record { connection_event = refl; port = refl }

    by-front : (v : Bool) → is_waiting (first_line_of p.buffer) ≡ v
        → reads_end (calls ++ (read_part heard p).calls) ≡ true
        → Untaken before
        (opened_or_closed before (read_part heard p).after (calls ++ (read_part heard p).calls))
    by-front true e = rw e (by-heard heard)
    by-front false e = rw e (λ ends.
        let no : reads_end calls ≡ true = ap reads_end (sym (append-nil calls)) ∙ ends in
        absurd cc)

-- what was done before a read, and the read
behind-ended : (before : PortData) (r : Result PortData DisconnectReason) (calls : List Call)
    (heard : ReadOutcome)
    → (reads_end calls ≡ true → Untaken before (opened_or_closed before r calls))
    → (let part = and_then (record { after = r; calls = calls }) (read_part heard) in
    reads_end part.calls ≡ true
    → Untaken before (opened_or_closed before part.after part.calls))
behind-ended before (Err why) calls heard first ends =
    record { connection_event = refl; port = refl }
behind-ended before (Ok p) calls heard first ends = by-calls (reads_end calls) refl
  where
    by-calls : (v : Bool) → reads_end calls ≡ v
        → Untaken before
        (opened_or_closed before (read_part heard p).after (calls ++ (read_part heard p).calls))
    by-calls true e = let u = first e in absurd (opened u.connection_event)
      where
        opened : Some Opened ≡ None → ⊥
        opened is = cc
    by-calls false e = read-ended before heard p calls e ends

first-untaken : (now : ℕ) (s : State) (before : PortData) (heard : ReadOutcome × ReadOutcome)
    → reads_end (first_part now s heard (with_no_data Present before)).calls ≡ true
    → Untaken before (after_greeting before (first_part now s heard (with_no_data Present before)))
first-untaken now s before heard =
    let g = greet_part now s (with_no_data Present before) in
    let a = and_then g (read_part heard.0) in
    behind-ended before a.after a.calls heard.1
    (behind-ended before g.after g.calls heard.0
    (λ ends. let no : false ≡ true =
    ap reads_end (sym (greet-calls now s (with_no_data Present before))) ∙ ends in absurd cc))

-- a closing ends nothing
closes-nothing : (calls : List Call) → reads_end (calls ++ Closes 1 ∷ []) ≡ reads_end calls
closes-nothing [] = refl
closes-nothing (Accepts a taken ∷ calls) = closes-nothing calls
closes-nothing (Reads a room heard ∷ calls) = ap (λ v. is_end heard || v) (closes-nothing calls)
closes-nothing (Writes a octets taken ∷ calls) = closes-nothing calls
closes-nothing (Closes a ∷ calls) = closes-nothing calls

welcomed-ends : (before : PortData) (r : Result PortData DisconnectReason) (calls : List Call)
    → reads_end (opened_or_closed before r calls).calls ≡ reads_end calls
welcomed-ends before (Ok p) calls = refl
welcomed-ends before (Err why) calls = closes-nothing calls

accepted-untaken : (now : ℕ) (s : State) (taken : Option (Option SocketAddrV4))
    (heard : ReadOutcome × ReadOutcome) (p : PortData)
    → reads_end (accept_outcome now s taken heard p).calls ≡ true
    → Untaken p (accept_outcome now s taken heard p)
accepted-untaken now s None heard p ends = absurd cc
accepted-untaken now s (Some None) heard p ends = absurd cc
accepted-untaken now s (Some (Some from)) heard p ends =
    let part = first_part now s heard (with_no_data Present p) in
    let u = first-untaken now s p heard (sym (welcomed-ends p part.after part.calls) ∙ ends) in
    record { connection_event = u.connection_event; port = u.port }

dismissed-is : (s : State) (now jump : ℕ) (p : PortData) (why : DisconnectReason)
    (r : Result (Option TimedMessage) DisconnectReason) (f : LineSearchData)
    → p.presence ≡ Present → (judged_reading now r f p).port.presence ≡ Dismissed why
    → judged_reading now r f p ≡ dismissed_reading why p
dismissed-is s now jump p why (Err w) f here e =
    let both : Dismissed w ≡ Dismissed why = e in
    let same : w ≡ why = cc in
    ap (λ w. dismissed_reading w p) same
dismissed-is s now jump p why (Ok None) f here e =
    let no : Present ≡ Dismissed why = sym here ∙ e in absurd cc
dismissed-is s now jump p why (Ok (Some said)) Waiting here e =
    let no : Present ≡ Dismissed why = sym here ∙ e in absurd cc
dismissed-is s now jump p why (Ok (Some said)) Overlong here e =
    let no : Present ≡ Dismissed why = sym here ∙ e in absurd cc
dismissed-is s now jump p why (Ok (Some said)) (Whole line rest) here e =
    let no : Present ≡ Dismissed why = sym here ∙ e in absurd cc

pub is-silent : (t : ReportedTurn) (s : State) (now jump : ℕ) (script : Script) (p : PortData)
    → ReportsNothing t s now jump script p
is-silent t s now jump script p = record {
  closed = λ why here e.
      let part = exchange_part t s (script.taken, script.heard) p in
      let is = ap (λ presence. outcome_by_presence presence t s script p) here in
      ap (λ (a : PollOutcome). a.port) is
      ∙ closed-empty p part.after part.calls why
      (ap (λ (a : PollOutcome). a.connection_event) (sym is) ∙ e);
  lost = λ leaving. ap (λ presence. presence_reading presence s now jump p) leaving;
  dismisses = λ why here e.
      let is = ap (λ presence. presence_reading presence s now jump p) here in
      is ∙ dismissed-is s now jump p why (judge_port s now jump p) (first_line_of p.buffer) here
      (ap (λ (x : PortReading). x.port.presence) (sym is) ∙ e);
  parts = λ why leaving. ap (λ presence. outcome_by_presence presence t s script p) leaving;
  calls = λ leaving. ap (λ presence. (outcome_by_presence presence t s script p).calls) leaving;
  not_accepted = λ away ends.
      let is = ap (λ presence. outcome_by_presence presence t s script p) away in
      let u = accepted-untaken t.now s script.accepted (script.heard, script.again) p
      (ap (λ (a : PollOutcome). reads_end a.calls) (sym is) ∙ ends) in (
        ap (λ (a : PollOutcome). a.connection_event) is ∙ u.connection_event,
        ap (λ (a : PollOutcome). a.port) is ∙ u.port,
      );
}

-- ---- what is told

taken-append : (xs ys : List Call)
    → accepted_octets (xs ++ ys) ≡ accepted_octets xs ++ accepted_octets ys
taken-append [] ys = refl
taken-append (Accepts a taken ∷ xs) ys = taken-append xs ys
taken-append (Reads a room heard ∷ xs) ys = taken-append xs ys
taken-append (Writes a octets None ∷ xs) ys = taken-append xs ys
taken-append (Writes a octets (Some n) ∷ xs) ys =
    ap (λ l. take n octets ++ l) (taken-append xs ys)
    ∙ sym (append_assoc (take n octets) (accepted_octets xs) (accepted_octets ys))
taken-append (Closes a ∷ xs) ys = taken-append xs ys

-- a part took a front of what was to be told, and the rest still waits, unless it led to a closing
record Tells (all : List ℕ) (part : PollPart) : Type 0 where
  rest : List ℕ
  whole : all ≡ accepted_octets part.calls ++ rest
  waits : (p : PortData) → part.after ≡ Ok p → p.queue ≡ rest

tells-behind : (all : List ℕ) (r : Result PortData DisconnectReason) (calls : List Call)
    (f : PortData → PollPart) → Tells all (record { after = r; calls = calls })
    → ((p : PortData) → Tells p.queue (f p))
    → Tells all (and_then (record { after = r; calls = calls }) f)
tells-behind all (Err why) calls f t next =
    record { rest = t.rest; whole = t.whole; waits = λ p e. absurd cc }
tells-behind all (Ok p) calls f t next =
    let n = next p in
    record {
      rest = n.rest;
      whole = t.whole
          ∙ ap (λ l. accepted_octets calls ++ l) (sym (t.waits p refl) ∙ n.whole)
          ∙ sym (append_assoc (accepted_octets calls) (accepted_octets (f p).calls) n.rest)
          ∙ ap (λ l. l ++ n.rest) (sym (taken-append calls (f p).calls));
      waits = n.waits;
    }

tells-told : (t : ReportedTurn) (s : State) (p : PortData)
    → Tells (p.queue ++ all_output t s p) (with_report_queued t s p)
tells-told t s p = by-room (fits_in p.queue all) refl
  where
    all : List ℕ
    all = all_output t s p

    by-room : (v : Bool) → fits_in p.queue all ≡ v
        → Tells (p.queue ++ all) (with_report_queued t s p)
    by-room true e = rw e (record {
      rest = p.queue ++ all;
      whole = refl;
      waits = λ q is.
          let same : record p {
            queue = p.queue ++ all;
            sent = sent_releases_after s p.sent;
            watch = after_alive_answer p.watch;
          }
          ≡ q = cc in
          ap (λ (d : PortData). d.queue) (sym same);
    })
    by-room false e =
        rw e (record { rest = p.queue ++ all; whole = refl; waits = λ q is. absurd cc })

tells-taken : (queue : List ℕ) (taken : Option ℕ) (p : PortData) → p.queue ≡ queue
    → Tells queue (offer_queue queue taken p)
tells-taken [] taken p is =
    record {
      rest = [];
      whole = refl;
      waits = λ q e. let same : p ≡ q = cc in ap (λ (d : PortData). d.queue) (sym same) ∙ is;
    }
tells-taken (b ∷ bs) None p is =
    record { rest = b ∷ bs; whole = refl; waits = λ q e. absurd cc }
tells-taken (b ∷ bs) (Some n) p is =
    record {
      rest = drop n (b ∷ bs);
      whole = sym (take-append-drop n (b ∷ bs))
          ∙ ap (λ l. l ++ drop n (b ∷ bs)) (sym (append-nil (take n (b ∷ bs))));
      waits = λ q e. let same : record p { queue = drop n p.queue } ≡ q = cc in
          ap (λ (d : PortData). d.queue) (sym same) ∙ ap (drop n) is;
    }

tells-read : (heard : ReadOutcome) (p : PortData) → Tells p.queue (read_part heard p)
tells-read heard p = by-front (is_waiting (first_line_of p.buffer)) refl
  where
    by-heard : (h : ReadOutcome) → Tells p.queue (on_read h p (Reads 1 4096 h ∷ []))
    by-heard (Octets octets) = record {
      rest = p.queue;
      whole = refl;
      waits = λ q e. let same : record p { buffer = p.buffer ++ octets } ≡ q = cc in
          ap (λ (d : PortData). d.queue) (sym same);
    }
    by-heard Silence = record {
      rest = p.queue;
      whole = refl;
      waits = λ q e. let same : p ≡ q = cc in ap (λ (d : PortData). d.queue) (sym same);
    }
    by-heard StreamEnd = record { rest = p.queue; whole = refl; waits = λ q e. absurd cc }
    by-heard Failure = record { rest = p.queue; whole = refl; waits = λ q e. absurd cc }

    by-front : (v : Bool) → is_waiting (first_line_of p.buffer) ≡ v
        → Tells p.queue (read_part heard p)
    by-front true e = rw e (by-heard heard)
    by-front false e = rw e (record {
      rest = p.queue;
      whole = refl;
      waits = λ q e. let same : p ≡ q = cc in ap (λ (d : PortData). d.queue) (sym same);
    })

tells-talked : (t : ReportedTurn) (s : State) (answers : Option ℕ × ReadOutcome) (p : PortData)
    → Tells (p.queue ++ all_output t s p) (exchange_part t s answers p)
tells-talked t s answers p =
    let all = p.queue ++ all_output t s p in
    let a = with_report_queued t s p in
    let ta = tells-behind all a.after a.calls (offer_part answers.0)
    (record {
      rest = (tells-told t s p).rest;
      whole = (tells-told t s p).whole;
      waits = (tells-told t s p).waits;
    })
    (λ q. tells-taken q.queue answers.0 q refl) in
    let b = and_then a (offer_part answers.0) in
    tells-behind all b.after b.calls (read_part answers.1)
    (record { rest = ta.rest; whole = ta.whole; waits = ta.waits })
    (λ q. tells-read answers.1 q)

closed-tells : (all : List ℕ) (before : PortData) (r : Result PortData DisconnectReason)
    (calls : List Call) (rest : List ℕ) → all ≡ accepted_octets calls ++ rest
    → all ≡ accepted_octets (closed_or_open before r calls).calls ++ rest
closed-tells all before (Ok p) calls rest e = e
closed-tells all before (Err why) calls rest e =
    e ∙ ap (λ l. l ++ rest)
    (sym (append-nil (accepted_octets calls)) ∙ sym (taken-append calls (Closes 1 ∷ [])))

kept-waits : (before : PortData) (r : Result PortData DisconnectReason) (calls : List Call)
    (rest : List ℕ) → ((p : PortData) → r ≡ Ok p → p.queue ≡ rest)
    → (closed_or_open before r calls).connection_event ≡ None
    → (closed_or_open before r calls).port.queue ≡ rest
kept-waits before (Ok p) calls rest waits e = waits p refl
kept-waits before (Err why) calls rest waits e = absurd cc

pub tells-in-order : (t : ReportedTurn) (s : State) (script : Script) (p : PortData)
    → p.presence ≡ Present → WritesInOrder t s script p
tells-in-order t s script p here =
    let part = exchange_part t s (script.taken, script.heard) p in
    let sent = tells-talked t s (script.taken, script.heard) p in
    let is : poll_outcome t s script p ≡ connected_outcome p part =
    ap (λ presence. outcome_by_presence presence t s script p) here in
    record {
      rest = sent.rest;
      whole = closed-tells (p.queue ++ all_output t s p) p part.after part.calls sent.rest
          sent.whole
          ∙ ap (λ (a : PollOutcome). accepted_octets a.calls ++ sent.rest) (sym is);
      waits = λ none. ap (λ (a : PollOutcome). a.port.queue) is
          ∙ kept-waits p part.after part.calls sent.rest sent.waits
          (ap (λ (a : PollOutcome). a.connection_event) (sym is) ∙ none);
    }
