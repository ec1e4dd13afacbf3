-- The lines that turns have of a process are those that its octets are cut into.
use Rattle.std.proofs.Common.{◌≡◌, ℕ, ◌-◌, nat_le, Bool, true, false, List, [], ◌∷◌, ◌++◌, filter, drop, Option, Some, None, Result, Ok, Err, refl, sym, ap, ◌∙◌, subst, append_assoc, append-nil}
use Rattle.std.specs.Option.{option_to_list}
use Rattle.std.specs.declared.net.socket_addr.SocketAddrV4.{SocketAddrV4}
use Rattle.bay_device.specs.Device.{State}
use Rattle.bay_lines.specs.LineRemovals.{Comes, RemovedLines, LosesNothing, BufferStep, arrived_octets, removed_lines, after_removal, with_line}
use Rattle.bay_lines.specs.LineRemovals as cuttings
use Rattle.bay_lines.specs.FirstLines.{LineSearchData, Overlong, Waiting, Whole, first_line_of}
use Rattle.bay_lines.proofs.FrontLemmas.{nothing-is-lost}
use Rattle.bay_server_turn.specs.Calls.{Call, Accepts, Reads, Writes, Closes, ReadOutcome, Octets, Silence, StreamEnd, Failure}
use Rattle.bay_process_port.specs.Polling.{PollOutcome, all_output, PollPart, Script, accept_outcome, poll_outcome, outcome_by_presence, connected_outcome, and_then, closed_or_open, first_part, greet_part, offer_part, offer_queue, on_read, read_part, opened_or_closed, exchange_part, with_report_queued}
use Rattle.bay_process_port.specs.Fit.{has_process_event, is_waiting, line_or_none}
use Rattle.bay_process_port.specs.Ports.{PortData, PortReading, with_no_data, empty_port, judge_port, presence_reading, judged_reading, port_reading}
use Rattle.bay_process_port.specs.Releases.{sent_releases_after}
use Rattle.bay_process_port.specs.ProcessOutput.{ReportedTurn, fits_in, greeting_text}
use Rattle.bay_process_port.specs.Uses.{LosesNoLine, StaysPresent, Use, Takes, Polls, after_uses, all_octets_read, all_lines_read, octets_read_by, octets_read, octets_of_read, port_after}
use Rattle.bay_process_port.specs.declared.connection_event.DisconnectReason.{DisconnectReason}
use Rattle.bay_process_port.specs.Supervised.{SupervisionSettings, after_alive_answer, active_at, watch_after}
use Rattle.bay_process_port.specs.declared.connection_event.DisconnectReason.TheVariants.{Ended, QueueFull, LinkFailed}
use Rattle.bay_process_port.specs.declared.supervision.TimedMessage.{TimedMessage}
use Rattle.bay_process_port.proofs.FitLemmas.{judged-line}
use Rattle.bay_process_port.proofs.WatchLemmas.{line-judged}
use Rattle.bay_process_port.specs.declared.port.Presence.TheVariants.{Absent, Present}

-- ---- what is read is kept

given-append : (xs ys : List Call)
    → octets_read_by (xs ++ ys) ≡ octets_read_by xs ++ octets_read_by ys
given-append [] ys = refl
given-append (Accepts a taken ∷ xs) ys = given-append xs ys
given-append (Reads a room heard ∷ xs) ys =
    ap (λ l. octets_of_read heard ++ l) (given-append xs ys)
    ∙ sym (append_assoc (octets_of_read heard) (octets_read_by xs) (octets_read_by ys))
given-append (Writes a octets taken ∷ xs) ys = given-append xs ys
given-append (Closes a ∷ xs) ys = given-append xs ys

-- unless a part led to a closing, what was kept before and then what the link gave is kept
abbrev Keeps : List ℕ → Result PortData DisconnectReason → List Call → Type 0
Keeps buffer after calls = (q : PortData) → after ≡ Ok q → q.buffer ≡ buffer ++ octets_read_by calls

-- the port is as it was, but for what does not matter here
keeps-port : (p : PortData) (buffer : List ℕ) (calls : List Call) → p.buffer ≡ buffer
    → octets_read_by calls ≡ [] → Keeps buffer (Ok p) calls
keeps-port p buffer calls same none q e =
    let is : p ≡ q = cc in
    ap (λ (d : PortData). d.buffer) (sym is) ∙ same ∙ sym (append-nil buffer)
    ∙ ap (λ l. buffer ++ l) (sym none)

keeps-closed : (why : DisconnectReason) (buffer : List ℕ) (calls : List Call)
    → Keeps buffer (Err why) calls
keeps-closed why buffer calls q e = absurd cc

keeps-behind : (buffer : List ℕ) (r : Result PortData DisconnectReason) (calls : List Call)
    (f : PortData → PollPart) → Keeps buffer r calls
    → ((p : PortData) → Keeps p.buffer (f p).after (f p).calls)
    → (let b : PollPart = and_then (record { after = r; calls = calls }) f in
    Keeps buffer b.after b.calls)
keeps-behind buffer (Err why) calls f k next = keeps-closed why buffer calls
keeps-behind buffer (Ok p) calls f k next = λ q e.
    next p q e ∙ ap (λ l. l ++ octets_read_by (f p).calls) (k p refl)
    ∙ append_assoc buffer (octets_read_by calls) (octets_read_by (f p).calls)
    ∙ ap (λ l. buffer ++ l) (sym (given-append calls (f p).calls))

keeps-told : (t : ReportedTurn) (s : State) (p : PortData)
    → Keeps p.buffer (with_report_queued t s p).after (with_report_queued t s p).calls
keeps-told t s p = by-room (fits_in p.queue all) refl
  where
    all : List ℕ
    all = all_output t s p

    by-room : (v : Bool) → fits_in p.queue all ≡ v
        → Keeps p.buffer (with_report_queued t s p).after (with_report_queued t s p).calls
    by-room true e =
        rw e (keeps-port
        (record p {
          queue = p.queue ++ all;
          sent = sent_releases_after s p.sent;
          watch = after_alive_answer p.watch;
        })
        p.buffer
        [] refl refl)
    by-room false e = rw e (keeps-closed QueueFull p.buffer [])

keeps-offered : (queue : List ℕ) (taken : Option ℕ) (p : PortData)
    → Keeps p.buffer (offer_queue queue taken p).after (offer_queue queue taken p).calls
keeps-offered [] taken p = keeps-port p p.buffer [] refl refl
keeps-offered (b ∷ bs) None p = keeps-closed LinkFailed p.buffer (Writes 1 (b ∷ bs) None ∷ [])
keeps-offered (b ∷ bs) (Some n) p =
    keeps-port (record p { queue = drop n p.queue }) p.buffer (Writes 1 (b ∷ bs) (Some n) ∷ []) refl
    refl

keeps-heard : (heard : ReadOutcome) (p : PortData)
    → Keeps p.buffer (on_read heard p (Reads 1 4096 heard ∷ [])).after
    (on_read heard p (Reads 1 4096 heard ∷ [])).calls
keeps-heard (Octets octets) p = λ q e.
    let is : record p { buffer = p.buffer ++ octets } ≡ q = cc in
    ap (λ (d : PortData). d.buffer) (sym is) ∙ ap (λ l. p.buffer ++ l) (sym (append-nil octets))
keeps-heard Silence p = keeps-port p p.buffer (Reads 1 4096 Silence ∷ []) refl refl
keeps-heard StreamEnd p = keeps-closed Ended p.buffer (Reads 1 4096 StreamEnd ∷ [])
keeps-heard Failure p = keeps-closed LinkFailed p.buffer (Reads 1 4096 Failure ∷ [])

keeps-read : (heard : ReadOutcome) (p : PortData)
    → Keeps p.buffer (read_part heard p).after (read_part heard p).calls
keeps-read heard p = by-front (is_waiting (first_line_of p.buffer)) refl
  where
    by-front : (v : Bool) → is_waiting (first_line_of p.buffer) ≡ v
        → Keeps p.buffer (read_part heard p).after (read_part heard p).calls
    by-front true e = rw e (keeps-heard heard p)
    by-front false e = rw e (keeps-port p p.buffer [] refl refl)

keeps-greeted : (now : ℕ) (s : State) (p : PortData)
    → Keeps p.buffer (greet_part now s p).after (greet_part now s p).calls
keeps-greeted now s p = by-room (fits_in p.queue (greeting_text now s p.watch)) refl
  where
    by-room : (v : Bool) → fits_in p.queue (greeting_text now s p.watch) ≡ v
        → Keeps p.buffer (greet_part now s p).after (greet_part now s p).calls
    by-room true e =
        rw e (keeps-port
        (record p { queue = p.queue ++ greeting_text now s p.watch; watch = active_at now p.watch })
        p.buffer [] refl refl)
    by-room false e = rw e (keeps-closed QueueFull p.buffer [])

keeps-talked : (t : ReportedTurn) (s : State) (answers : Option ℕ × ReadOutcome) (p : PortData)
    → Keeps p.buffer (exchange_part t s answers p).after (exchange_part t s answers p).calls
keeps-talked t s answers p =
    let a = with_report_queued t s p in
    let ka = keeps-behind p.buffer a.after a.calls (offer_part answers.0) (keeps-told t s p)
    (λ q. keeps-offered q.queue answers.0 q) in
    let b = and_then a (offer_part answers.0) in
    keeps-behind p.buffer b.after b.calls (read_part answers.1) ka (keeps-read answers.1)

-- where the process is still there, it was read into what is kept
kept-here : (before : PortData) (r : Result PortData DisconnectReason) (calls : List Call)
    (buffer : List ℕ) → Keeps buffer r calls
    → (closed_or_open before r calls).port.presence ≡ Present
    → (closed_or_open before r calls).port.buffer
    ≡ buffer ++ octets_read_by (closed_or_open before r calls).calls
kept-here before (Ok q) calls buffer k here = k q refl
kept-here before (Err why) calls buffer k here = absurd cc

pub attends-keep : (t : ReportedTurn) (s : State) (script : Script) (p : PortData)
    → p.presence ≡ Present
    → (poll_outcome t s script p).port.presence ≡ Present
    → (poll_outcome t s script p).port.buffer
    ≡ p.buffer ++ octets_read_by (poll_outcome t s script p).calls
attends-keep t s script p here still =
    let part = exchange_part t s (script.taken, script.heard) p in
    let is : poll_outcome t s script p ≡ connected_outcome p part =
    ap (λ presence. outcome_by_presence presence t s script p) here in
    subst (λ (a : PollOutcome). a.port.presence ≡ Present
    → a.port.buffer ≡ p.buffer ++ octets_read_by a.calls)
    (sym is)
    (kept-here p part.after part.calls p.buffer (keeps-talked t s (script.taken, script.heard) p))
    still

-- what a process that is taken has sent meanwhile is kept
taken-keep : (before : PortData) (r : Result PortData DisconnectReason) (calls : List Call)
    (buffer : List ℕ) → Keeps buffer r calls
    → (opened_or_closed before r calls).port.presence ≡ Present
    → (opened_or_closed before r calls).port.buffer
    ≡ buffer ++ octets_read_by (opened_or_closed before r calls).calls
taken-keep before (Ok q) calls buffer k here = k q refl
taken-keep before (Err why) calls buffer k here = absurd cc

pub comes-keep : (sends : Bool) (settings : Option SupervisionSettings) (now : ℕ) (s : State)
    (accepted : Option (Option SocketAddrV4)) (heard : ReadOutcome × ReadOutcome)
    → (accept_outcome now s accepted heard (empty_port sends settings Absent)).port.presence
    ≡ Present
    → (accept_outcome now s accepted heard (empty_port sends settings Absent)).port.buffer
    ≡ octets_read_by (accept_outcome now s accepted heard (empty_port sends settings Absent)).calls
comes-keep sends settings now s None heard here = absurd cc
comes-keep sends settings now s (Some None) heard here = absurd cc
comes-keep sends settings now s (Some (Some from)) heard here =
    let p = with_no_data Present (empty_port sends settings Absent) in
    let g = greet_part now s p in
    let a = and_then g (read_part heard.0) in
    let part = first_part now s heard p in
    taken-keep (empty_port sends settings Absent) part.after part.calls []
    (keeps-behind [] a.after a.calls (read_part heard.1)
    (keeps-behind [] g.after g.calls (read_part heard.0) (keeps-greeted now s p)
    (keeps-read heard.0))
    (keeps-read heard.1))
    here

-- ---- uses are moves

abbrev pub line_moves : LineSearchData → List BufferStep → List BufferStep
line_moves Waiting moves = moves
line_moves Overlong moves = moves
line_moves (Whole line rest) moves = cuttings.Takes ∷ moves

-- what was judged takes a line, or none
abbrev pub moves_by : Result (Option TimedMessage) DisconnectReason → LineSearchData
    → List BufferStep
    → List BufferStep
moves_by (Err why) f moves = moves
moves_by (Ok None) f moves = moves
moves_by (Ok (Some said)) f moves = line_moves f moves

abbrev pub line_cut : LineSearchData → List ℕ → List BufferStep → RemovedLines
line_cut Waiting buffer moves = removed_lines moves buffer
line_cut Overlong buffer moves = removed_lines moves buffer
line_cut (Whole line rest) buffer moves = with_line line (removed_lines moves rest)

abbrev pub cut_by : Result (Option TimedMessage) DisconnectReason → LineSearchData → List ℕ
    → List BufferStep → RemovedLines
cut_by (Err why) f buffer moves = removed_lines moves buffer
cut_by (Ok None) f buffer moves = removed_lines moves buffer
cut_by (Ok (Some said)) f buffer moves = line_cut f buffer moves

pub cut-is : (r : Result (Option TimedMessage) DisconnectReason) (f : LineSearchData)
    (buffer : List ℕ) (moves : List BufferStep) → first_line_of buffer ≡ f
    → removed_lines (moves_by r f moves) buffer ≡ cut_by r f buffer moves
cut-is (Err why) f buffer moves is = refl
cut-is (Ok None) f buffer moves is = refl
cut-is (Ok (Some said)) Waiting buffer moves is = refl
cut-is (Ok (Some said)) Overlong buffer moves is = refl
cut-is (Ok (Some said)) (Whole line rest) buffer moves is =
    ap (λ f. after_removal f buffer (removed_lines moves)) is

unfoldable pub moves_of : List Use → PortData → List BufferStep
moves_of [] p = []
moves_of (Takes s now jump ∷ us) p =
    moves_by (judge_port s now jump p) (first_line_of p.buffer)
    (moves_of us (port_after (Takes s now jump) p))
moves_of (Polls t s script ∷ us) p =
    Comes (octets_read (Polls t s script) p)
    ∷ moves_of us (port_after (Polls t s script) p)

-- What is kept, the lines that turns had, and what came are those of a cutting.
pub record Follows (moves : List BufferStep) (c : RemovedLines) (buffer all : List ℕ)
    (lines_read : List (List ℕ))
    : Type 0 where
  pub keeps : c.kept ≡ buffer
  pub had_is : lines_read ≡ filter has_process_event c.lines
  pub all_is : arrived_octets moves ≡ all

abbrev pub UseFollows : List Use → PortData → Type 0
UseFollows us p =
    Follows (moves_of us p) (removed_lines (moves_of us p) p.buffer) (after_uses us p).buffer
    (all_octets_read us p) (all_lines_read us p)

-- a line is had where it tells something
had-told : (line : List ℕ) (lines_read lines : List (List ℕ))
    → lines_read ≡ filter has_process_event lines
    → option_to_list (line_or_none line) ++ lines_read ≡ filter has_process_event (line ∷ lines)
had-told line lines_read lines e = by-told (has_process_event line) refl
  where
    by-told : (v : Bool) → has_process_event line ≡ v
        → option_to_list (line_or_none line) ++ lines_read ≡ filter has_process_event (line ∷ lines)
    by-told true is = rw is (ap (λ l. line ∷ l) e)
    by-told false is = rw is e

-- what a turn takes, and the uses behind it
record TakeFollows (c : RemovedLines) (moves : List BufferStep) (us : List Use) (t : PortReading)
    : Type 0 where
  keeps : c.kept ≡ (after_uses us t.port).buffer
  had_is : option_to_list t.line ++ all_lines_read us t.port ≡ filter has_process_event c.lines
  all_is : arrived_octets moves ≡ all_octets_read us t.port

takes-follow : (s : State) (now jump : ℕ) (us : List Use) (p : PortData)
    (r : Result (Option TimedMessage) DisconnectReason) (f : LineSearchData)
    → judge_port s now jump p ≡ r → first_line_of p.buffer ≡ f
    → (judged_reading now r f p).port.presence ≡ Present
    → UseFollows us (judged_reading now r f p).port
    → (let moves = moves_of us (judged_reading now r f p).port in
    TakeFollows (cut_by r f p.buffer moves) (moves_by r f moves) us (judged_reading now r f p))
takes-follow s now jump us p (Err why) f is there here h = absurd cc
takes-follow s now jump us p (Ok None) f is there here h =
    record { keeps = h.keeps; had_is = h.had_is; all_is = h.all_is }
takes-follow s now jump us p (Ok (Some said)) Waiting is there here h =
    record { keeps = h.keeps; had_is = h.had_is; all_is = h.all_is }
takes-follow s now jump us p (Ok (Some said)) Overlong is there here h =
    record { keeps = h.keeps; had_is = h.had_is; all_is = h.all_is }
takes-follow s now jump us p (Ok (Some said)) (Whole line rest) is there here h =
    let q : PortData = record p { buffer = rest; watch = watch_after now said p.watch } in
    record {
      keeps = h.keeps;
      had_is =
          ap (λ o. option_to_list o ++ all_lines_read us q)
          (judged-line p.watch s now line said (line-judged s now jump p line rest said there is))
          ∙ had-told line (all_lines_read us q) (removed_lines (moves_of us q) rest).lines h.had_is;
      all_is = h.all_is;
    }

uses-follow : (us : List Use) (p : PortData) → p.presence ≡ Present → StaysPresent us p
    → UseFollows us p
unfolding moves_of
uses-follow [] p here stays = record { keeps = refl; had_is = refl; all_is = refl }
uses-follow (Takes s now jump ∷ us) p here stays =
    let r = judge_port s now jump p in
    let f = first_line_of p.buffer in
    let is : port_reading s now jump p ≡ judged_reading now r f p =
    ap (λ presence. presence_reading presence s now jump p) here in
    let later : UseFollows us (port_reading s now jump p).port =
    uses-follow us (port_reading s now jump p).port stays.0 stays.1 in
    let moves = moves_of us (port_reading s now jump p).port in
    let t : TakeFollows (cut_by r f p.buffer moves) (moves_by r f moves) us
    (port_reading s now jump p) =
    subst (λ (t : PortReading). (let moves = moves_of us t.port in
    TakeFollows (cut_by r f p.buffer moves) (moves_by r f moves) us t))
    (sym is)
    (takes-follow s now jump us p r f refl refl
    (ap (λ (t : PortReading). t.port.presence) (sym is) ∙ stays.0)
    (subst (λ (t : PortReading). UseFollows us t.port) is later)) in
    let cut = cut-is r f p.buffer moves refl in
    record {
      keeps = ap (λ (c : RemovedLines). c.kept) cut ∙ t.keeps;
      had_is = t.had_is ∙ ap (λ (c : RemovedLines). filter has_process_event c.lines) (sym cut);
      all_is = t.all_is;
    }
uses-follow (Polls t s script ∷ us) p here stays =
    let u = Polls t s script in
    let q = port_after u p in
    let later : UseFollows us q = uses-follow us q stays.0 stays.1 in
    let same = attends-keep t s script p here stays.0 in
    record {
      keeps = ap (λ k. (removed_lines (moves_of us q) k).kept) (sym same) ∙ later.keeps;
      had_is =
          later.had_is ∙ ap (λ k. filter has_process_event (removed_lines (moves_of us q) k).lines)
          same;
      all_is = ap (λ l. octets_read u p ++ l) later.all_is;
    }

-- from the acceptance on
pub starts-follow : (sends : Bool) (settings : Option SupervisionSettings) (us : List Use)
    → StaysPresent us (empty_port sends settings Absent)
    → UseFollows us (empty_port sends settings Absent)
unfolding moves_of
starts-follow sends settings [] stays = record { keeps = refl; had_is = refl; all_is = refl }
starts-follow sends settings (Takes s now jump ∷ us) stays = absurd cc
starts-follow sends settings (Polls t s script ∷ us) stays =
    let u = Polls t s script in
    let p0 = empty_port sends settings Absent in
    let q = port_after u p0 in
    let later : UseFollows us q = uses-follow us q stays.0 stays.1 in
    let same =
    comes-keep sends settings t.now s script.accepted (script.heard, script.again) stays.0 in
    record {
      keeps = ap (λ k. (removed_lines (moves_of us q) k).kept) (sym same) ∙ later.keeps;
      had_is =
          later.had_is ∙ ap (λ k. filter has_process_event (removed_lines (moves_of us q) k).lines)
          same;
      all_is = ap (λ l. octets_read u p0 ++ l) later.all_is;
    }

pub loses-no-line : (sends : Bool) (settings : Option SupervisionSettings) (us : List Use)
    → StaysPresent us (empty_port sends settings Absent) → LosesNoLine sends settings us
loses-no-line sends settings us stays =
    let p = empty_port sends settings Absent in
    let f : UseFollows us p = starts-follow sends settings us stays in
    let cut : LosesNothing (moves_of us p) = nothing-is-lost (moves_of us p) in
    record {
      lines = (removed_lines (moves_of us p) []).lines;
      text = cut.text;
      are = cut.lines;
      given = sym f.all_is ∙ cut.whole ∙ ap (λ l. cut.text ++ l) f.keeps;
      lines_read = f.had_is;
    }
