-- Lemmas on lines that a turn can take.
use Rattle.std.proofs.Common.{◌≡◌, ℕ, nat_lt, Bool, true, false, List, [], ◌∷◌, if◌then◌else◌, Option, None, Some, is_some, option_and_then, Result, Ok, Err, refl, sym, ap, ◌∙◌}
use Rattle.bay_device.specs.Device.{State}
use Rattle.bay_server_turn.specs.Served.{process_event, report_of_event, event_in_line, input_of_event}
use Rattle.bay_process_port.specs.Introduction.{introduction_moment}
use Rattle.bay_server_turn.specs.Supervised.{timed_line_of}
use Rattle.bay_server_turn.specs.declared.process_input.ProcessEvent.{ProcessEvent}
use Rattle.bay_server_turn.specs.declared.supervised.TimedLine.{TimedLine}
use Rattle.bay_process_port.proofs.IntroductionLemmas.{introduced-untold}
use Rattle.bay_server_turn.proofs.SupervisedLemmas.{timed-told}
use Rattle.bay_trace.specs.Trace.{LineData, NamedData, blank, at_moment, connects, receives, disconnects, contact, input, measure, bad_measure, lost, scan, process_of, trace_line_of}
use Rattle.bay_trace.specs.Trace as trace
use Rattle.bay_process_port.specs.Fit.{has_process_event, line_or_none}
use Rattle.bay_process_port.specs.Supervised.{SupervisionSettings, WatchData, event_in, judge_introduction, is_timely, judge_line, line_in, judge_plain_line, judge_later_line, judge_moment, event_message}
use Rattle.bay_process_port.specs.declared.connection_event.DisconnectReason.{DisconnectReason}
use Rattle.bay_process_port.specs.declared.connection_event.DisconnectReason.TheVariants.{OutOfOrder}
use Rattle.bay_process_port.specs.declared.supervision.ProcessMessage.{ProcessMessage}
use Rattle.bay_process_port.specs.declared.supervision.ProcessMessage.TheVariants.{Blank, Reports, Introduces, Lives}
use Rattle.bay_process_port.specs.declared.supervision.TimedMessage.{TimedMessage}

event-some : (s : State) (named : NamedData)
    → is_some (option_and_then (process_event s) (trace.process_event named))
    ≡ is_some (trace.process_event named)
event-some s (connects a) = refl
event-some s (receives a octets) = refl
event-some s (disconnects a) = refl
event-some s (contact id position) = refl
event-some s (input name value) = refl
event-some s (measure id field value) = refl
event-some s (bad_measure id field) = refl
event-some s lost = refl
event-some s scan = refl

line-some : (s : State) (line : Option LineData)
    → is_some (option_and_then (process_event s) (process_of line)) ≡ is_some (process_of line)
line-some s None = refl
line-some s (Some blank) = refl
line-some s (Some (at_moment moment named)) = event-some s named

-- a line tells of an event of a device exactly where it tells of one
pub told-some : (s : State) (line : List ℕ)
    → is_some (event_in_line s line) ≡ has_process_event line
told-some s line = line-some s (trace_line_of line)

-- ---- what a line comes to is what it tells

-- what is said in time
pub record IsTimely (limit now moment : ℕ) (message : ProcessMessage) (said : TimedMessage)
    : Type 0 where
  pub near : is_timely limit now moment ≡ true
  pub is : record { moment = moment; message = message } ≡ said

-- what can be taken was said in time
pub timely-is : (limit now moment : ℕ) (message : ProcessMessage) (said : TimedMessage)
    → judge_moment limit now moment message ≡ Ok said → IsTimely limit now moment message said
timely-is limit now moment message said e = by-time (is_timely limit now moment) refl
  where
    by-time : (v : Bool) → is_timely limit now moment ≡ v → IsTimely limit now moment message said
    by-time true t =
        let same : (let r : Result TimedMessage DisconnectReason =
        Ok (record { moment = moment; message = message }) in r) ≡ Ok said = rw t at e in
        record { near = t; is = cc }
    by-time false t = let none : Err _ ≡ Ok said = rw t at e in absurd cc

-- and its event
pub timely-event : (limit now moment : ℕ) (message : ProcessMessage) (said : TimedMessage)
    → IsTimely limit now moment message said → event_in message ≡ event_in said.message
timely-event limit now moment message said t =
    ap (λ (x : TimedMessage). event_in x.message) t.is

-- the event of a later line
pub word-event : (event : Option ProcessEvent) → event_in (event_message event) ≡ event
word-event None = refl
word-event (Some event) = refl

plain-told : (s : State) (now : ℕ) (line : List ℕ) (said : TimedMessage)
    → judge_plain_line now line (event_in_line s line) ≡ Ok said
    → event_in_line s line ≡ event_in said.message
plain-told s now [] said e =
    let same : record { moment = now; message = Blank } ≡ said = cc in
    ap (λ (x : TimedMessage). event_in x.message) same
plain-told s now (b ∷ bs) said e = by-event (event_in_line s (b ∷ bs)) e
  where
    by-event : (o : Option ProcessEvent) → judge_plain_line now (b ∷ bs) o ≡ Ok said
        → o ≡ event_in said.message
    by-event None is = absurd cc
    by-event (Some event) is =
        let same : record { moment = now; message = Reports event } ≡ said = cc in
        ap (λ (x : TimedMessage). event_in x.message) same

-- a later line that can be taken names a moment in order, and in time
pub record IsReport (w : WatchData) (now : ℕ) (timed : TimedLine) (said : TimedMessage)
    : Type 0 where
  pub in_order : nat_lt timed.moment w.last ≡ false
  pub check_moment : IsTimely w.settings.limit now timed.moment (event_message timed.event) said

pub report-is : (line : List ℕ) (w : WatchData) (now : ℕ) (timed : TimedLine) (said : TimedMessage)
    → judge_later_line line w now (Some timed) ≡ Ok said → IsReport w now timed said
report-is line w now timed said e = by-order (nat_lt timed.moment w.last) refl
  where
    by-order : (v : Bool) → nat_lt timed.moment w.last ≡ v → IsReport w now timed said
    by-order true late = let none : Err OutOfOrder ≡ Ok said = rw late at e in absurd cc
    by-order false in-order = record {
      in_order = in-order;
      check_moment =
          timely-is w.settings.limit now timed.moment (event_message timed.event) said
          (rw in-order at e);
    }

report-told : (s : State) (line : List ℕ) (w : WatchData) (now : ℕ) (said : TimedMessage)
    → judge_later_line line w now (timed_line_of s line) ≡ Ok said
    → event_in_line s line ≡ event_in said.message
report-told s line w now said e = by-line (timed_line_of s line) refl e
  where
    by-line : (o : Option TimedLine) → timed_line_of s line ≡ o
        → judge_later_line line w now o ≡ Ok said
        → event_in_line s line ≡ event_in said.message
    by-line None read is = absurd cc
    by-line (Some timed) read is =
        let r = report-is line w now timed said is in
        timed-told s line timed read ∙ sym (word-event timed.event)
        ∙ timely-event w.settings.limit now timed.moment (event_message timed.event) said
        r.check_moment

introduction-told : (s : State) (line : List ℕ) (settings : SupervisionSettings) (now : ℕ)
    (said : TimedMessage)
    → judge_introduction settings now (introduction_moment settings.key s.domain s.revision line)
    ≡ Ok said
    → event_in_line s line ≡ event_in said.message
introduction-told s line settings now said e =
    by-moment (introduction_moment settings.key s.domain s.revision line) refl e
  where
    by-moment : (o : Option ℕ) → introduction_moment settings.key s.domain s.revision line ≡ o
        → judge_introduction settings now o ≡ Ok said → event_in_line s line ≡ event_in said.message
    by-moment None read is = absurd cc
    by-moment (Some moment) read is =
        introduced-untold s settings.key s.domain s.revision line moment read
        ∙ timely-event settings.limit now moment Introduces said
        (timely-is settings.limit now moment Introduces said is)

-- what a turn has of a line is the event that it tells of
pub judged-told : (watch : Option WatchData) (s : State) (now : ℕ) (line : List ℕ)
    (said : TimedMessage) → judge_line watch s now line ≡ Ok said
    → event_in_line s line ≡ event_in said.message
judged-told None s now line said e = plain-told s now line said e
judged-told (Some w) s now line said e = by-known w.introduced refl
  where
    by-known : (v : Bool) → w.introduced ≡ v → event_in_line s line ≡ event_in said.message
    by-known true known = report-told s line w now said (rw known at e)
    by-known false known = introduction-told s line w.settings now said (rw known at e)

line-by-event : (message : ProcessMessage) (line : List ℕ)
    → line_in message line ≡ (if is_some (event_in message) then Some line else None)
line-by-event Blank line = refl
line-by-event (Reports event) line = refl
line-by-event Introduces line = refl
line-by-event Lives line = refl

-- and the line is had where it tells of one
pub judged-line : (watch : Option WatchData) (s : State) (now : ℕ) (line : List ℕ)
    (said : TimedMessage) → judge_line watch s now line ≡ Ok said
    → line_in said.message line ≡ line_or_none line
judged-line watch s now line said e =
    line-by-event said.message line
    ∙ ap (λ (o : Option ProcessEvent). if is_some o then Some line else None)
    (sym (judged-told watch s now line said e))
    ∙ ap (λ v. if v then Some line else None) (told-some s line)

had-event : (message : ProcessMessage) (line lines_read : List ℕ)
    → line_in message line ≡ Some lines_read
    → input_of_event (event_in message) ≡ Ok (report_of_event (event_in message))
had-event Blank line lines_read e = absurd cc
had-event (Reports event) line lines_read e = refl
had-event Introduces line lines_read e = absurd cc
had-event Lives line lines_read e = absurd cc

had-line : (message : ProcessMessage) (line lines_read : List ℕ)
    → line_in message line ≡ Some lines_read → line ≡ lines_read
had-line Blank line lines_read e = absurd cc
had-line (Reports event) line lines_read e = cc
had-line Introduces line lines_read e = absurd cc
had-line Lives line lines_read e = absurd cc

-- a line that a turn has can be read as what the turn is given
pub judged-readable : (watch : Option WatchData) (s : State) (now : ℕ) (line lines_read : List ℕ)
    (said : TimedMessage) → judge_line watch s now line ≡ Ok said
    → line_in said.message line ≡ Some lines_read
    → input_of_event (event_in_line s lines_read) ≡ Ok (report_of_event (event_in said.message))
judged-readable watch s now line lines_read said e is =
    ap (λ l. input_of_event (event_in_line s l)) (sym (had-line said.message line lines_read is))
    ∙ ap input_of_event (judged-told watch s now line said e)
    ∙ had-event said.message line lines_read is
