-- Lemmas on what holds of a supervised process.
use Rattle.std.proofs.Common.{◌≡◌, ℕ, ◌-◌, min, Bool, true, false, nat_le, nat_lt, List, [], ◌∷◌, ◌++◌, Option, None, Some, Result, Ok, Err, refl, sym, ap, ◌∙◌, subst, arith}
use Rattle.std.proofs.lemmas.Bool.{and_parts}
use Rattle.std.proofs.lemmas.Bool.Decides.{nat_tests}
use Rattle.bay_device.specs.Device.{State}
use Rattle.bay_lines.specs.LineRemovals.{AreLines, RemovedLines, LosesNothing, removed_lines}
use Rattle.bay_lines.specs.FirstLines.{LineSearchData, Waiting, Overlong, Whole, first_line_of}
use Rattle.bay_lines.proofs.FrontLemmas.{nothing-is-lost}
use Rattle.bay_process_port.specs.Introduction.{introduction_moment}
use Rattle.bay_server_turn.specs.Supervised.{timed_line_of}
use Rattle.bay_server_turn.specs.declared.process_input.ProcessEvent.{ProcessEvent}
use Rattle.bay_server_turn.specs.declared.supervised.TimedLine.{TimedLine}
use Rattle.bay_process_port.specs.Ports.{PortData, PortReading, empty_port, judge_port, presence_reading, judged_reading, port_reading}
use Rattle.bay_process_port.specs.Supervision.{AreOfBay, IsOfThisBay, IsOnTime}
use Rattle.bay_process_port.specs.Uses.{StaysPresent, Use, Takes, Polls, after_uses, octets_read, port_after}
use Rattle.bay_process_port.proofs.UseLemmas.{attends-keep, comes-keep, cut-is, cut_by, moves_of, starts-follow}
use Rattle.bay_process_port.proofs.FitLemmas.{report-is, timely-event, timely-is, word-event}
use Rattle.bay_process_port.proofs.WatchLemmas.{accepted-same, attended-same, known-duties, line-judged}
use Rattle.bay_process_port.specs.Supervised.{SupervisionSettings, WatchData, event_in, judge_introduction, is_timely, judge_line, after_message, watch_after, after_timed_message, judge_later_line, judge_moment, initial_watch, event_message}
use Rattle.bay_process_port.specs.declared.connection_event.DisconnectReason.{DisconnectReason}
use Rattle.bay_process_port.specs.declared.port.Presence.{Presence}
use Rattle.bay_process_port.specs.declared.port.Presence.TheVariants.{Absent, LossPending, Dismissed, Present}
use Rattle.bay_process_port.specs.declared.supervision.ProcessMessage.{ProcessMessage}
use Rattle.bay_process_port.specs.declared.supervision.ProcessMessage.TheVariants.{Blank, Reports, Introduces, Lives}
use Rattle.bay_process_port.specs.declared.supervision.TimedMessage.{TimedMessage}

-- ---- no old word

-- a line that reports what happened
record ReportsOf (s : State) (now : ℕ) (w : WatchData) (line : List ℕ) (event : ProcessEvent)
    : Type 0 where
  introduced : w.introduced ≡ true
  timed : TimedLine
  reads : timed_line_of s line ≡ Some timed
  event_is : timed.event ≡ Some event
  near : is_timely w.settings.limit now timed.moment ≡ true
  in_order : nat_lt timed.moment w.last ≡ false

report-of : (s : State) (now : ℕ) (w : WatchData) (line : List ℕ) (said : TimedMessage)
    (event : ProcessEvent) → w.introduced ≡ true
    → judge_later_line line w now (timed_line_of s line) ≡ Ok said
    → event_in said.message ≡ Some event → ReportsOf s now w line event
report-of s now w line said event known e is = by-line (timed_line_of s line) refl e
  where
    by-line : (o : Option TimedLine) → timed_line_of s line ≡ o
        → judge_later_line line w now o ≡ Ok said → ReportsOf s now w line event
    by-line None read r = absurd cc
    by-line (Some timed) read r =
        let message = event_message timed.event in
        let k = report-is line w now timed said r in
        let t = k.check_moment in
        record {
          introduced = known;
          timed = timed;
          reads = read;
          event_is =
              sym (word-event timed.event)
              ∙ timely-event w.settings.limit now timed.moment message said t ∙ is;
          near = t.near;
          in_order = k.in_order;
        }

introduction-none : (settings : SupervisionSettings) (now : ℕ) (o : Option ℕ) (said : TimedMessage)
    (event : ProcessEvent) → judge_introduction settings now o ≡ Ok said
    → event_in said.message ≡ Some event → ⊥
introduction-none settings now None said event e is = absurd cc
introduction-none settings now (Some moment) said event e is =
    let none : None ≡ Some event =
    timely-event settings.limit now moment Introduces said
    (timely-is settings.limit now moment Introduces said e) ∙ is in cc

judged-of : (s : State) (now : ℕ) (w : WatchData) (line : List ℕ) (said : TimedMessage)
    (event : ProcessEvent) → judge_line (Some w) s now line ≡ Ok said
    → event_in said.message ≡ Some event → ReportsOf s now w line event
judged-of s now w line said event e is = by-known w.introduced refl
  where
    by-known : (v : Bool) → w.introduced ≡ v → ReportsOf s now w line event
    by-known true known = report-of s now w line said event known (rw known at e) is
    by-known false known =
        absurd (introduction-none w.settings now
        (introduction_moment w.settings.key s.domain s.revision line) said event (rw known at e) is)

by-on-time : (s : State) (now jump : ℕ) (p : PortData) (w : WatchData) (event : ProcessEvent)
    (r : Result (Option TimedMessage) DisconnectReason) (f : LineSearchData)
    → judge_port s now jump p ≡ r → first_line_of p.buffer ≡ f → p.watch ≡ Some w
    → (judged_reading now r f p).event ≡ Some event → IsOnTime s now p w event
by-on-time s now jump p w event (Err why) f is there watched e = absurd cc
by-on-time s now jump p w event (Ok None) f is there watched e = absurd cc
by-on-time s now jump p w event (Ok (Some said)) Waiting is there watched e = absurd cc
by-on-time s now jump p w event (Ok (Some said)) Overlong is there watched e = absurd cc
by-on-time s now jump p w event (Ok (Some said)) (Whole line rest) is there watched e =
    let judges : judge_line (Some w) s now line ≡ Ok said =
    ap (λ o. judge_line o s now line) (sym watched)
    ∙ line-judged s now jump p line rest said there is
    in
    let r = judged-of s now w line said event judges e in
    let both = and_parts (nat_le (now - r.timed.moment) w.settings.limit)
    (nat_le (r.timed.moment - now) w.settings.limit) r.near in
    let old = both.0 in
    let early = both.1 in
    let order = r.in_order in
    record {
      introduced = r.introduced;
      line = line;
      rest = rest;
      there = there;
      timed = r.timed;
      reads = r.reads;
      event_is = r.event_is;
      not_old = grind (arith, nat_tests);
      not_early = grind (arith, nat_tests);
      in_order = grind (arith, nat_tests);
    }

as-on-time : (presence : Presence) (s : State) (now jump : ℕ) (p : PortData) (w : WatchData)
    (event : ProcessEvent) → p.watch ≡ Some w
    → (presence_reading presence s now jump p).event ≡ Some event → IsOnTime s now p w event
as-on-time Absent s now jump p w event watched e = absurd cc
as-on-time LossPending s now jump p w event watched e = absurd cc
as-on-time (Dismissed why) s now jump p w event watched e = absurd cc
as-on-time Present s now jump p w event watched e =
    by-on-time s now jump p w event (judge_port s now jump p) (first_line_of p.buffer) refl refl
    watched e

pub is-on-time : (s : State) (now jump : ℕ) (p : PortData) (w : WatchData) (event : ProcessEvent)
    → p.watch ≡ Some w → (port_reading s now jump p).event ≡ Some event → IsOnTime s now p w event
is-on-time s now jump p w event watched e =
    as-on-time p.presence s now jump p w event watched e

-- ---- whose process it is

-- the first of lines says whose process it is
record Starts (key domain revision : List ℕ) (lines : List (List ℕ)) : Type 0 where
  first : List ℕ
  rest : List (List ℕ)
  is : lines ≡ first ∷ rest
  moment : ℕ
  introduces : introduction_moment key domain revision first ≡ Some moment

-- it is watched, and where it has said whose it is the lines begin with that
record Begins (settings : SupervisionSettings) (domain revision : List ℕ) (lines : List (List ℕ))
    (watch : Option WatchData) : Type 0 where
  later : WatchData
  is : watch ≡ Some later
  owes : later.settings ≡ settings
  starts : later.introduced ≡ true → Starts settings.key domain revision lines

-- what is watched stays so
record StaysWatched (settings : SupervisionSettings) (watch : Option WatchData) : Type 0 where
  later : WatchData
  is : watch ≡ Some later
  owes : later.settings ≡ settings

by-watched : (w : WatchData) (now : ℕ) (r : Result (Option TimedMessage) DisconnectReason)
    (f : LineSearchData) (p : PortData) → p.watch ≡ Some w
    → (judged_reading now r f p).port.presence ≡ Present
    → StaysWatched w.settings (judged_reading now r f p).port.watch
by-watched w now (Err why) f p is still = absurd cc
by-watched w now (Ok None) f p is still = record { later = w; is = is; owes = refl }
by-watched w now (Ok (Some said)) Waiting p is still = record { later = w; is = is; owes = refl }
by-watched w now (Ok (Some said)) Overlong p is still = record { later = w; is = is; owes = refl }
by-watched w now (Ok (Some said)) (Whole line rest) p is still = record {
  later = after_timed_message now said w;
  is = ap (watch_after now said) is;
  owes = known-duties said.message (record w { heard = min now said.moment; last = said.moment });
}

use-watched : (w : WatchData) (u : Use) (p : PortData) → p.presence ≡ Present → p.watch ≡ Some w
    → (port_after u p).presence ≡ Present → StaysWatched w.settings (port_after u p).watch
use-watched w (Takes s now jump) p here is still =
    let whole = ap (λ presence. presence_reading presence s now jump p) here in
    subst (λ (t : PortReading). StaysWatched w.settings t.port.watch) (sym whole)
    (by-watched w now (judge_port s now jump p) (first_line_of p.buffer) p is
    (ap (λ (t : PortReading). t.port.presence) (sym whole) ∙ still))
use-watched w (Polls t s script) p here is still =
    let h = attended-same w t s script p here is still in
    record { later = h.later; is = h.is; owes = h.settings }

uses-watched : (w : WatchData) (us : List Use) (p : PortData) → p.presence ≡ Present
    → p.watch ≡ Some w → StaysPresent us p → StaysWatched w.settings (after_uses us p).watch
uses-watched w [] p here is stays = record { later = w; is = is; owes = refl }
uses-watched w (u ∷ us) p here is stays =
    let h = use-watched w u p here is stays.0 in
    let more = uses-watched h.later us (port_after u p) stays.0 h.is stays.1 in
    record { later = more.later; is = more.is; owes = more.owes ∙ h.owes }

introduction-starts : (settings : SupervisionSettings) (s : State) (now : ℕ)
    (domain revision line : List ℕ)
    (lines : List (List ℕ)) (said : TimedMessage) (o : Option ℕ)
    → introduction_moment settings.key domain revision line ≡ o
    → judge_introduction settings now o ≡ Ok said
    → Starts settings.key domain revision (line ∷ lines)
introduction-starts settings s now domain revision line lines said None read e = absurd cc
introduction-starts settings s now domain revision line lines said (Some moment) read e =
    record { first = line; rest = lines; is = refl; moment = moment; introduces = read }

judged-starts : (w : WatchData) (s : State) (now : ℕ) (domain revision line : List ℕ)
    (lines : List (List ℕ)) (said : TimedMessage) → w.introduced ≡ false → s.domain ≡ domain
    → s.revision ≡ revision → judge_line (Some w) s now line ≡ Ok said
    → Starts w.settings.key domain revision (line ∷ lines)
judged-starts w s now domain revision line lines said new d r e =
    let o = introduction_moment w.settings.key s.domain s.revision line in
    let is : judge_introduction w.settings now o ≡ Ok said = rw new at e in
    subst (λ x. Starts w.settings.key domain x (line ∷ lines)) r
    (subst (λ x. Starts w.settings.key x s.revision (line ∷ lines)) d
    (introduction-starts w.settings s now s.domain s.revision line lines said o refl is))

module _ (w : WatchData) (domain revision : List ℕ) (new : w.introduced ≡ false) where
  abbrev UsesBegin : List Use → PortData → List (List ℕ) → Type 0
  UsesBegin us p lines = Begins w.settings domain revision lines (after_uses us p).watch

  -- a turn took what the port had, and then came the other uses
  taken-begin : (s : State) (now jump : ℕ) (us : List Use) (p : PortData)
      (r : Result (Option TimedMessage) DisconnectReason) (f : LineSearchData)
      → judge_port s now jump p ≡ r → first_line_of p.buffer ≡ f → p.presence ≡ Present
      → p.watch ≡ Some w → s.domain ≡ domain → s.revision ≡ revision
      → (judged_reading now r f p).port.presence ≡ Present
      → StaysPresent us (judged_reading now r f p).port
      → (StaysPresent us p → UsesBegin us p (removed_lines (moves_of us p) p.buffer).lines)
      → (let q = (judged_reading now r f p).port in
      UsesBegin us q (cut_by r f p.buffer (moves_of us q)).lines)
  taken-begin s now jump us p (Err why) f e there here is d v still stays more = absurd cc
  taken-begin s now jump us p (Ok None) f e there here is d v still stays more = more stays
  taken-begin s now jump us p (Ok (Some said)) Waiting e there here is d v still stays more =
      more stays
  taken-begin s now jump us p (Ok (Some said)) Overlong e there here is d v still stays more =
      more stays
  taken-begin s now jump us p (Ok (Some said)) (Whole line rest) e there here is d v still stays
      more =
      let q = record p { buffer = rest; watch = watch_after now said p.watch } in
      let k = uses-watched (after_timed_message now said w) us q here (ap (watch_after now said) is)
      stays in
      let judges : judge_line (Some w) s now line ≡ Ok said =
      ap (λ o. judge_line o s now line) (sym is)
      ∙ line-judged s now jump p line rest said there e in
      record {
        later = k.later;
        is = k.is;
        owes = k.owes
            ∙ known-duties said.message
            (record w { heard = min now said.moment; last = said.moment });
        starts = λ i.
            judged-starts w s now domain revision line (removed_lines (moves_of us q) rest).lines
            said
            new d v judges;
      }

-- turns and what is done behind them lead on from a process that has not said whose it is
begins-uses : (w : WatchData) (domain revision : List ℕ) (us : List Use) (p : PortData)
    → w.introduced ≡ false → p.presence ≡ Present → p.watch ≡ Some w → StaysPresent us p
    → AreOfBay domain revision us
    → Begins w.settings domain revision (removed_lines (moves_of us p) p.buffer).lines
    (after_uses us p).watch
unfolding moves_of
begins-uses w domain revision [] p new here is stays of = record {
  later = w;
  is = is;
  owes = refl;
  starts = λ e. absurd (let no : false ≡ true = sym new ∙ e in cc);
}
begins-uses w domain revision (Takes s now jump ∷ us) p new here is stays of =
    let r = judge_port s now jump p in
    let f = first_line_of p.buffer in
    let whole : port_reading s now jump p ≡ judged_reading now r f p =
    ap (λ presence. presence_reading presence s now jump p) here in
    let begun = taken-begin w domain revision new s now jump us p r f refl refl here is of.0 of.1
    (ap (λ (t : PortReading). t.port.presence) (sym whole) ∙ stays.0)
    (subst (λ (t : PortReading). StaysPresent us t.port) whole stays.1)
    (λ again. begins-uses w domain revision us p new here is again of.2) in
    subst (λ (c : RemovedLines). Begins w.settings domain revision c.lines
    (after_uses us (port_reading s now jump p).port).watch)
    (sym (cut-is r f p.buffer (moves_of us (port_reading s now jump p).port) refl))
    (subst (λ (t : PortReading). Begins w.settings domain revision
    (cut_by r f p.buffer (moves_of us t.port)).lines (after_uses us t.port).watch)
    (sym whole) begun)
begins-uses w domain revision (Polls t s script ∷ us) p new here is stays of =
    let u = Polls t s script in
    let q = port_after u p in
    let h = attended-same w t s script p here is stays.0 in
    let more = begins-uses h.later domain revision us q (h.introduced ∙ new) stays.0 h.is stays.1
    of in
    let buffer = attends-keep t s script p here stays.0 in
    let at : Begins h.later.settings domain revision
    (removed_lines (moves_of us q) (p.buffer ++ octets_read u p)).lines (after_uses us q).watch =
    subst (λ k. Begins h.later.settings domain revision (removed_lines (moves_of us q) k).lines
    (after_uses us q).watch) buffer more in
    subst (λ d. Begins d domain revision
    (removed_lines (moves_of us q) (p.buffer ++ octets_read u p)).lines (after_uses us q).watch)
    h.settings at

-- from the acceptance on
begins-away : (sends : Bool) (settings : SupervisionSettings) (domain revision : List ℕ)
    (us : List Use)
    → StaysPresent us (empty_port sends (Some settings) Absent) → AreOfBay domain revision us
    → Begins settings domain revision
    (removed_lines (moves_of us (empty_port sends (Some settings) Absent)) []).lines
    (after_uses us (empty_port sends (Some settings) Absent)).watch
unfolding moves_of
begins-away sends settings domain revision [] stays of = record {
  later = initial_watch settings;
  is = refl;
  owes = refl;
  starts = λ e. absurd cc;
}
begins-away sends settings domain revision (Takes s now jump ∷ us) stays of = absurd cc
begins-away sends settings domain revision (Polls t s script ∷ us) stays of =
    let u = Polls t s script in
    let p0 = empty_port sends (Some settings) Absent in
    let q = port_after u p0 in
    let w = initial_watch settings in
    let h = accepted-same w t.now s script.accepted (script.heard, script.again) p0 refl refl
    stays.0 in
    let more = begins-uses h.later domain revision us q h.introduced stays.0 h.is stays.1 of in
    let buffer =
    comes-keep sends (Some settings) t.now s script.accepted (script.heard, script.again) stays.0 in
    let at : Begins h.later.settings domain revision
    (removed_lines (moves_of us q) (octets_read u p0)).lines (after_uses us q).watch =
    subst (λ k. Begins h.later.settings domain revision (removed_lines (moves_of us q) k).lines
    (after_uses us q).watch) buffer more in
    subst (λ d. Begins d domain revision
    (removed_lines (moves_of us q) (octets_read u p0)).lines (after_uses us q).watch) h.settings at

pub is-of-this-bay : (sends : Bool) (settings : SupervisionSettings) (domain revision : List ℕ)
    (us : List Use)
    (s : State) (now jump : ℕ) (event : ProcessEvent)
    → StaysPresent us (empty_port sends (Some settings) Absent)
    → AreOfBay domain revision us
    → (port_reading s now jump (after_uses us (empty_port sends (Some settings) Absent))).event
    ≡ Some event
    → IsOfThisBay sends settings domain revision us
is-of-this-bay sends settings domain revision us s now jump event stays of e =
    let p0 = empty_port sends (Some settings) Absent in
    let p = after_uses us p0 in
    let b = begins-away sends settings domain revision us stays of in
    let on = is-on-time s now jump p b.later event b.is e in
    let starts = b.starts on.introduced in
    let f = starts-follow sends (Some settings) us stays in
    let cut : LosesNothing (moves_of us p0) = nothing-is-lost (moves_of us p0) in
    record {
      first = starts.first;
      lines = starts.rest;
      text = cut.text;
      rest = p.buffer;
      are = subst (λ ls. AreLines ls cut.text) starts.is cut.lines;
      given = sym f.all_is ∙ cut.whole ∙ ap (λ l. cut.text ++ l) f.keeps;
      moment = starts.moment;
      introduces = starts.introduces;
    }
