-- A port after uses, and what its uses keep.
use Rattle.std.proofs.Common.{◌≡◌, ◌⊎◌, ◌∙◌, ◌++◌, ℕ, Bool, true, false, List, [], ◌∷◌, is_some, Option, None, Some, Result, Ok, Err, inl, inr, refl, ap, ap₂, sym, subst, append_assoc, append-nil}
use Rattle.std.specs.declared.net.socket_addr.SocketAddrV4.{SocketAddrV4}
use Rattle.bay_device.specs.Device.{State}
use Rattle.bay_lines.specs.FirstLines.{LineSearchData, Waiting, Overlong, Whole, first_line_of}
use Rattle.bay_process_port.specs.Fit.{is_waiting}
use Rattle.bay_process_port.specs.Polling.{PollPart, Script, accept_outcome, closed_or_open, exchange_part, first_part, greet_part, offer_part, offer_queue, on_read, opened_or_closed, outcome_by_presence, part_then, poll_outcome, read_part, with_report_queued, all_output}
use Rattle.bay_process_port.specs.Ports.{PortData, empty_port, judge_port, judged_reading, port_reading, presence_reading, with_no_data}
use Rattle.bay_process_port.specs.ProcessOutput.{ReportedTurn, fits_in, greeting_text}
use Rattle.bay_process_port.specs.Releases.{ReleaseData, sent_releases_after}
use Rattle.bay_process_port.specs.Supervised.{SupervisionSettings, WatchData, settings_in}
use Rattle.bay_process_port.specs.Supervision.{AreOfBay, IsOfThisBay}
use Rattle.bay_process_port.specs.Uses.{Polls, StaysPresent, Takes, Use, after_uses, all_octets_read, octets_read, port_after}
use Rattle.bay_process_port.specs.declared.connection_event.DisconnectReason.{DisconnectReason}
use Rattle.bay_process_port.specs.declared.port.Presence.{Presence}
use Rattle.bay_process_port.specs.declared.port.Presence.TheVariants.{Absent, LossPending, Dismissed, Present}
use Rattle.bay_process_port.specs.declared.supervision.TimedMessage.{TimedMessage}
use Rattle.bay_process_port.proofs.WatchLemmas.{attended-owes, took-owes}
use Rattle.bay_server_turn.specs.Calls.{Call, ReadOutcome, Octets, Silence, StreamEnd, Failure}
use Rattle.bay_server_turn.specs.declared.process_input.ProcessEvent.{ProcessEvent}
use Rattle.cmd_audit_laws.specs.PortUses.{IsUsed, uses_after, uses_if}

-- ---- uses, and one more

after-more : (us : List Use) (u : Use) (p : PortData)
    → after_uses (us ++ u ∷ []) p ≡ port_after u (after_uses us p)
after-more [] u p = refl
after-more (v ∷ us) u p = after-more us u (port_after v p)

stays-more : (us : List Use) (u : Use) (p : PortData) → StaysPresent us p
    → (port_after u (after_uses us p)).presence ≡ Present → StaysPresent (us ++ u ∷ []) p
stays-more [] u p stays here = (here, tt)
stays-more (v ∷ us) u p stays here = (stays.0, stays-more us u (port_after v p) stays.1 here)

of-more : (domain revision : List ℕ) (us : List Use) (u : Use) → AreOfBay domain revision us
    → AreOfBay domain revision (u ∷ []) → AreOfBay domain revision (us ++ u ∷ [])
of-more domain revision [] u of one = one
of-more domain revision (Takes s now jump ∷ us) u of one =
    (of.0, of.1, of-more domain revision us u of.2 one)
of-more domain revision (Polls t s script ∷ us) u of one = of-more domain revision us u of one

octets-more : (us : List Use) (u : Use) (p : PortData) → all_octets_read (us ++ u ∷ []) p
    ≡ all_octets_read us p ++ octets_read u (after_uses us p)
octets-more [] u p = append-nil (octets_read u p)
octets-more (v ∷ us) u p =
    ap (λ l. octets_read v p ++ l) (octets-more us u (port_after v p))
    ∙ sym (append_assoc (octets_read v p) (all_octets_read us (port_after v p))
    (octets_read u (after_uses us (port_after v p))))

-- what was read first stays first
pub named-more : (sends : Bool) (settings : SupervisionSettings) (domain revision : List ℕ)
    (us : List Use) (u : Use) → IsOfThisBay sends settings domain revision us
    → IsOfThisBay sends settings domain revision (us ++ u ∷ [])
named-more sends settings domain revision us u is =
    let e = empty_port sends (Some settings) Absent in
    let more = octets_read u (after_uses us e) in
    record {
      first = is.first;
      lines = is.lines;
      text = is.text;
      rest = is.rest ++ more;
      are = is.are;
      given = octets-more us u e ∙ ap (λ l. l ++ more) is.given
          ∙ append_assoc is.text is.rest more;
      moment = is.moment;
      introduces = is.introduces;
    }

-- ---- what parts keep

-- whether the process is connected, and whether it receives releases
abbrev Kept : PortData → Result PortData DisconnectReason → Type 0
Kept p (Ok q) = (q.presence ≡ p.presence) × (is_some q.sent ≡ is_some p.sent)
Kept p (Err why) = Unit {0}

kept-trans : (p q : PortData) (r : Result PortData DisconnectReason) → Kept p (Ok q) → Kept q r
    → Kept p r
kept-trans p q (Ok r) k l = (l.0 ∙ k.0, l.1 ∙ k.1)
kept-trans p q (Err why) k l = tt

kept-then : (p : PortData) (r : Result PortData DisconnectReason) (calls : List Call)
    (next : PortData → PollPart) → Kept p r → ((q : PortData) → Kept q (next q).after)
    → Kept p (part_then r calls next).after
kept-then p (Err why) calls next k each = tt
kept-then p (Ok q) calls next k each = kept-trans p q (next q).after k (each q)

sent-kept : (s : State) (sent : Option (List (Option ReleaseData)))
    → is_some (sent_releases_after s sent) ≡ is_some sent
sent-kept s None = refl
sent-kept s (Some released) = refl

kept-report : (t : ReportedTurn) (s : State) (p : PortData)
    → Kept p (with_report_queued t s p).after
kept-report t s p = by-fits (fits_in p.queue (all_output t s p)) refl
  where
    by-fits : (b : Bool) → fits_in p.queue (all_output t s p) ≡ b
        → Kept p (with_report_queued t s p).after
    by-fits true e = rw e (refl, sent-kept s p.sent)
    by-fits false e = rw e tt

kept-offer : (taken : Option ℕ) (p : PortData) → Kept p (offer_part taken p).after
kept-offer taken p = by-queue p.queue taken
  where
    by-queue : (queue : List ℕ) (taken : Option ℕ) → Kept p (offer_queue queue taken p).after
    by-queue [] taken = (refl, refl)
    by-queue (b ∷ bs) None = tt
    by-queue (b ∷ bs) (Some n) = (refl, refl)

kept-read : (heard : ReadOutcome) (p : PortData) → Kept p (read_part heard p).after
kept-read heard p = by-waiting (is_waiting (first_line_of p.buffer)) refl
  where
    by-heard : (heard : ReadOutcome) (calls : List Call) → Kept p (on_read heard p calls).after
    by-heard (Octets octets) calls = (refl, refl)
    by-heard Silence calls = (refl, refl)
    by-heard StreamEnd calls = tt
    by-heard Failure calls = tt

    by-waiting : (b : Bool) → is_waiting (first_line_of p.buffer) ≡ b
        → Kept p (read_part heard p).after
    by-waiting true e = rw e (by-heard heard _)
    by-waiting false e = rw e (refl, refl)

kept-greet : (now : ℕ) (s : State) (p : PortData) → Kept p (greet_part now s p).after
kept-greet now s p = by-fits (fits_in p.queue (greeting_text now s p.watch)) refl
  where
    by-fits : (b : Bool) → fits_in p.queue (greeting_text now s p.watch) ≡ b
        → Kept p (greet_part now s p).after
    by-fits true e = rw e (refl, refl)
    by-fits false e = rw e tt

kept-exchange : (t : ReportedTurn) (s : State) (answers : Option ℕ × ReadOutcome) (p : PortData)
    → Kept p (exchange_part t s answers p).after
kept-exchange t s answers p =
    let reported = with_report_queued t s p in
    let offered = part_then reported.after reported.calls (offer_part answers.0) in
    kept-then p offered.after offered.calls (read_part answers.1)
    (kept-then p reported.after reported.calls (offer_part answers.0) (kept-report t s p)
    (kept-offer answers.0)) (kept-read answers.1)

kept-first : (now : ℕ) (s : State) (answers : ReadOutcome × ReadOutcome) (p : PortData)
    → Kept p (first_part now s answers p).after
kept-first now s answers p =
    let greeted = greet_part now s p in
    let once = part_then greeted.after greeted.calls (read_part answers.0) in
    kept-then p once.after once.calls (read_part answers.1)
    (kept-then p greeted.after greeted.calls (read_part answers.0) (kept-greet now s p)
    (kept-read answers.0)) (kept-read answers.1)

-- ---- what a use keeps

empty-sends : (sends : Bool) (settings : Option SupervisionSettings) (presence : Presence)
    → is_some (empty_port sends settings presence).sent ≡ sends
empty-sends true settings _ = refl
empty-sends false settings _ = refl

-- whether the process receives releases stays; it is connected afterwards only if it was, or was
-- absent; and it is absent afterwards only if the port is the same, or empty
record Leads (p q : PortData) : Type 0 where
  sends : is_some q.sent ≡ is_some p.sent
  came : q.presence ≡ Present → (p.presence ≡ Present) ⊎ (p.presence ≡ Absent)
  left : q.presence ≡ Absent → (q ≡ p) ⊎ (q ≡ with_no_data Absent p)

leads-same : (p : PortData) → Leads p p
leads-same p = record { sends = refl; came = λ h. inl h; left = λ h. inl refl }

leads-emptied : (presence : Presence) (p : PortData) → (presence ≡ Present → ⊥)
    → Leads p (with_no_data presence p)
leads-emptied presence p away = record {
  sends = empty-sends (is_some p.sent) (settings_in p.watch) presence;
  came = λ h. absurd (away h);
  left = λ h. inr (ap (λ x. with_no_data x p) h);
}

leads-kept : (p q : PortData) → p.presence ≡ Present → Kept p (Ok q) → Leads p q
leads-kept p q here k = record {
  sends = k.1;
  came = λ h. inl here;
  left = λ h. absurd (let no : Absent ≡ Present = sym h ∙ k.0 ∙ here in cc);
}

takes-lead : (s : State) (now jump : ℕ) (p : PortData)
    → Leads p (port_reading s now jump p).port
takes-lead s now jump p = by-presence p.presence refl
  where
    by-judged : p.presence ≡ Present → (r : Result (Option TimedMessage) DisconnectReason)
        (f : LineSearchData) → Leads p (judged_reading now r f p).port
    by-judged here (Err why) f =
        leads-emptied (Dismissed why) p (λ no. let e : Dismissed why ≡ Present = no in cc)
    by-judged here (Ok None) f = leads-same p
    by-judged here (Ok (Some said)) Waiting = leads-same p
    by-judged here (Ok (Some said)) Overlong = leads-same p
    by-judged here (Ok (Some said)) (Whole line rest) = leads-kept p _ here (refl, refl)

    by-presence : (presence : Presence) → p.presence ≡ presence
        → Leads p (presence_reading presence s now jump p).port
    by-presence Absent at = leads-same p
    by-presence LossPending at =
        leads-emptied Absent p (λ no. let e : Absent ≡ Present = no in cc)
    by-presence (Dismissed why) at = leads-same p
    by-presence Present at = by-judged at (judge_port s now jump p) (first_line_of p.buffer)

polls-lead : (t : ReportedTurn) (s : State) (script : Script) (p : PortData)
    → Leads p (poll_outcome t s script p).port
polls-lead t s script p = by-presence p.presence refl
  where
    by-first : p.presence ≡ Absent → (r : Result PortData DisconnectReason) (calls : List Call)
        → Kept (with_no_data Present p) r → Leads p (opened_or_closed p r calls).port
    by-first at (Err why) calls k =
        leads-emptied Absent p (λ no. let e : Absent ≡ Present = no in cc)
    by-first at (Ok q) calls k = record {
      sends = k.1 ∙ empty-sends (is_some p.sent) (settings_in p.watch) Present;
      came = λ h. inr at;
      left = λ h. absurd (let no : Absent ≡ Present = sym h ∙ k.0 in cc);
    }

    by-accepted : p.presence ≡ Absent → (accepted : Option (Option SocketAddrV4))
        → Leads p (accept_outcome t.now s accepted (script.heard, script.again) p).port
    by-accepted at None = leads-same p
    by-accepted at (Some None) = leads-same p
    by-accepted at (Some (Some from)) =
        let part = first_part t.now s (script.heard, script.again) (with_no_data Present p) in
        by-first at part.after part.calls
        (kept-first t.now s (script.heard, script.again) (with_no_data Present p))

    by-exchange : p.presence ≡ Present → (r : Result PortData DisconnectReason)
        (calls : List Call) → Kept p r → Leads p (closed_or_open p r calls).port
    by-exchange here (Err why) calls k =
        leads-emptied LossPending p (λ no. let e : LossPending ≡ Present = no in cc)
    by-exchange here (Ok q) calls k = leads-kept p q here k

    by-presence : (presence : Presence) → p.presence ≡ presence
        → Leads p (outcome_by_presence presence t s script p).port
    by-presence Absent at = by-accepted at script.accepted
    by-presence LossPending at = leads-same p
    by-presence (Dismissed why) at =
        leads-emptied Absent p (λ no. let e : Absent ≡ Present = no in cc)
    by-presence Present at =
        let part = exchange_part t s (script.taken, script.heard) p in
        by-exchange at part.after part.calls (kept-exchange t s (script.taken, script.heard) p)

use-leads : (u : Use) (p : PortData) → Leads p (port_after u p)
use-leads (Takes s now jump) p = takes-lead s now jump p
use-leads (Polls t s script) p = polls-lead t s script p

-- a supervised port has its settings
pub watch-in : (settings : SupervisionSettings) (watch : Option WatchData)
    → settings_in watch ≡ Some settings
    → (w : WatchData) × (watch ≡ Some w) × (w.settings ≡ settings)
watch-in settings None owes = absurd cc
watch-in settings (Some w) owes = (w, refl, cc)

use-owes : (settings : SupervisionSettings) (u : Use) (p : PortData)
    → settings_in p.watch ≡ Some settings → settings_in (port_after u p).watch ≡ Some settings
use-owes settings (Takes s now jump) p owes = took-owes s now jump p ∙ owes
use-owes settings (Polls t s script) p owes =
    let w = watch-in settings p.watch owes in
    attended-owes t s script p w.0 w.1
    ∙ ap (λ (d : SupervisionSettings). let o : Option SupervisionSettings = Some d in o) w.2

-- ---- the port after uses

module _ (sends : Bool) (settings : SupervisionSettings) (domain revision : List ℕ) where
  -- It is that after the uses, if the process is connected; there are none, and the port is empty,
  -- if it is absent.
  pub record Follows (uses : List Use) (p : PortData) : Type 0 where
    pub sends_is : is_some p.sent ≡ sends
    pub owes : settings_in p.watch ≡ Some settings
    pub used : p.presence ≡ Present → IsUsed sends settings domain revision uses p
    pub empty : p.presence ≡ Absent
        → (uses ≡ []) × (p ≡ empty_port sends (Some settings) Absent)

  -- as it is made
  pub follows-first : Follows [] (empty_port sends (Some settings) LossPending)
  follows-first = record {
    sends_is = empty-sends sends (Some settings) LossPending;
    owes = refl;
    used = λ no. absurd (let e : LossPending ≡ Present = no in cc);
    empty = λ no. absurd (let e : LossPending ≡ Absent = no in cc);
  }

  used-at : (uses : List Use) (p : PortData) → Follows uses p
      → (p.presence ≡ Present) ⊎ (p.presence ≡ Absent)
      → IsUsed sends settings domain revision uses p
  used-at uses p f at = elim at [
    | inl here ↦ f.used here
    | inr away ↦
        let gone = f.empty away in
        subst (λ us. IsUsed sends settings domain revision us p) (sym gone.0)
        (record { stays = tt; bay = tt; port = gone.1 })
  ]

  used-more : (uses : List Use) (u : Use) (p : PortData)
      → IsUsed sends settings domain revision uses p → AreOfBay domain revision (u ∷ [])
      → (port_after u p).presence ≡ Present
      → IsUsed sends settings domain revision (uses ++ u ∷ []) (port_after u p)
  used-more uses u p is of here =
      let e = empty_port sends (Some settings) Absent in
      record {
        stays = stays-more uses u e is.stays
            (ap (λ (q : PortData). (port_after u q).presence) (sym is.port) ∙ here);
        bay = of-more domain revision uses u is.bay of;
        port = ap (port_after u) is.port ∙ sym (after-more uses u e);
      }

  -- and after one use more
  pub follows-use : (uses : List Use) (u : Use) (p : PortData) → Follows uses p
      → AreOfBay domain revision (u ∷ []) → Follows (uses_after u p uses) (port_after u p)
  follows-use uses u p f of =
      let l = use-leads u p in
      let q = port_after u p in
      record {
        sends_is = l.sends ∙ f.sends_is;
        owes = use-owes settings u p f.owes;
        used = λ here.
            subst (λ us. IsUsed sends settings domain revision us q)
            (sym (ap (λ presence. uses_if presence u uses) here))
            (used-more uses u p (used-at uses p f (l.came here)) of here);
        empty = λ away. (ap (λ presence. uses_if presence u uses) away, by-left (l.left away) away);
      }
    where
      by-left : (port_after u p ≡ p) ⊎ (port_after u p ≡ with_no_data Absent p)
          → (port_after u p).presence ≡ Absent
          → port_after u p ≡ empty_port sends (Some settings) Absent
      by-left (inl same) away =
          same ∙ (f.empty (ap (λ (q : PortData). q.presence) (sym same) ∙ away)).1
      by-left (inr emptied) away =
          emptied
          ∙ ap₂ (λ sends settings. empty_port sends settings Absent) f.sends_is f.owes

-- an event is that of a connected process
pub event-here : (s : State) (now jump : ℕ) (p : PortData) (event : ProcessEvent)
    → (port_reading s now jump p).event ≡ Some event → p.presence ≡ Present
event-here s now jump p event = by-presence p.presence
  where
    by-presence : (presence : Presence)
        → (presence_reading presence s now jump p).event ≡ Some event → presence ≡ Present
    by-presence Absent e = absurd cc
    by-presence LossPending e = absurd cc
    by-presence (Dismissed why) e = absurd cc
    by-presence Present e = refl
