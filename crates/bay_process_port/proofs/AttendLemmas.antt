-- Lemmas on what is done with the connection of a process.
use Rattle.std.proofs.Common.{◌≡◌, ℕ, ◌+◌, ◌-◌, ◌==◌, ◌≤◌, nat_lt, nat_le, Bool, true, false, if◌then◌else◌, List, [], ◌∷◌, ◌++◌, length, take, Option, None, Some, Result, Ok, Err, refl, sym, ap, ◌∙◌, subst, arith}
use Rattle.std.proofs.lemmas.Bool.Decides.{nat_tests}
use Rattle.std.specs.List.{position}
use Rattle.std.specs.declared.net.socket_addr.SocketAddrV4.{SocketAddrV4}
use Rattle.bay_lines.specs.FirstLines.{LineSearchData, Overlong, Waiting, Whole, first_line_of, first_line_at, is_lf}
use Rattle.bay_server_turn.proofs.TalkLemmas.{Talks-append}
use Rattle.bay_process_port.specs.Polling.{PollOutcome, all_output, Polls, ClosesDismissed, PerformsPart, IsPartResult, PollPart, Script, accept_outcome, poll_outcome, connected_outcome, and_then, close_dismissed, first_part, greet_part, unchanged_outcome, offer_part, offer_queue, after_write, read_part, exchange_part, with_report_queued, after_greeting}
use Rattle.bay_server_turn.specs.Calls.{Call, Accepts, Closes, ReadOutcome, Octets, Silence, Reads, Writes, MakesCalls}
use Rattle.bay_process_port.specs.Fit.{is_waiting}
use Rattle.bay_process_port.specs.Ports.{PortData, with_no_data}
use Rattle.bay_device.specs.Device.{State}
use Rattle.bay_process_port.specs.ProcessOutput.{ReportedTurn, fits_in, greeting_text}
use Rattle.bay_process_port.specs.declared.connection_event.ConnectionEvent.{ConnectionEvent}
use Rattle.bay_process_port.specs.declared.connection_event.ConnectionEvent.TheVariants.{Opened, Closed}
use Rattle.bay_process_port.specs.declared.connection_event.DisconnectReason.{DisconnectReason}
use Rattle.bay_process_port.specs.declared.port.Presence.TheVariants.{Absent, LossPending, Dismissed, Present}

-- ---- the parts

-- octets without a whole line are few
pub waiting-short : (xs : List ℕ) → is_waiting (first_line_of xs) ≡ true → length xs ≤ 256
waiting-short xs e = by-place (position is_lf (take 257 xs)) e
  where
    by-long : (v : Bool) → nat_lt 256 (length xs) ≡ v
        → is_waiting (if v then Overlong else Waiting) ≡ true → length xs ≤ 256
    by-long true is e = absurd cc
    by-long false is e = grind (arith, nat_tests)

    by-place : (o : Option ℕ) → is_waiting (first_line_at xs o) ≡ true → length xs ≤ 256
    by-place None e = by-long (nat_lt 256 (length xs)) refl e
    by-place (Some k) e = absurd cc

offered-some : (xs : List ℕ) (taken : Option ℕ) (p : PortData) → (length xs == 0) ≡ false
    → offer_queue xs taken p ≡ after_write taken p (Writes 1 xs taken ∷ [])
offered-some [] taken p e = absurd cc
offered-some (b ∷ bs) taken p e = refl

told-calls : (t : ReportedTurn) (s : State) (p : PortData) → (with_report_queued t s p).calls ≡ []
told-calls t s p = by-room (fits_in p.queue (all_output t s p)) refl
  where
    by-room : (v : Bool) → fits_in p.queue (all_output t s p) ≡ v
        → (with_report_queued t s p).calls ≡ []
    by-room true e = rw e refl
    by-room false e = rw e refl

pub greet-calls : (now : ℕ) (s : State) (p : PortData) → (greet_part now s p).calls ≡ []
greet-calls now s p = by-room (fits_in p.queue (greeting_text now s p.watch)) refl
  where
    by-room : (v : Bool) → fits_in p.queue (greeting_text now s p.watch) ≡ v
        → (greet_part now s p).calls ≡ []
    by-room true e = rw e refl
    by-room false e = rw e refl

module _ {L : Type 0} (step : L → Call → L → Type 0) where
  -- what waits was offered
  pub offers-some : (old new : L) (before after : PortData) (taken : Option ℕ)
      (answer : Result (Unit {0}) DisconnectReason) → (length before.queue == 0) ≡ false
      → IsPartResult (after_write taken before (Writes 1 before.queue taken ∷ [])).after after
      answer
      → MakesCalls step old (after_write taken before (Writes 1 before.queue taken ∷ [])).calls new
      → PerformsPart step offer_part old new before after answer
  offers-some old new before after taken answer some leads makes =
      let is = offered-some before.queue taken before some in
      record {
        answers = taken;
        makes = subst (λ (part : PollPart). MakesCalls step old part.calls new) (sym is) makes;
        leads = subst (λ (part : PollPart). IsPartResult part.after after answer) (sym is) leads;
      }

  -- octets came
  pub reads-some : (old new : L) (before after : PortData) (octets : List ℕ) (heard : ReadOutcome)
      (fits : Bool) → is_waiting (first_line_of before.buffer) ≡ true
      → heard ≡ Octets octets → step old (Reads 1 4096 heard) new → length octets ≤ 4096
      → fits ≡ nat_le (length before.buffer + length octets) 4352
      → after ≡ record before { buffer = if fits then before.buffer ++ octets else before.buffer }
      → PerformsPart step read_part old new before after (Ok tt)
  reads-some old new before after octets heard fits waits is call few room-is put =
      let short = waiting-short before.buffer waits in
      let fit : fits ≡ true = grind (arith, nat_tests) in
      record {
        answers = Octets octets;
        makes = rw waits (new, subst (λ h. step old (Reads 1 4096 h) new) is call, refl);
        leads = rw waits (put ∙ ap (λ v. record before {
          buffer = if v then before.buffer ++ octets
              else before.buffer;
        }) fit);
      }

  -- ---- where a part leads

  led : (r : Result PortData DisconnectReason) (calls : List Call) (after : PortData)
      → IsPartResult r after (Ok tt)
      → (let p : PollPart = record { after = r; calls = calls } in p)
      ≡ record { after = Ok after; calls = calls }
  led (Ok p) calls after leads =
      ap (λ q. let p : PollPart = record { after = Ok q; calls = calls } in p) (sym leads)
  led (Err why) calls after leads = absurd leads

  ended : (r : Result PortData DisconnectReason) (calls : List Call) (after : PortData)
      (why : DisconnectReason)
      → IsPartResult r after (Err why)
      → (let p : PollPart = record { after = r; calls = calls } in p)
      ≡ record { after = Err why; calls = calls }
  ended (Ok p) calls after why leads = absurd leads
  ended (Err w) calls after why leads =
      ap (λ v. let p : PollPart = record { after = Err v; calls = calls } in p) (sym leads)

  -- ---- one after the other

  record Ran (old new : L) (part : PollPart) (after : PortData)
      (answer : Result (Unit {0}) DisconnectReason)
      : Type 0 where
    makes : MakesCalls step old part.calls new
    leads : IsPartResult part.after after answer

  ran-on : (old mid new : L) (result : Result PortData DisconnectReason) (calls : List Call)
      (between after : PortData) (f : PortData → PollPart)
      (answer : Result (Unit {0}) DisconnectReason)
      → MakesCalls step old calls mid → IsPartResult result between (Ok tt)
      → Ran mid new (f between) after answer
      → Ran old new (and_then (record { after = result; calls = calls }) f) after answer
  ran-on old mid new (Ok p) calls between after f answer makes leads rest =
      let next : Ran mid new (f p) after answer =
      subst (λ q. Ran mid new (f q) after answer) leads rest in
      record {
        makes = Talks-append step old mid new calls (f p).calls makes next.makes;
        leads = next.leads;
      }
  ran-on old mid new (Err why) calls between after f answer makes leads rest = absurd leads

  ran-out : (old new : L) (result : Result PortData DisconnectReason) (calls : List Call)
      (after : PortData) (f : PortData → PollPart) (why : DisconnectReason)
      → MakesCalls step old calls new → IsPartResult result after (Err why)
      → Ran old new (and_then (record { after = result; calls = calls }) f) after (Err why)
  ran-out old new (Ok p) calls after f why makes leads = absurd leads
  ran-out old new (Err w) calls after f why makes leads =
      record { makes = makes; leads = leads }

  module _ (t : ReportedTurn) (s : State) (old : L) (before sent : PortData)
      (answer : Result (Unit {0}) DisconnectReason)
      (sends : IsPartResult (with_report_queued t s before).after sent answer)
    where
      ran-told : Ran old old (with_report_queued t s before) sent answer
      ran-told = record {
        makes = subst (λ cs. MakesCalls step old cs old) (sym (told-calls t s before)) refl;
        leads = sends;
      }

  -- what is done behind a part that led to a closing
  ran-out2 : (old new : L) (a : PollPart) (after : PortData) (f g : PortData → PollPart)
      (why : DisconnectReason)
      → Ran old new a after (Err why) → Ran old new (and_then (and_then a f) g) after (Err why)
  ran-out2 old new a after f g why r =
      let r1 = ran-out old new a.after a.calls after f why r.makes r.leads in
      let b = and_then a f in
      ran-out old new b.after b.calls after g why r1.makes r1.leads

  module _ (t : ReportedTurn) (s : State) (old : L) (before sent : PortData) where
    -- it could not be told
    pub talks-untold : (why : DisconnectReason)
        → IsPartResult (with_report_queued t s before).after sent (Err why)
        → PerformsPart step (exchange_part t s) old old before sent (Err why)
    talks-untold why sends =
        let first = ran-told t s old before sent (Err why) sends in
        let r = ran-out2 old old (with_report_queued t s before) sent (offer_part None)
        (read_part Silence)
        why first in
        record { answers = (None, Silence); makes = r.makes; leads = r.leads }

    module _ (sends : IsPartResult (with_report_queued t s before).after sent (Ok tt)) where
      ran-offered : (new : L) (after : PortData) (answer : Result (Unit {0}) DisconnectReason)
          → (does : PerformsPart step offer_part old new sent after answer)
          → Ran old new (and_then (with_report_queued t s before) (offer_part does.answers)) after
          answer
      ran-offered new after answer does =
          let a = with_report_queued t s before in
          let r = ran-told t s old before sent (Ok tt) sends in
          ran-on old old new a.after a.calls sent after (offer_part does.answers) answer r.makes
          r.leads (record { makes = does.makes; leads = does.leads })

      -- it could not be offered
      pub talks-unoffered : (new : L) (after : PortData) (why : DisconnectReason)
          → PerformsPart step offer_part old new sent after (Err why)
          → PerformsPart step (exchange_part t s) old new before after (Err why)
      talks-unoffered new after why does =
          let r = ran-offered new after (Err why) does in
          let a = and_then (with_report_queued t s before) (offer_part does.answers) in
          let last =
          ran-out old new a.after a.calls after (read_part Silence) why r.makes r.leads in
          record { answers = (does.answers, Silence); makes = last.makes; leads = last.leads }

      module _ (mid : L) (between : PortData)
          (offers : PerformsPart step offer_part old mid sent between (Ok tt))
        where
          ran-read : (new : L) (after : PortData) (answer : Result (Unit {0}) DisconnectReason)
              → (does : PerformsPart step read_part mid new between after answer)
              → Ran old new (and_then
              (and_then (with_report_queued t s before) (offer_part offers.answers))
              (read_part does.answers)) after answer
          ran-read new after answer does =
              let a = and_then (with_report_queued t s before) (offer_part offers.answers) in
              let r = ran-offered mid between (Ok tt) offers in
              ran-on old mid new a.after a.calls between after (read_part does.answers) answer
              r.makes
              r.leads (record { makes = does.makes; leads = does.leads })

          -- its report was queued, it was offered what waits, and read
          pub talks-whole : (new : L) (after : PortData)
              (answer : Result (Unit {0}) DisconnectReason)
              → PerformsPart step read_part mid new between after answer
              → PerformsPart step (exchange_part t s) old new before after answer
          talks-whole new after answer does =
              let r = ran-read new after answer does in
              record {
                answers = (offers.answers, does.answers);
                makes = r.makes;
                leads = r.leads;
              }

  module _ (now : ℕ) (s : State) (old : L) (before greeted : PortData) where
    ran-greeted : (answer : Result (Unit {0}) DisconnectReason)
        → IsPartResult (greet_part now s before).after greeted answer
        → Ran old old (greet_part now s before) greeted answer
    ran-greeted answer greets = record {
      makes = subst (λ cs. MakesCalls step old cs old) (sym (greet-calls now s before)) refl;
      leads = greets;
    }

    -- it could not be greeted
    pub begins-not : (why : DisconnectReason)
        → IsPartResult (greet_part now s before).after greeted (Err why)
        → PerformsPart step (first_part now s) old old before greeted (Err why)
    begins-not why greets =
        let r =
        ran-out2 old old (greet_part now s before) greeted (read_part Silence) (read_part Silence)
        why
        (ran-greeted (Err why) greets) in
        record { answers = (Silence, Silence); makes = r.makes; leads = r.leads }

    module _ (greets : IsPartResult (greet_part now s before).after greeted (Ok tt)) where
      ran-read-first : (new : L) (after : PortData) (answer : Result (Unit {0}) DisconnectReason)
          → (does : PerformsPart step read_part old new greeted after answer)
          → Ran old new (and_then (greet_part now s before) (read_part does.answers)) after answer
      ran-read-first new after answer does =
          let a = greet_part now s before in
          let r = ran-greeted (Ok tt) greets in
          ran-on old old new a.after a.calls greeted after (read_part does.answers) answer r.makes
          r.leads (record { makes = does.makes; leads = does.leads })

      -- the first read brought its end
      pub begins-gone : (new : L) (after : PortData) (why : DisconnectReason)
          → PerformsPart step read_part old new greeted after (Err why)
          → PerformsPart step (first_part now s) old new before after (Err why)
      begins-gone new after why does =
          let r = ran-read-first new after (Err why) does in
          let a = and_then (greet_part now s before) (read_part does.answers) in
          let last =
          ran-out old new a.after a.calls after (read_part Silence) why r.makes r.leads in
          record { answers = (does.answers, Silence); makes = last.makes; leads = last.leads }

      -- it was read twice
      pub begins-whole : (mid new : L) (between after : PortData)
          (answer : Result (Unit {0}) DisconnectReason)
          → PerformsPart step read_part old mid greeted between (Ok tt)
          → PerformsPart step read_part mid new between after answer
          → PerformsPart step (first_part now s) old new before after answer
      begins-whole mid new between after answer first second =
          let a = and_then (greet_part now s before) (read_part first.answers) in
          let r = ran-read-first mid between (Ok tt) first in
          let last =
          ran-on old mid new a.after a.calls between after (read_part second.answers) answer r.makes
          r.leads (record { makes = second.makes; leads = second.leads }) in
          record {
            answers = (first.answers, second.answers);
            makes = last.makes;
            leads = last.leads;
          }

  -- ---- behind a turn

  -- what is attended to goes by how the process stands
  pub attends-as : (f g : Script → PollOutcome) (old new : L) (after : PortData)
      (connection_event : Option ConnectionEvent)
      → ((script : Script) → f script ≡ g script) → Polls step g old new after connection_event
      → Polls step f old new after connection_event
  attends-as f g old new after connection_event same attends =
      let is = same attends.script in
      record {
        script = attends.script;
        makes = subst (λ (a : PollOutcome). MakesCalls step old a.calls new) (sym is) attends.makes;
        port = attends.port ∙ sym (ap (λ (a : PollOutcome). a.port) is);
        connection_event_is =
            attends.connection_event_is ∙ sym (ap (λ (a : PollOutcome). a.connection_event) is);
      }

  -- no connection was accepted
  pub accepts-none : (now : ℕ) (s : State) (old new : L) (before : PortData)
      (taken : Option (Option SocketAddrV4))
      → accept_outcome now s taken (Silence, Silence) before
      ≡ record { port = before; connection_event = None; calls = Accepts 1 taken ∷ [] }
      → step old (Accepts 1 taken) new
      → Polls step (λ script. accept_outcome now s script.accepted
      (script.heard, script.again) before)
      old new before None
  accepts-none now s old new before taken is call =
      record {
        script = record { accepted = taken; taken = None; heard = Silence; again = Silence };
        makes = rw is (new, call, refl);
        port = rw is refl;
        connection_event_is = rw is refl;
      }

  -- one was, and it was welcomed
  pub accepts-one : (now : ℕ) (s : State) (old mid new : L) (from : SocketAddrV4)
      (before after : PortData)
      (connection_event : Option ConnectionEvent)
      → step old (Accepts 1 (Some (Some from))) mid
      → Polls step
      (λ script. after_greeting before
      (first_part now s (script.heard, script.again) (with_no_data Present before))) mid new after
      connection_event
      → Polls step (λ script. accept_outcome now s script.accepted
      (script.heard, script.again) before)
      old new after connection_event
  accepts-one now s old mid new from before after connection_event call welcomes =
      let answers = welcomes.script in
      record {
        script =
            record {
              accepted = Some (Some from);
              taken = None;
              heard = answers.heard;
              again = answers.again;
            };
        makes = (mid, call, welcomes.makes);
        port = welcomes.port;
        connection_event_is = welcomes.connection_event_is;
      }

  -- it is taken
  pub welcomes-taken : (now : ℕ) (s : State) (old new : L) (before after : PortData)
      → PerformsPart step (first_part now s) old new (with_no_data Present before) after (Ok tt)
      → Polls step (λ script. after_greeting before
      (first_part now s (script.heard, script.again) (with_no_data Present before)))
      old new after (Some Opened)
  welcomes-taken now s old new before after does =
      let part = first_part now s does.answers (with_no_data Present before) in
      let is = led part.after part.calls after does.leads in
      record {
        script = record {
          accepted = None;
          taken = None;
          heard = does.answers.0;
          again = does.answers.1;
        };
        makes = rw is does.makes;
        port = rw is refl;
        connection_event_is = rw is refl;
      }

  -- or it has gone
  pub welcomes-gone : (now : ℕ) (s : State) (old mid new : L) (before after : PortData)
      (why : DisconnectReason)
      → PerformsPart step (first_part now s) old mid (with_no_data Present before) after (Err why)
      → step mid (Closes 1) new
      → Polls step (λ script. after_greeting before
      (first_part now s (script.heard, script.again) (with_no_data Present before)))
      old new (with_no_data Absent before) None
  welcomes-gone now s old mid new before after why does closes =
      let part = first_part now s does.answers (with_no_data Present before) in
      let is = ended part.after part.calls after why does.leads in
      record {
        script = record {
          accepted = None;
          taken = None;
          heard = does.answers.0;
          again = does.answers.1;
        };
        makes = rw is (Talks-append step old mid new part.calls (Closes 1 ∷ []) does.makes
            (new, closes, refl));
        port = rw is refl;
        connection_event_is = rw is refl;
      }

  module _ (t : ReportedTurn) (s : State) (old mid : L) (before after : PortData) where
    attended-here : (script : Script) → before.presence ≡ Present
        → poll_outcome t s script before
        ≡ connected_outcome before (exchange_part t s (script.taken, script.heard) before)
    attended-here script here = rw here refl

    -- a process stays
    pub attends-kept : before.presence ≡ Present
        → PerformsPart step (exchange_part t s) old mid before after (Ok tt)
        → Polls step (λ script. poll_outcome t s script before) old mid after None
    attends-kept here does =
        let part = exchange_part t s does.answers before in
        let is = led part.after part.calls after does.leads in
        attends-as (λ script. poll_outcome t s script before)
        (λ script. connected_outcome before (exchange_part t s (script.taken, script.heard) before))
        old mid after
        None (λ script. attended-here script here)
        (record {
          script = record {
            accepted = None;
            taken = does.answers.0;
            heard = does.answers.1;
            again = Silence;
          };
          makes = rw is does.makes;
          port = rw is refl;
          connection_event_is = rw is refl;
        })

    -- or it is closed
    pub attends-closed : (new : L) (why : DisconnectReason) → before.presence ≡ Present
        → PerformsPart step (exchange_part t s) old mid before after (Err why)
        → step mid (Closes 1) new
        → Polls step (λ script. poll_outcome t s script before) old new
        (with_no_data LossPending before)
        (Some (Closed why))
    attends-closed new why here does closes =
        let part = exchange_part t s does.answers before in
        let is = ended part.after part.calls after why does.leads in
        attends-as (λ script. poll_outcome t s script before)
        (λ script. connected_outcome before (exchange_part t s (script.taken, script.heard) before))
        old new
        (with_no_data LossPending before) (Some (Closed why)) (λ script. attended-here script here)
        (record {
          script = record {
            accepted = None;
            taken = does.answers.0;
            heard = does.answers.1;
            again = Silence;
          };
          makes = rw is (Talks-append step old mid new part.calls (Closes 1 ∷ []) does.makes
              (new, closes, refl));
          port = rw is refl;
          connection_event_is = rw is refl;
        })

    -- a process that has gone
    pub attends-leaving : before.presence ≡ LossPending → after ≡ before
        → Polls step (λ script. poll_outcome t s script before) old old after None
    attends-leaving leaving is =
        attends-as (λ script. poll_outcome t s script before)
        (λ script. unchanged_outcome before) old old after None
        (λ script. rw leaving refl)
        (record {
          script =
              record { accepted = None; taken = None; heard = Silence; again = Silence };
          makes = refl;
          port = is;
          connection_event_is = refl;
        })

    -- a process that a turn has dismissed
    pub attends-dismissed : (new : L) (why : DisconnectReason)
        (connection_event : Option ConnectionEvent)
        → before.presence ≡ Dismissed why
        → ClosesDismissed step before.presence old new before after connection_event
        → Polls step (λ script. poll_outcome t s script before) old new after connection_event
    attends-dismissed new why connection_event leaving closes =
        let k : ClosesDismissed step (Dismissed why) old new before after connection_event =
        subst (λ presence. ClosesDismissed step presence old new before after connection_event)
        leaving closes
        in
        attends-as (λ script. poll_outcome t s script before)
        (λ script. close_dismissed why before) old new after connection_event
        (λ script. rw leaving refl)
        (record {
          script =
              record { accepted = None; taken = None; heard = Silence; again = Silence };
          makes = (new, k.0, refl);
          port = k.1;
          connection_event_is = k.2;
        })
