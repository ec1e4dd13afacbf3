-- A turn's device and commands are those of its events, and it tells of a failed link only where a
-- call failed.
use Rattle.std.proofs.Common.{Err, List, None, Ok, Result, [], ap, append-nil, arith, false, inl, inr, length, refl, sym, true, ℕ, ◌++◌, ◌+◌, ◌∙◌, ◌∷◌, ◌≡◌, ◌⊎◌}
use Rattle.std.proofs.lemmas.Bool.{or_left, or_right}
use Rattle.bay_device.specs.Outcomes.{outcome}
use Rattle.bay_device.specs.Steps.{IsWithoutOctets}
use Rattle.bay_device.specs.declared.event.Event.{Event}
use Rattle.bay_device.specs.declared.event.Event.TheVariants.{Close, Open, Recv, Scan}
use Rattle.bay_device.specs.declared.event.Step.{Step}
use Rattle.bay_device.specs.declared.event.Why.TheVariants.{Ended}
use Rattle.bay_device.specs.declared.fault.StepFault.{StepFault}
use Rattle.bay_trace.specs.Resolving.{borrow_of}
use Rattle.bay_server_turn.specs.Calls.{Call, Closes, is_failed}
use Rattle.bay_server_turn.specs.Turns.{ServerData, TurnData, Script, TurnState, after_event, after_opening, after_closing, after_turn, close_at_once, event_of, after_end, start_closing, after_process_event, put_quiet, record_refusal, turn_begin, turn_calls, with_device, with_noted, with_queue}
use Rattle.bay_server_turn.specs.declared.process_input.ProcessReport.{ProcessReport}
use Rattle.bay_server_turn.specs.declared.turn_report.CloseReason.{CloseReason}
use Rattle.bay_server_turn.specs.declared.turn_report.CloseReason.TheVariants as closing
use Rattle.bay_server_turn_laws.specs.Causes.{has_some}
use Rattle.bay_server_turn_laws.specs.Events.{ChosenEvent, closing_of, answer_commands, commands_of, outcomes_at, with_memory, turn_events}
use Rattle.bay_server_turn_laws.specs.Faults.{is_link_failed, reports_failure}
use Rattle.bay_server_turn_laws.proofs.Acts.{Act, Asks, Breaks, Can, Fills, HangsUp, Hears, Offers, Parts, Scans, Tells, after, calls_by, events_by}
use Rattle.bay_server_turn_laws.proofs.CallLemmas.{some-append}
use Rattle.bay_server_turn_laws.proofs.DoneLemmas.{commands-append}
use Rattle.bay_server_turn_laws.proofs.QuietLemmas.{IsQuiet, outcome-quiet, process-quiet}
use Rattle.bay_server_turn_laws.proofs.SameLemmas.{Same, Same-refl, goes-commands, goes-same, leaves-same, parted-same, put_answer-commands, put_quiet-same, put_told-same, recorded-same}
use Rattle.bay_server_turn_laws.proofs.KeptLemmas.{IsKept, answers_to, turned-device, turned-keeps}
use Rattle.bay_server_turn_laws.proofs.WalkLemmas.{Begins, Opening, Quietly, turn-is-acts}

-- the device after a turn, the commands that it tells, and what it tells of failed links
pub record Part (now : ℕ) (s : TurnState) (calls : List Call) (events : List ChosenEvent)
    (t : TurnState)
    : Type 0 where
  pub device : t.server.device ≡ (outcomes_at now events s.server.device).after
  pub commands : t.noted.commands
      ≡ s.noted.commands ++ commands_of (outcomes_at now events s.server.device).answers
  pub blames : reports_failure t.noted.closed ≡ true
      → (reports_failure s.noted.closed ≡ true) ⊎ (has_some is_failed calls ≡ true)

-- such notes, by the calls and the answers up to here
record Tells_of (calls : List Call) (answers : List (Result Step StepFault)) (n : TurnData)
    : Type 0 where
  commands : n.commands ≡ commands_of answers
  blames : reports_failure n.closed ≡ true → has_some is_failed calls ≡ true

module _ (now : ℕ) where
  -- ---- what an act adds

  quiet-commands : (answer : Result Step StepFault) → IsQuiet answer
      → [] ≡ commands_of (answer ∷ [])
  quiet-commands (Err fault) h = refl
  quiet-commands (Ok step) h = ap (λ l. l ++ []) (sym h.commands)

  -- an event of which only the device is left, and what does not matter here
  quiet-part : (s u t : TurnState) (calls : List Call) (event : Event) → IsWithoutOctets event
      → Same s u
      → (let o = outcome None now event s.server.device in Same (with_device o.after u) t)
      → Part now s calls (with_memory event ∷ []) t
  quiet-part s u t calls event h first same =
      let o = outcome None now event s.server.device in
      record {
        device = same.device;
        commands = same.commands ∙ first.commands ∙ sym (append-nil s.noted.commands)
            ∙ ap (λ l. s.noted.commands ++ l)
            (quiet-commands o.answer (outcome-quiet None now event s.server.device h));
        blames = λ e. inl (sym first.failures ∙ sym same.failures ∙ e);
      }

  still-part : (s t : TurnState) (calls : List Call) → Same s t → Part now s calls [] t
  still-part s t calls same = record {
    device = same.device;
    commands = same.commands ∙ sym (append-nil s.noted.commands);
    blames = λ e. inl (sym same.failures ∙ e);
  }

  cut-part : (why : CloseReason) (slot : ℕ) (s : TurnState) (calls : List Call)
      → (is_link_failed why ≡ false) ⊎ (has_some is_failed calls ≡ true)
      → Part now s calls (closing_of slot ∷ []) (close_at_once now why slot s)
  unfolding close_at_once
  cut-part why slot s calls h =
      let t : TurnState = after_event now (Close (slot + 1)) s in
      let o = outcome None now (Close (slot + 1)) s.server.device in
      let part : Part now s calls (closing_of slot ∷ []) t =
      quiet-part s s t calls (Close (slot + 1)) tt (Same-refl s)
      (recorded-same now [] (Close (slot + 1)) (with_device o.after s)
      (put_quiet o.answer (with_device o.after s))
      (put_quiet-same o.answer (with_device o.after s))) in
      record {
        device = part.device;
        commands = goes-commands slot why t.noted ∙ part.commands;
        blames = λ e. elim h [
          | inl f ↦ part.blames (sym (goes-same slot why t.noted f).failures ∙ e)
          | inr f ↦ inr f
        ];
      }

  act-part : (most : ℕ) (a : Act) (s : TurnState) → Can most a s
      → Part now s (calls_by a) (events_by a) (after now a s)
  act-part most (Asks call) s can = still-part s s (call ∷ []) (Same-refl s)
  act-part most (Hears slot choice octets) s can =
      let o = outcome choice now (Recv (slot + 1) (borrow_of octets)) s.server.device in
      let reported = put_answer-commands slot o.answer (with_device o.after s) in
      record {
        device = reported.device;
        commands = reported.commands
            ∙ ap (λ l. s.noted.commands ++ l) (sym (append-nil (answer_commands o.answer)));
        blames = λ e. inl (sym reported.failures ∙ e);
      }
  act-part most (HangsUp slot) s can =
      let o = outcome None now (Close (slot + 1)) s.server.device in
      let left : TurnState = with_noted (start_closing slot Ended s.noted) s in
      quiet-part s left (after_end now slot s) (calls_by (HangsUp slot)) (Close (slot + 1)) tt
      (leaves-same slot Ended s)
      (recorded-same now [] (Close (slot + 1)) (with_device o.after left)
      (put_quiet o.answer (with_device o.after left))
      (put_quiet-same o.answer (with_device o.after left)))
  act-part most (Tells source event) s can =
      let o = outcome None now (event_of event) s.server.device in
      quiet-part s s (after_process_event now source event s) [] (event_of event)
      (process-quiet event)
      (Same-refl s)
      (recorded-same now source (event_of event) (with_device o.after s)
      (record_refusal o.answer (with_device o.after s))
      (put_told-same o.answer (with_device o.after s)))
  act-part most Scans s can =
      let o = outcome None now Scan s.server.device in
      quiet-part s s (after_event now Scan s) [] Scan tt (Same-refl s)
      (recorded-same now [] Scan (with_device o.after s)
      (put_quiet o.answer (with_device o.after s))
      (put_quiet-same o.answer (with_device o.after s)))
  act-part most (Fills slot) s can =
      cut-part closing.QueueFull slot s (Closes (slot + 1) ∷ []) (inl refl)
  act-part most (Breaks slot calls) s can =
      cut-part closing.LinkFailed slot s (calls ++ Closes (slot + 1) ∷ [])
      (inr (some-append is_failed calls (Closes (slot + 1) ∷ [])
      ∙ or_left _ _ (can.1.offered.blamed refl)))
  act-part most (Offers slot calls left) s can =
      still-part s (with_queue slot left s) calls
      (record { device = refl; commands = refl; failures = refl })
  act-part most (Parts slot calls) s can =
      still-part s (after_closing slot s) (calls ++ Closes (slot + 1) ∷ [])
      (parted-same slot s)

  -- ---- a whole turn

  act-tells : (most : ℕ) → IsKept now most (λ c e r s. Tells_of c r s.noted)
  act-tells most a c e r s sized can i =
      let part = act-part most a s can in
      let answers = answers_to now (events_by a) s in
      record {
        commands = part.commands ∙ ap (λ l. l ++ commands_of answers) i.commands
            ∙ sym (commands-append r answers);
        blames = λ reported. some-append is_failed c (calls_by a) ∙ elim (part.blames reported) [
          | inl f ↦ or_left _ _ (i.blames f)
          | inr f ↦ or_right _ _ f
        ];
      }

  begins-tells : (most : ℕ) (h : ServerData) (s : TurnState) (c : List Call) (e : List ChosenEvent)
      → Begins now most h s c e → Tells_of c (outcomes_at now e h.device).answers s.noted
  begins-tells most h s c e Quietly =
      record { commands = refl; blames = λ reported. absurd (cc) }
  begins-tells most h s c e (Opening slot from free) =
      let t : TurnState = turn_begin h in
      let o = outcome None now (Open (slot + 1)) h.device in
      let part : Part now t c (with_memory (Open (slot + 1)) ∷ []) (after_opening now slot t) =
      quiet-part t t (after_opening now slot t) c (Open (slot + 1)) tt (Same-refl t)
      (recorded-same now [] (Open (slot + 1)) (with_device o.after t)
      (put_quiet o.answer (with_device o.after t))
      (put_quiet-same o.answer (with_device o.after t))) in
      record {
        commands = part.commands;
        blames = λ reported. elim (part.blames reported) [ inl f ↦ absurd (cc) | inr f ↦ f ];
      }

  pub Part-turn : (given : ProcessReport) (script : Script) (h : ServerData)
      → Part now (turn_begin h) (turn_calls now given script h) (turn_events now given script h)
      (after_turn now given script h)
  Part-turn given script h =
      let most = length script.readings + length script.offers in
      let t : TurnState = after_turn now given script h in
      let m = turn-is-acts now most given script h (omega arith) (omega arith) in
      let tells =
      turned-keeps now most (λ c e r s. Tells_of c r s.noted) (act-tells most) h script.accepted t
      (turn_calls now given script h) (turn_events now given script h) m
      (begins-tells most h m.start m.calls m.events m.begins) in
      record {
        device = turned-device now most h script.accepted t (turn_calls now given script h)
            (turn_events now given script h) m;
        commands = tells.commands;
        blames = λ reported. inr (tells.blames reported);
      }
