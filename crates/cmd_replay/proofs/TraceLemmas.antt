-- The text that is printed for the lines of a trace is that of a history of steps.
use Rattle.std.proofs.Common.{◌≡◌, ℕ, zero, suc, ◌+◌, Bool, true, false, cond, nat_lt, List, [], ◌∷◌, ◌++◌, All, length, codes, Option, Some, None, MatchBool, inl, inr, max, refl, ap, sym, subst, ◌∙◌, append_assoc, arith}
use Rattle.std.proofs.lemmas.List.{length-append}
use Rattle.std.proofs.lemmas.List.Elements.{All-append, All-nil}
use Rattle.bay_device.specs.Device.{State}
use Rattle.bay_device.specs.Fresh.{PastEvent}
use Rattle.bay_device.specs.Outcomes.{Outcome, outcome}
use Rattle.bay_device.specs.Steps.{Steps}
use Rattle.bay_device.specs.declared.event.Event.{Event}
use Rattle.bay_trace.specs.Resolving.{octet_count, resolved_event}
use Rattle.bay_trace.specs.Trace.{LineData, NamedData, at_moment, blank, trace_line_of}
use Rattle.bay_report.specs.Lines.{step_text}
use Rattle.cmd_replay.specs.LineAnswers.{Choice, LineAnswer, Replaying, event_answer, heard, line_answer, memory_answer, named_answer, unread}
use Rattle.bay_report.specs.LogLines.{IsLoggedOutput}
use Rattle.cmd_replay.specs.Replay.{TraceReport, last_log}
use Rattle.cmd_replay.specs.History.{EachPast, device_after}
use Rattle.cmd_replay.specs.Runs.{AreLineEvents, EndsAs, IsBlank, past_text}

-- ---- one more line

only : (P : List ℕ → Type 0) (line : List ℕ) → P line → All P (line ∷ [])
only P line is zero d within = is
only P line is (suc k) d within = absurd (omega arith)

blank-more : (first : State) (past : List PastEvent) (done : List (List ℕ)) (line : List ℕ)
    → IsBlank line → AreLineEvents first past done → AreLineEvents first past (done ++ line ∷ [])
blank-more first [] done line is of =
    All-append IsBlank done (line ∷ []) of (only IsBlank line is)
blank-more first (p ∷ past) done line is of = (
  of.0,
  record {
    line = of.1.line;
    blanks = of.1.blanks ++ line ∷ [];
    split = ap (λ ls. ls ++ line ∷ []) of.1.split
        ∙ append_assoc of.0 (of.1.line ∷ of.1.blanks) (line ∷ []);
    named = of.1.named;
    reads = of.1.reads;
    event = of.1.event;
    blank = All-append IsBlank of.1.blanks (line ∷ []) of.1.blank (only IsBlank line is);
  },
  of.2,
)

-- ---- a trace from some line on

-- The rest of a trace goes on with a history, to its end.
pub record Ends (first : State) (past : List PastEvent) (done lines : List (List ℕ)) (text : List ℕ)
    (status : ℕ) : Type 0 where
  pub whole : List PastEvent
  pub steps : EachPast Steps first whole
  pub all : List (List ℕ)
  pub rest : List (List ℕ)
  pub split : done ++ lines ≡ all ++ rest
  pub events : AreLineEvents first whole all
  pub ending : List ℕ
  pub ends : EndsAs (length all) rest ending status
  pub printed : past_text past ++ text ≡ past_text whole ++ ending

-- a device that a trace has come to
abbrev at : State → List PastEvent → ℕ → Replaying
at first past room = record { device = device_after first past; room = room }

-- what follows a line
abbrev Later : Option (List ℕ) → State → List (List ℕ) → List (List ℕ) → Type 0
Later log first done lines =
    (past : List PastEvent) (room : ℕ) (text : List ℕ) (status : ℕ) → EachPast Steps first past
    → AreLineEvents first past done
    → TraceReport (at first past room) (length done + 1) lines log text status
    → Ends first past done lines text status

-- what a line's answer comes to
abbrev Told : List ℕ → LineAnswer → ℕ → List (List ℕ) → Option (List ℕ) → List ℕ → ℕ → Type 0
Told line answer k lines log text status =
    MatchBool answer.is_last (IsLoggedOutput (last_log k line) answer.text 3 log text status)
    ((rest : List ℕ) × (text ≡ answer.text ++ rest)
    × TraceReport answer.after (k + 1) lines log rest status)

count-more : (done : List (List ℕ)) (line : List ℕ)
    → length done + 1 + 1 ≡ length (done ++ line ∷ []) + 1
count-more done line = omega (arith, length-append done (line ∷ []))

module _ (log : Option (List ℕ)) (first : State) (done : List (List ℕ)) (line : List ℕ)
    (lines : List (List ℕ)) (later : Later log first (done ++ line ∷ []) lines)
    (past : List PastEvent)
    (steps : EachPast Steps first past) (of : AreLineEvents first past done) (room : ℕ) where
  -- the trace ends at the line
  stops : (text : List ℕ) (status : ℕ) → EndsAs (length done) (line ∷ lines) text status
      → Ends first past done (line ∷ lines) text status
  stops text status ends = record {
    whole = past;
    steps = steps;
    all = done;
    rest = line ∷ lines;
    split = refl;
    events = of;
    ending = text;
    ends = ends;
    printed = refl;
  }

  -- it goes on behind it
  on : (text : List ℕ) (status : ℕ) → Ends first past (done ++ line ∷ []) lines text status
      → Ends first past done (line ∷ lines) text status
  on text status e = record {
    whole = e.whole;
    steps = e.steps;
    all = e.all;
    rest = e.rest;
    split = sym (append_assoc done (line ∷ []) lines) ∙ e.split;
    events = e.events;
    ending = e.ending;
    ends = e.ends;
    printed = e.printed;
  }

  goes-blank : (text rest : List ℕ) (status : ℕ) → IsBlank line → text ≡ rest
      → TraceReport (at first past room) (length done + 1 + 1) lines log rest status
      → Ends first past done (line ∷ lines) text status
  goes-blank text rest status is same told =
      subst (λ t. Ends first past done (line ∷ lines) t status) (sym same)
      (on rest status (later past room rest status steps (blank-more first past done line is of)
      (subst (λ k. TraceReport (at first past room) k lines log rest status) (count-more done line)
      told)))

  module _ (m : ℕ) (named : NamedData) (reads : trace_line_of line ≡ Some (at_moment m named))
    where
      abbrev event : Event
      event = resolved_event (device_after first past) named

      abbrev done_by : Option ℕ → Outcome
      done_by choice = outcome choice m event (device_after first past)

      abbrev new : Option ℕ → PastEvent
      new choice = record {
        now = m;
        event = event;
        answer = (done_by choice).answer;
        after = (done_by choice).after;
      }

      goes-event : (choice : Option ℕ) (text : List ℕ) (status : ℕ)
          → Told line (event_answer choice m event (octet_count named) (at first past room))
          (length done + 1) lines log text status
          → Ends first past done (line ∷ lines) text status
      goes-event choice text status told =
          let p = new choice in
          let more : List ℕ = step_text m p.answer p.after in
          let rest : List ℕ = told.0 in
          let e =
          later (p ∷ past) (max room (octet_count named)) rest status
          (record { choice = choice; answered = refl; left = refl }, steps) (
            done,
            record {
              line = line;
              blanks = [];
              split = refl;
              named = named;
              reads = reads;
              event = refl;
              blank = All-nil IsBlank;
            },
            of,
          )
          (subst (λ k. TraceReport (at first (p ∷ past) (max room (octet_count named))) k lines log
          rest
          status) (count-more done line) told.2) in
          on text status (record {
            whole = e.whole;
            steps = e.steps;
            all = e.all;
            rest = e.rest;
            split = e.split;
            events = e.events;
            ending = e.ending;
            ends = e.ends;
            printed = ap (λ t. past_text past ++ t) told.1
                ∙ sym (append_assoc (past_text past) more rest) ∙ e.printed;
          })

      goes-room : (b : Bool) (text : List ℕ) (status : ℕ)
          → Told line (cond b (memory_answer (at first past room))
          (event_answer None m event (octet_count named) (at first past room))) (length done + 1)
          lines
          log text status
          → Ends first past done (line ∷ lines) text status
      goes-room true text status told =
          subst (λ t. Ends first past done (line ∷ lines) t status) (sym told.1.0)
          (stops (codes "fault memory\n") status (inr refl, told.1.1))
      goes-room false text status told = goes-event None text status told

      goes-named : (choice : Choice) (text : List ℕ) (status : ℕ)
          → Told line (named_answer choice m named (at first past room)) (length done + 1) lines log
          text status
          → Ends first past done (line ∷ lines) text status
      goes-named unread text status told =
          goes-room (nat_lt room (octet_count named)) text status told
      goes-named (heard choice) text status told = goes-event choice text status told

  goes-line : (choice : Choice) (d : Option LineData) (text : List ℕ) (status : ℕ)
      → trace_line_of line ≡ d
      → Told line (line_answer choice (length done + 1) d (at first past room)) (length done + 1)
      lines log text status
      → Ends first past done (line ∷ lines) text status
  goes-line choice None text status is told =
      stops text status (inl (is, told.1.0), told.1.1)
  goes-line choice (Some blank) text status is told =
      goes-blank text told.0 status is told.1 told.2
  goes-line choice (Some (at_moment m named)) text status is told =
      goes-named m named is choice text status told

-- from any place on, a trace goes on as it is read
pub goes : (log : Option (List ℕ)) (first : State) (done lines : List (List ℕ))
    → Later log first done lines
goes log first done [] past room text status steps of told = record {
  whole = past;
  steps = steps;
  all = done;
  rest = [];
  split = refl;
  events = of;
  ending = [];
  ends = (refl, told.1.1);
  printed = ap (λ t. past_text past ++ t) told.1.0;
}
goes log first done (line ∷ lines) past room text status steps of told =
    goes-line log first done line lines (goes log first (done ++ line ∷ []) lines) past steps of
    room
    told.0 (trace_line_of line) text status refl told.1
