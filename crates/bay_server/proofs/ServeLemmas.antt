-- Lemmas on serving, turn by turn.
use Rattle.bay_io.specs.Calls.{WriteCall}
use Rattle.std.proofs.Common.{◌≡◌, ◌⊎◌, ℕ, suc, ◌+◌, ◌==◌, Bool, true, false, IsErr, MatchBool, List, ◌∷◌, length, Option, None, Some, Result, Ok, Err, inl, inr, refl, sym, ap, subst, ◌∙◌, arith, []}
use Rattle.std.proofs.lemmas.Bool.Decides.{nat_tests}
use Rattle.bay_device.specs.Device.{State}
use Rattle.bay_io.specs.Sent.{Logs}
use Rattle.bay_io.specs.Watched.{WriterState}
use Rattle.bay_io.specs.declared.outbox.WriteFault.{WriteFault}
use Rattle.bay_report.proofs.ReportLemmas.{nil-from-length}
use Rattle.bay_server.specs.Clock.{ClockData, after_reading, jump_of, moment_read, shift_of, turn_end}
use Rattle.bay_server.specs.Host.{HostCall, ReadsTimes}
use Rattle.bay_report.specs.Report.{IsOutput, Prints}
use Rattle.bay_report.specs.TextLines.{CutsLine, lines_of}
use Rattle.bay_server.specs.ServeReport.{AfterTurn, AwaitsNext, AwaitsTurn, ChosenInput, ProcessData, PollsProcess, ServiceState, ServesTurns, ReportsAndPolls, ReportsConnectionEvent, ReportsTurn, ReportsTurnRefusal, TurnRefused, TurnServed, chosen_input, choose_input, moment_of, numbered_lines, skips_reads}
use Rattle.bay_process_port.specs.declared.connection_event.ConnectionEvent.{ConnectionEvent}
use Rattle.bay_server.specs.Serving.{TriesTurn}
use Rattle.bay_server.specs.ChangeLines.{bay_view}
use Rattle.bay_server.specs.ConnectionLines.{count_after}
use Rattle.bay_server.specs.LogLines.{shift_log, all_served_log}
use Rattle.bay_server.specs.Logging.{LogsAll}
use Rattle.bay_server.specs.RecordLine.{record_log}
use Rattle.bay_server.specs.TurnLines.{is_quiet, turn_text}
use Rattle.bay_server.specs.declared.serving.TurnAttempt.{TurnAttempt}
use Rattle.bay_server.specs.declared.serving.TurnAttempt.TheVariants as tried
use Rattle.bay_report.proofs.PieceLemmas.{lines-cut}
use Rattle.bay_server_turn.specs.Calls.{Call, CountedCall, MakesCalls}
use Rattle.bay_server_turn.specs.Served.{Serves, report_in, turn_refusal}
use Rattle.bay_server_turn.specs.Turns.{ServerData, WritesRecord, moment_at, with_recording}
use Rattle.bay_server_turn.specs.declared.turn_report.Turn.{Turn}
use Rattle.bay_server_turn.specs.declared.process_input.ProcessReport.{ProcessReport}
use Rattle.bay_server_turn.specs.declared.fault.ServeFault.{ServeFault}
use Rattle.bay_server_turn.specs.declared.record.RecordEnd.{RecordEnd}
use Rattle.bay_server.specs.declared.change_lines.BayView.{BayView}
use Rattle.bay_server.specs.declared.clock.Clocks.{Clocks}
use Rattle.bay_server.specs.declared.clock.ClockShift.{ClockShift}
use Rattle.bay_server.specs.declared.connection_lines.LineCount.{LineCount}
use Rattle.bay_server.specs.declared.process.NextInput.{NextInput}
use Rattle.bay_server.proofs.LogLemmas.{unlogged-as}

-- ---- the lines of a trace that are not empty

told-some : (k : ℕ) (line : List ℕ) (lines : List (List ℕ)) → (length line == 0) ≡ false
    → numbered_lines k (line ∷ lines) ≡ (k, line) ∷ numbered_lines (k + 1) lines
told-some k [] lines e = absurd cc
told-some k (b ∷ bs) lines e = refl

told-none : (k : ℕ) (line : List ℕ) (lines : List (List ℕ)) → (length line == 0) ≡ true
    → numbered_lines k (line ∷ lines) ≡ numbered_lines (k + 1) lines
told-none k line lines e =
    ap (λ l. numbered_lines k (l ∷ lines)) (nil-from-length line (grind (arith, nat_tests)))

module _ (k : ℕ) (text : List ℕ) (all : List (ℕ × List ℕ))
    (is : numbered_lines k (lines_of text) ≡ all)
  where
    -- the next line is not empty
    pub told-line : (line rest : List ℕ) → CutsLine text line rest → (length line == 0) ≡ false
        → all ≡ (k, line) ∷ numbered_lines (k + 1) (lines_of rest)
    told-line line rest cuts e =
        sym is ∙ (ap (numbered_lines k) (lines-cut text line rest cuts)
        ∙ told-some k line (lines_of rest) e)

    -- it is empty
    pub told-blank : (line rest : List ℕ) → CutsLine text line rest → (length line == 0) ≡ true
        → numbered_lines (k + 1) (lines_of rest) ≡ all
    told-blank line rest cuts e =
        sym (ap (numbered_lines k) (lines-cut text line rest cuts)
        ∙ told-none k line (lines_of rest) e)
        ∙ is

    -- there is none
    pub told-end : (length text == 0) ≡ true → all ≡ []
    told-end e =
        sym is ∙ ap (λ t. numbered_lines k (lines_of t))
        (nil-from-length text (grind (arith, nat_tests)))

-- ---- a link that has another below it, to which each call goes

module _ {L B : Type 0} (below : B → L) (does : L → Call → L → Type 0) (failures : L → ℕ) where
  talks-below : (calls : List Call) (old new : B)
      → MakesCalls (CountedCall (λ o call n. does (below o) call (below n))
      (λ b. failures (below b)))
      old
      calls new
      → MakesCalls (CountedCall does failures) (below old) calls (below new)
  talks-below [] old new makes = ap below makes
  talks-below (call ∷ calls) old new makes = (
    below makes.0,
    record { done = makes.1.done; counted = makes.1.counted },
    talks-below calls makes.0 new makes.2,
  )

  pub serves-below : (old new : B) (now : ℕ) (given : ProcessReport) (source : List ℕ)
      (before after : ServerData) (turn : Turn)
      → Serves (CountedCall (λ o call n. does (below o) call (below n)) (λ b. failures (below b)))
      old
      new now given source before after turn
      → Serves (CountedCall does failures) (below old) (below new) now given source before after
      turn
  serves-below old new now given source before after turn s = record {
    script = s.script;
    source_is = s.source_is;
    all_read = s.all_read;
    all_offered = s.all_offered;
    makes = talks-below _ old new s.makes;
    server = s.server;
    opened = s.opened;
    refused = s.refused;
    commands = s.commands;
    decisions = s.decisions;
    closed = s.closed;
    memory = s.memory;
    over = s.over;
  }

-- ---- one turn

module _ {L B H W : Type 0} (below : B → L) (does : L → Call → L → Type 0) (failures : L → ℕ)
    (acts : H → HostCall L → H → Type 0) (contents : W → Option (List ℕ))
    (asks : W → WriteCall → W → Type 0) where
  -- a turn was done over the link that has another below it, what it tells was printed, and the
  -- process was attended to
  pub turn-goes : (link-before link-after : B) (held-before held-served held-after : ServerData)
      (clock-before clock-after : ClockData) (host-before host-after : H)
      (process-before process-chosen process-after : Option (ProcessData L))
      (lines-before lines-after : List (ℕ × List ℕ)) (clocks : Clocks) (clock now : ℕ)
      (next : NextInput)
      (shift : Option ClockShift) (device : State) (source : List ℕ) (before : BayView)
      (old begun told-to new : WriterState W) (end : Option RecordEnd) (turn : Turn) (s : State)
      (jump : ℕ) (count-before count-after : LineCount) (answer : Result ℕ WriteFault)
      → clock-after ≡ after_reading clocks clock-before → clock ≡ clock-after.moment
      → now ≡ moment_at clock held-before
      → shift ≡ shift_of clock-before.side clock-after.moment clocks.system
      → device ≡ held-before.device → jump ≡ jump_of clocks clock-before
      → next ≡ (choose_input device now jump lines-before process-before).next
      → process-chosen ≡ (choose_input device now jump lines-before process-before).process
      → lines-after ≡ (choose_input device now jump lines-before process-before).lines
      → s ≡ held-served.device → source ≡ next.shown
      → WritesRecord held-served held-after end
      → acts host-before (ReadsTimes clocks.system clocks.steady) host-after
      → LogsAll contents asks old (shift_log now shift) begun
      → turn_refusal clock next.given held-before ≡ None
      → Serves (CountedCall (λ o call n. does (below o) call (below n)) (λ b. failures (below b)))
      link-before link-after (moment_at clock held-before) (report_in next.given) source held-before
      held-served turn
      → before ≡ bay_view held-before.device
      → ReportsAndPolls (CountedCall does failures) contents asks now count-before next before turn
      s
      process-chosen process-after begun told-to answer
      → count-after ≡ count_after now turn count-before
      → LogsAll contents asks told-to (record_log now end) new
      → TurnServed (CountedCall does failures) acts contents asks
      (record {
        link = below link-before;
        held = held-before;
        clock = clock-before;
        count = count-before;
        host = host-before;
        process = process-before;
        lines = lines-before;
      }) old
      (record {
        link = below link-after;
        held = held-after;
        clock = clock-after;
        count = count-after;
        host = host-after;
        process = process-after;
        lines = lines-after;
      }) new answer
  turn-goes link-before link-after held-before held-served held-after clock-before clock-after
      host-before host-after process-before process-chosen process-after lines-before lines-after
      clocks clock now next shift device source before old begun told-to new end turn s jump
      count-before count-after answer read is-clock now-is shift-is by-device jump-is is-next
      is-process is-lines is-s is-source writes reported logged at-clock at-clock-serves is-before reports counted ended =
      let k : ℕ = moment_read clocks clock-before in
      let same : clock ≡ k = is-clock ∙ ap (λ (x : ClockData). x.moment) read in
      let is-now : now ≡ moment_at k held-before =
      subst (λ m. now ≡ moment_at m held-before) same now-is in
      let is-shift : shift ≡ shift_of clock-before.side k clocks.system =
      subst (λ m. shift ≡ shift_of clock-before.side m clocks.system)
      (ap (λ (x : ClockData). x.moment) read) shift-is in
      let right : turn_refusal k next.given held-before ≡ None =
      subst (λ m. turn_refusal m next.given held-before ≡ None) same at-clock in
      let held-is : held-served ≡ with_recording held-served.recording held-after =
      sym (ap (λ (h : ServerData). with_recording held-served.recording h) writes.kept) in
      let serves = subst (λ m. Serves (CountedCall (λ o call n. does (below o) call (below n))
      (λ b. failures (below b))) link-before link-after (moment_at m held-before)
      (report_in next.given) source held-before held-served turn) same at-clock-serves in
      let here : ChosenInput L =
      choose_input held-before.device (moment_at k held-before) (jump_of clocks clock-before)
      lines-before
      process-before in
      let here-is : choose_input device now jump lines-before process-before ≡ here =
      ap (λ d. choose_input d now jump lines-before process-before) by-device
      ∙ ap (λ m. choose_input held-before.device m jump lines-before process-before) is-now
      ∙ ap (λ j. choose_input held-before.device (moment_at k held-before) j lines-before
      process-before)
      jump-is in
      let next-is : next ≡ here.next = is-next ∙ ap (λ (x : ChosenInput L). x.next) here-is in
      let process-is : process-chosen ≡ here.process =
      is-process ∙ ap (λ (x : ChosenInput L). x.process) here-is in
      let serves-turn = subst (λ h. Serves (CountedCall does failures) (below link-before)
      (below link-after) (moment_at (moment_read clocks clock-before) held-before)
      (report_in next.given) next.shown held-before h turn) held-is
      (subst (λ line. Serves (CountedCall does failures) (below link-before) (below link-after)
      (moment_at (moment_read clocks clock-before) held-before) (report_in next.given) line
      held-before held-served turn) is-source
      (serves-below below does failures link-before link-after
      (moment_at (moment_read clocks clock-before) held-before) (report_in next.given) source
      held-before held-served turn serves)) in
      record {
        clocks = clocks;
        begun = begun;
        clocks_read = record {
          reported = reported;
          logged =
              subst (λ m. LogsAll contents asks old (shift_log m (shift_of clock-before.side
              (moment_read clocks clock-before) clocks.system)) begun) is-now
              (subst (λ x. LogsAll contents asks old (shift_log now x) begun) is-shift logged);
        };
        clock = read;
        lines = is-lines ∙ ap (λ (x : ChosenInput L). x.lines) here-is;
        turn = turn;
        right =
            subst (λ (n : NextInput). turn_refusal (moment_read clocks clock-before) n.given
            held-before
            ≡ None) next-is right;
        unwritten = held-served.recording;
        serves =
            subst (λ (n : NextInput). Serves (CountedCall does failures) (below link-before)
            (below link-after) (moment_at (moment_read clocks clock-before) held-before)
            (report_in n.given) n.shown held-before
            (with_recording held-served.recording held-after) turn) next-is serves-turn;
        reported = told-to;
        reports =
            subst (λ m. ReportsAndPolls (CountedCall does failures) contents asks m count-before
            here.next
            (bay_view held-before.device) turn held-after.device here.process process-after begun
            told-to answer) is-now
            (subst (λ d. ReportsAndPolls (CountedCall does failures) contents asks now count-before
            here.next
            (bay_view held-before.device) turn d here.process process-after begun told-to answer)
            (is-s ∙ ap (λ (h : ServerData). h.device) held-is)
            (subst (λ p. ReportsAndPolls (CountedCall does failures) contents asks now count-before
            here.next
            (bay_view held-before.device) turn s p process-after begun told-to answer) process-is
            (subst (λ (n : NextInput). ReportsAndPolls (CountedCall does failures) contents asks now
            count-before n
            (bay_view held-before.device) turn s process-chosen process-after begun told-to answer)
            next-is
            (subst (λ (b : BayView). ReportsAndPolls (CountedCall does failures) contents asks now
            count-before next b
            turn s process-chosen process-after begun told-to answer) is-before reports))));
        count = subst (λ m. count-after ≡ count_after m turn count-before) is-now counted;
        took = writes.took;
        end = end;
        written = writes.writes;
        ended = subst (λ m. LogsAll contents asks told-to (record_log m end) new) is-now ended;
      }

module _ {L H W : Type 0} (step : L → Call → L → Type 0) (acts : H → HostCall L → H → Type 0)
    (contents : W → Option (List ℕ)) (asks : W → WriteCall → W → Type 0) where
  -- it was not done, and why not is told
  pub turn-fails : (link : L) (held : ServerData) (clock-before : ClockData)
      (host-before host-after : H)
      (process-before : Option (ProcessData L)) (lines-before : List (ℕ × List ℕ)) (clocks : Clocks)
      (clock now : ℕ) (next : NextInput) (shift : Option ClockShift) (device : State) (jump : ℕ)
      (count : LineCount) (old begun new : WriterState W) (fault : ServeFault)
      (answer : Result ℕ WriteFault)
      → clock ≡ moment_read clocks clock-before → now ≡ moment_at clock held
      → shift ≡ shift_of clock-before.side (moment_read clocks clock-before) clocks.system
      → device ≡ held.device → jump ≡ jump_of clocks clock-before
      → next ≡ (choose_input device now jump lines-before process-before).next
      → acts host-before (ReadsTimes clocks.system clocks.steady) host-after
      → LogsAll contents asks old (shift_log now shift) begun
      → turn_refusal clock next.given held ≡ Some fault
      → ReportsTurnRefusal contents asks fault next.number next.shown begun new answer
      → TurnRefused step acts contents asks
      (record {
        link = link;
        held = held;
        clock = clock-before;
        count = count;
        host = host-before;
        process = process-before;
        lines = lines-before;
      }) old host-after new answer
  turn-fails link held clock-before host-before host-after process-before lines-before clocks
      clock now next shift device jump count old begun new fault answer same now-is is-shift
      is-device
      jump-is is-next reported logged at-clock tells =
      let is-now : now ≡ moment_at (moment_read clocks clock-before) held =
      subst (λ m. now ≡ moment_at m held) same now-is in
      let is : turn_refusal (moment_read clocks clock-before) next.given held ≡ Some fault =
      subst (λ m. turn_refusal m next.given held ≡ Some fault) same at-clock in
      let k : ℕ = moment_read clocks clock-before in
      let here : ChosenInput L =
      choose_input held.device (moment_at k held) (jump_of clocks clock-before) lines-before
      process-before in
      let here-is : choose_input device now jump lines-before process-before ≡ here =
      ap (λ d. choose_input d now jump lines-before process-before) is-device
      ∙ ap (λ m. choose_input held.device m jump lines-before process-before) is-now
      ∙ ap (λ j. choose_input held.device (moment_at k held) j lines-before process-before) jump-is
      in
      let next-is : next ≡ here.next = is-next ∙ ap (λ (x : ChosenInput L). x.next) here-is in
      record {
        clocks = clocks;
        begun = begun;
        clocks_read = record {
          reported = reported;
          logged =
              subst (λ m. LogsAll contents asks old (shift_log m (shift_of clock-before.side
              (moment_read clocks clock-before) clocks.system)) begun) is-now
              (subst (λ x. LogsAll contents asks old (shift_log now x) begun) is-shift logged);
        };
        fault = fault;
        is =
            subst (λ (n : NextInput). turn_refusal (moment_read clocks clock-before) n.given held
            ≡ Some fault) next-is is;
        printed =
            subst (λ (n : NextInput). ReportsTurnRefusal contents asks fault n.number n.shown begun
            new
            answer) next-is tells;
      }

  -- which fault it is makes no difference
  tells-cut : (now : ℕ) (count : LineCount) (next : NextInput) (before : BayView) (turn : Turn)
      (s : State)
      (old new : WriterState W) (one other : WriteFault)
      → ReportsTurn contents asks now count next before turn s old new (Err one)
      → ReportsTurn contents asks now count next before turn s old new (Err other)
  tells-cut now count next before turn s old new one other tells = record {
    mid = tells.mid;
    logged = tells.logged;
    printed = by-quiet (is_quiet turn) tells.printed;
  }
    where
      by-quiet : (b : Bool) → MatchBool b
          ((new ≡ tells.mid) × (◌≡◌ {A = Result ℕ WriteFault} (Err one) (Ok 0)))
          (Prints contents asks (IsOutput (turn_text now turn s) 0) tells.mid new (Err one))
          → MatchBool b ((new ≡ tells.mid) × (◌≡◌ {A = Result ℕ WriteFault} (Err other) (Ok 0)))
          (Prints contents asks (IsOutput (turn_text now turn s) 0) tells.mid new (Err other))
      by-quiet true stays = let e = stays.1 in absurd cc
      by-quiet false prints = prints

  news-cut : (now : ℕ) (connection_event : Option ConnectionEvent) (old new : WriterState W)
      (one other : WriteFault)
      → ReportsConnectionEvent contents asks now connection_event old new (Err one)
      → ReportsConnectionEvent contents asks now connection_event old new (Err other)
  news-cut now None old new one other stays = let e = stays.1 in absurd cc
  news-cut now (Some connection_event) old new one other prints = prints

  hears-cut : (now : ℕ) (turn : Turn) (s : State) (before after : Option (ProcessData L))
      (old new : WriterState W) (one other : WriteFault)
      → PollsProcess step contents asks now turn s before after old new (Err one)
      → PollsProcess step contents asks now turn s before after old new (Err other)
  hears-cut now turn s None None old new one other stays = let e = stays.1 in absurd cc
  hears-cut now turn s None (Some after) old new one other h = absurd h
  hears-cut now turn s (Some before) None old new one other h = absurd h
  hears-cut now turn s (Some before) (Some after) old new one other h = record {
    connection_event = h.connection_event;
    attends = h.attends;
    skips_left = h.skips_left;
    printed = news-cut now h.connection_event old new one other h.printed;
  }

  reports-cut : (now : ℕ) (count : LineCount) (next : NextInput) (seen : BayView) (turn : Turn)
      (s : State)
      (before after : Option (ProcessData L)) (old new : WriterState W) (one other : WriteFault)
      → ReportsAndPolls step contents asks now count next seen turn s before after old new (Err one)
      → ReportsAndPolls step contents asks now count next seen turn s before after old new
      (Err other)
  reports-cut now count next seen turn s before after old new one other goes =
      by-outcome goes.outcome goes.printed goes.polls
    where
      by-outcome : (r : Result ℕ WriteFault)
          → ReportsTurn contents asks now count next seen turn s old goes.between r
          → AfterTurn r
          ((after ≡ before) × (new ≡ goes.between)
          × (◌≡◌ {A = Result ℕ WriteFault} (Err one) r))
          (PollsProcess step contents asks now turn s before after goes.between new (Err one))
          → ReportsAndPolls step contents asks now count next seen turn s before after old new
          (Err other)
      by-outcome (Ok status) printed polls = record {
        between = goes.between;
        outcome = Ok status;
        printed = printed;
        polls = hears-cut now turn s before after goes.between new one other polls;
      }
      by-outcome (Err fault) printed polls = record {
        between = goes.between;
        outcome = Err other;
        printed = tells-cut now count next seen turn s old goes.between fault other printed;
        polls = (polls.0, polls.1, refl);
      }

  -- its lines could not be printed, so the process was not attended to
  pub report-cut : (now : ℕ) (count : LineCount) (next : NextInput) (seen : BayView) (turn : Turn)
      (s : State)
      (process : Option (ProcessData L)) (old new : WriterState W) (fault : WriteFault)
      (r : Result ℕ WriteFault) → IsErr r
      → ReportsTurn contents asks now count next seen turn s old new (Err fault)
      → ReportsAndPolls step contents asks now count next seen turn s process process old new r
  report-cut now count next seen turn s process old new fault (Ok n) e tells = absurd cc
  report-cut now count next seen turn s process old new fault (Err other) e tells = record {
    between = new;
    outcome = Err other;
    printed = tells-cut now count next seen turn s old new fault other tells;
    polls = (refl, refl, refl);
  }

  -- The views are compared only if lines are logged.
  pub reports-seen : (now : ℕ) (count : LineCount) (next : NextInput) (one other : BayView)
      (turn : Turn) (s : State) (before after : Option (ProcessData L)) (old new : WriterState W)
      (answer : Result ℕ WriteFault) → MatchBool old.logs (one ≡ other) (Unit {0})
      → ReportsAndPolls step contents asks now count next one turn s before after old new answer
      → ReportsAndPolls step contents asks now count next other turn s before after old new answer
  reports-seen now count next one other turn s before after old new answer seen goes =
      by-log old.logs refl seen
    where
      by-log : (b : Bool) → old.logs ≡ b → MatchBool b (one ≡ other) (Unit {0})
          → ReportsAndPolls step contents asks now count next other turn s before after old new
          answer
      by-log true on same =
          subst (λ v. ReportsAndPolls step contents asks now count next v turn s before after old
          new answer) same goes
      by-log false off none = record {
        between = goes.between;
        outcome = goes.outcome;
        printed = record {
          mid = goes.printed.mid;
          logged = unlogged-as contents asks old goes.printed.mid _ _ off goes.printed.logged;
          printed = goes.printed.printed;
        };
        polls = goes.polls;
      }

  goes-cut : (before : ServiceState L H) (old : WriterState W)
      (after : ServiceState L H) (new : WriterState W) (one other : WriteFault)
      → TurnServed step acts contents asks before old after new (Err one)
      → TurnServed step acts contents asks before old after new (Err other)
  goes-cut before old after new one other goes = record {
    clocks = goes.clocks;
    begun = goes.begun;
    clocks_read = goes.clocks_read;
    clock = goes.clock;
    lines = goes.lines;
    turn = goes.turn;
    right = goes.right;
    unwritten = goes.unwritten;
    serves = goes.serves;
    reported = goes.reported;
    reports =
        reports-cut (moment_of goes.clocks before) before.count
        (chosen_input goes.clocks before).next
        (bay_view before.held.device) goes.turn after.held.device
        (chosen_input goes.clocks before).process after.process goes.begun goes.reported one other
        goes.reports;
    count = goes.count;
    took = goes.took;
    end = goes.end;
    written = goes.written;
    ended = goes.ended;
  }

  -- its lines could not be written
  pub tried-cut : (before : ServiceState L H) (old : WriterState W) (after : ServiceState L H)
      (new : WriterState W)
      (fault : WriteFault) (r : Result TurnAttempt WriteFault) → IsErr r
      → TurnServed step acts contents asks before old after new (Err fault)
      → TriesTurn step acts contents asks before old after new r
  tried-cut before old after new fault (Ok x) e goes = absurd cc
  tried-cut before old after new fault (Err f) e goes =
      inl (goes-cut before old after new fault f goes)

  fails-cut : (before : ServiceState L H) (old : WriterState W) (host : H) (new : WriterState W)
      (one other : WriteFault) → TurnRefused step acts contents asks before old host new (Err one)
      → TurnRefused step acts contents asks before old host new (Err other)
  fails-cut before old host new one other fails = record {
    clocks = fails.clocks;
    begun = fails.begun;
    clocks_read = fails.clocks_read;
    fault = fails.fault;
    is = fails.is;
    printed = fails.printed;
  }

  -- why it was not done could not be written
  pub failed-cut : (before : ServiceState L H) (old : WriterState W) (after : ServiceState L H)
      (new : WriterState W)
      (fault : WriteFault) (r : Result TurnAttempt WriteFault) → IsErr r
      → TurnRefused step acts contents asks before old after.host new (Err fault)
      → TriesTurn step acts contents asks before old after new r
  failed-cut before old after new fault (Ok x) e fails = absurd cc
  failed-cut before old after new fault (Err f) e fails =
      inr (fails-cut before old after.host new fault f fails)

  -- what was waited for after it
  pub awaits-next : (before : ServiceState L H) (after : H)
      → MatchBool (skips_reads before.process) (after ≡ before.host)
      (AwaitsTurn acts (turn_end before.clock) before.host after)
      → AwaitsNext acts before (record before { host = after })
  awaits-next before after awaits = (awaits, refl)

-- ---- how far serving has come

module _ {L H W : Type 0} (step : L → Call → L → Type 0) (acts : H → HostCall L → H → Type 0)
    (contents : W → Option (List ℕ)) (asks : W → WriteCall → W → Type 0) where
  -- what is left to be served goes on to all of it
  pub record Reached (turns : ℕ) (before : ServiceState L H) (old : WriterState W) (left : ℕ)
      (here : ServiceState L H) (mid : WriterState W) : Type 0 where
    pub goes : (host : H) (new : WriterState W) (answer : Result ℕ WriteFault)
        → ServesTurns step acts contents asks left here mid host new answer
        → ServesTurns step acts contents asks turns before old host new answer

  pub Reached-start : (turns : ℕ) (before : ServiceState L H) (old : WriterState W)
      → Reached turns before old turns before old
  Reached-start turns before old = record { goes = λ host new answer s. s }

  module _ (turns : ℕ) (before : ServiceState L H) (old : WriterState W) (left more : ℕ)
      (here : ServiceState L H) (mid : WriterState W)
      (reached : Reached turns before old left here mid) (e : left ≡ suc more) where
    -- the next is not done
    Reached-stop : (host : H) (new : WriterState W) (answer : Result ℕ WriteFault)
        → TurnRefused step acts contents asks here mid host new answer
        → ServesTurns step acts contents asks turns before old host new answer
    Reached-stop host new answer fails = reached.goes host new answer (rw e (inl fails))

    -- one turn was tried, and done
    pub Reached-done : (after next : ServiceState L H) (new : WriterState W) (t : TurnAttempt)
        (was_idle : Bool)
        → t ≡ tried.Done was_idle
        → TriesTurn step acts contents asks here mid after new (Ok t)
        → AwaitsNext acts after next
        → Reached turns before old more next new
    Reached-done after next new (tried.Done w) was_idle is goes pause = record {
      goes = λ host last answer s. reached.goes host last answer
          (rw e (inr (after, new, Ok goes.0, goes.1, (next, pause, s))));
    }
    Reached-done after next new (tried.Ends s) was_idle is fails pause = absurd cc

    -- it was not done
    pub Reached-ends : (after : ServiceState L H) (new : WriterState W) (t : TurnAttempt)
        (status : ℕ)
        → t ≡ tried.Ends status → TriesTurn step acts contents asks here mid after new (Ok t)
        → ServesTurns step acts contents asks turns before old after.host new (Ok status)
    Reached-ends after new (tried.Done w) status is goes = absurd cc
    Reached-ends after new (tried.Ends s) status is fails =
        subst (λ n. ServesTurns step acts contents asks turns before old after.host new (Ok n))
        (ap status-of is) (Reached-stop after.host new (Ok s) fails)
      where
        status-of : TurnAttempt → ℕ
        status-of (tried.Done w) = 0
        status-of (tried.Ends n) = n

    -- what is to be printed for it could not be written
    pub Reached-fails : (after : ServiceState L H) (new : WriterState W) (fault : WriteFault)
        (r : Result ℕ WriteFault) → IsErr r
        → TriesTurn step acts contents asks here mid after new (Err fault)
        → ServesTurns step acts contents asks turns before old after.host new r
    Reached-fails after new fault (Ok x) is tries = absurd cc
    Reached-fails after new fault (Err f) is (inl goes) =
        reached.goes after.host new (Err f)
        (rw e (inr (
          after,
          new,
          Err f,
          goes-cut step acts contents asks here mid after new fault f goes,
          (refl, refl, refl),
        )))
    Reached-fails after new fault (Err f) is (inr fails) =
        Reached-stop after.host new (Err f)
        (fails-cut step acts contents asks here mid after.host new fault f fails)

  -- there is none left
  pub Reached-end : (turns : ℕ) (before : ServiceState L H) (old : WriterState W) (left : ℕ)
      (here : ServiceState L H) (mid new : WriterState W)
      → Reached turns before old left here mid → left ≡ 0
      → Logs contents asks mid (all_served_log here.held.device.moment) new
      → ServesTurns step acts contents asks turns before old here.host new (Ok 0)
  Reached-end turns before old left here mid new reached e logged =
      reached.goes here.host new (Ok 0) (rw e (refl, logged, refl))
