-- Beside each line of a command stands that of the octets that accept its operate.
use Rattle.std.proofs.Common.{◌≡◌, ℕ, zero, suc, Bool, true, false, cond, nat_lt, All, List, [], ◌∷◌, ◌++◌, length, map, slice_get, Option, Some, None, Result, Ok, IfOk, refl, ap, ap₂, sym, subst, ◌∙◌, append_assoc, arith}
use Rattle.std.proofs.lemmas.List.Elements.{All-append, All-cons, All-contains, All-nil, Contains-append_left, Contains-append_right}
use Rattle.std.specs.Borrow.{Bor}
use Rattle.std.specs.Fmt.{decimal}
use Rattle.std.specs.List.{Contains}
use Rattle.hex.specs.Hex.{encode_lower}
use Rattle.bay_connection.specs.ConnectionStates.{Indication, ConnectionState, Terms, answers, ends, fails, indications, releases, octets_to_send, delivers}
use Rattle.bay_mms_services.specs.ObservedEntries.{AreNamedAlike, observed_in_pdu}
use Rattle.bay_mms_services.specs.Bay.{Bay}
use Rattle.bay_mms_services.specs.Entries.{operates_in}
use Rattle.bay_mms_services.specs.declared.answer.Command.{Command}
use Rattle.bay_device.specs.Device.{State, bay_of, device_at}
use Rattle.bay_device.specs.Entries.{IsIdle}
use Rattle.bay_device.specs.Fresh.{PastEvent}
use Rattle.bay_device.specs.Receiving.{ReceiveResult, StepState, after_indications, after_pdu, on_indication, sent_on, with_sent}
use Rattle.bay_device.specs.Operates.{AreOperates, AreReplied, AreRepliedForEvent, IsReplied}
use Rattle.bay_device.specs.Outcomes.{Outcome, connection_at, last_moment, step_start, outcome, slot_of, recv_outcome, refusal_outcome}
use Rattle.bay_device.specs.Remote.{AreAtRemote, IsAtRemote}
use Rattle.bay_device.specs.Steps.{Steps}
use Rattle.bay_device.specs.ObservedRuns.{HaveAgreedSize, pdu_in, pdus_in, connection_state_at}
use Rattle.bay_device.specs.declared.event.Event.{Event}
use Rattle.bay_device.specs.declared.event.Event.TheVariants.{Open, Recv, Close, Contact, Input, Measure, BadMeasure, Lost, Scan}
use Rattle.bay_device.specs.declared.event.Sent.{Sent}
use Rattle.bay_device.specs.declared.event.Step.{Step}
use Rattle.bay_device.specs.declared.fault.StepFault.{StepFault}
use Rattle.bay_device.specs.declared.fault.StepFault.TheVariants.{MomentTooLarge, TimeWentBack}
use Rattle.bay_device.proofs.EntryLemmas.{eight-places, leading}
use Rattle.bay_device.proofs.OperateLemmas.{step-operates}
use Rattle.bay_device.proofs.ToldLemmas.{idle-talks, telling}
use Rattle.bay_report.specs.Lines.{closed_text, commands_text, ended_text, ran_text, send_text, sends_text, step_text}
use Rattle.bay_report.specs.Report.{report_text}
use Rattle.cmd_replay.specs.Scenario.{ScenarioParts}
use Rattle.bay_replay_laws.specs.Answered.{AreAnswered, CommandsAreAnswered, IsAnswered}
use Rattle.cmd_replay.specs.History.{AllRemote, EachPast, device_after}
use Rattle.bay_replay_laws.specs.Printed.{PrintedCommand, PrintedSend, with_ends, lines_in, printed_command}
use Rattle.bay_replay_laws.specs.ReadBack.{HaveIds}
use Rattle.bay_replay_laws.specs.Released.{IsCommandLineFor}
use Rattle.cmd_replay.specs.Runs.{IsRun}
use Rattle.cmd_replay.proofs.HistoryLemmas.{past-does}
use Rattle.cmd_replay.proofs.RunLemmas.{idle}
use Rattle.bay_replay_laws.proofs.LineLemmas.{AreLines, decimal-free, each-append, ended-append, free, free-append, hex-free, lines-are, map-lines, more-lines}
use Rattle.bay_replay_laws.proofs.OrderLemmas.{load, load-no-command, of-command, of-each, order-read, order-steps, order-switches, other-no-command, printed-for, stands}
use Rattle.bay_replay_laws.proofs.PlaceLemmas.{Placed}
use Rattle.bay_replay_laws.proofs.PrintLemmas.{IsCommandLine, closed-lines, commands-lines, ended-lines, load-is, ran-lines, sends-lines}
use Rattle.cmd_replay.proofs.KeptLemmas.{scan_told}
use Rattle.bay_replay_laws.proofs.ReadLemmas.{no-end, send-read, send_line}
use Rattle.bay_replay_laws.proofs.ScanLemmas.{past-in}
use Rattle.bay_replay_laws.proofs.WholeLemmas.{send-whole}
use Rattle.bay_replay_laws.proofs.WithinLemmas.{known-run}

-- ---- the operates of a history

-- what leads to the next event's
record Heard (names : Bay) (s : State) : Type 0 where
  alike : AreNamedAlike names (bay_of s)
  sized : HaveAgreedSize s.connections
  eight : length s.connections ≡ 8

abbrev OperatesAt : Bay → ℕ → Event → State → Result Step StepFault → State → Type 0
OperatesAt names now event old answer new =
    IfOk answer (AreOperates now event names old.connections)

operates-so : (names : Bay) (now : ℕ) (event : Event) (old : State)
    (answer : Result Step StepFault) (new : State) → Heard names old
    → Steps now event old answer new → OperatesAt names now event old answer new × Heard names new
operates-so names now event old answer new h steps =
    let reported =
    telling names now event old answer new h.alike h.sized
    (leading now event old answer new h.eight steps) in (
      step-operates names now event old answer new h.alike h.sized steps,
      record {
        alike = reported.alike;
        sized = reported.sized;
        eight = eight-places now event old answer new h.eight steps;
      },
    )

-- ---- the octets of a command

record FromOctets (now : ℕ) (event : Event) (names : Bay) (s : State) (step : Step)
    (command : Command) : Type 0 where
  association : ℕ
  octets : Bor (List ℕ)
  event_is : event ≡ Recv association octets
  talk : ConnectionState
  connected : connection_at (slot_of association) s ≡ Some talk
  replied : IsReplied now association names (indications talk octets.now) (pdus_in step.sent)
      command

none-has : {A B : Type 0} (xs : List A) (x : A) → xs ≡ [] → Contains xs x → B
none-has xs x none at =
    absurd (let empty : length xs ≡ 0 = ap (λ ys. length ys) none in omega (arith, at.1))

talk-is : (o : Option ℕ) (s : State) → connection_state_at o s.connections ≡ connection_at o s
talk-is None s = refl
talk-is (Some place) s = refl

module _ (now : ℕ) (names : Bay) (s : State) (step : Step) (command : Command)
    (has : Contains step.commands command) where
  of-talk : (a : ℕ) (octets : Bor (List ℕ)) (talk : Option ConnectionState)
      → connection_at (slot_of a) s ≡ talk → AreReplied now a names octets.now talk step
      → FromOctets now (Recv a octets) names s step command
  of-talk a octets None is replied = none-has step.commands command replied has
  of-talk a octets (Some talk) is replied = record {
    association = a;
    octets = octets;
    event_is = refl;
    talk = talk;
    connected = is;
    replied = replied command has;
  }

  of-event : (event : Event) → AreRepliedForEvent now event names s.connections step
      → FromOctets now event names s step command
  of-event (Recv a octets) replied =
      of-talk a octets (connection_at (slot_of a) s) refl
      (subst (λ t. AreReplied now a names octets.now t step) (talk-is (slot_of a) s) replied)
  of-event (Open a) replied = none-has step.commands command replied has
  of-event (Close a) replied = none-has step.commands command replied has
  of-event (Contact k position) replied = none-has step.commands command replied has
  of-event (Input k value) replied = none-has step.commands command replied has
  of-event (Measure k field value) replied = none-has step.commands command replied has
  of-event (BadMeasure k field) replied = none-has step.commands command replied has
  of-event Lost replied = none-has step.commands command replied has
  of-event Scan replied = none-has step.commands command replied has

-- ---- the association of what is sent

module _ (now a : ℕ) where
  abbrev IsOn : Sent → Type 0
  IsOn sent = sent.association ≡ a

  abbrev AllOn : Step → Type 0
  AllOn step = All IsOn step.sent

  on-pdus : (terms : Terms) (pdus : List (List ℕ))
      → All IsOn (map (λ pdu. sent_on a (octets_to_send terms pdu)) pdus)
  on-pdus terms [] = All-nil IsOn
  on-pdus terms (pdu ∷ pdus) = All-cons IsOn _ _ refl (on-pdus terms pdus)

  on-more : (octets : List ℕ) (d : StepState) → All IsOn d.sent
      → All IsOn (with_sent a octets d).sent
  on-more octets d on = All-append IsOn d.sent _ on (All-cons IsOn _ [] refl (All-nil IsOn))

  on-next : (i : Indication) (d : StepState) (later : StepState → ReceiveResult) → All IsOn d.sent
      → ((e : StepState) → All IsOn e.sent → All IsOn (later e).done.sent)
      → All IsOn (on_indication now a i d later).done.sent
  on-next (answers octets) d later on so = so (with_sent a octets d) (on-more octets d on)
  on-next (delivers terms pdu) d later on so =
      so (after_pdu now a terms pdu d) (All-append IsOn d.sent _ on (on-pdus terms _))
  on-next (releases octets) d later on so = on-more octets d on
  on-next ends d later on so = on
  on-next (fails code) d later on so = on

  on-heard : (choice : Option ℕ) (is : List Indication) (d : StepState) → All IsOn d.sent
      → All IsOn (after_indications choice now a is d).done.sent
  on-heard None [] d on = on
  on-heard None (i ∷ is) d on =
      on-next i d (after_indications None now a is) on (on-heard None is)
  on-heard (Some zero) is d on = on
  on-heard (Some (suc n)) [] d on = on
  on-heard (Some (suc n)) (i ∷ is) d on =
      on-next i d (after_indications (Some n) now a is) on (on-heard (Some n) is)

  on-recv : (choice : Option ℕ) (octets : List ℕ) (s : State) (talk : Option ConnectionState)
      → IfOk (recv_outcome choice now a octets s talk).answer AllOn
  on-recv choice octets s None = tt
  on-recv choice [] s (Some talk) = All-nil IsOn
  on-recv choice (octet ∷ octets) s (Some talk) =
      on-heard choice (indications talk (octet ∷ octets)) (step_start (device_at now s))
      (All-nil IsOn)

  on-if : (late early : Bool) (o : Outcome) (s : State) → IfOk o.answer AllOn
      → let r : Outcome = cond late (refusal_outcome MomentTooLarge s)
      (cond early (refusal_outcome TimeWentBack s) o) in IfOk r.answer AllOn
  on-if true early o s on = tt
  on-if false true o s on = tt
  on-if false false o s on = on

  sent-on : (octets : Bor (List ℕ)) (event : Event) (old : State)
      (answer : Result Step StepFault) (new : State) → event ≡ Recv a octets
      → Steps now event old answer new → IfOk answer AllOn
  sent-on octets event old answer new is steps =
      subst (λ (r : Result Step StepFault). IfOk r AllOn)
      (sym (steps.answered ∙ ap (λ e. (outcome steps.choice now e old).answer) is))
      (on-if (nat_lt last_moment now) (nat_lt now old.moment)
      (recv_outcome steps.choice now a octets.now old (connection_at (slot_of a) old)) old
      (on-recv steps.choice octets.now old (connection_at (slot_of a) old)))

-- ---- the line of sent octets

contains-map : {A B : Type 0} (f : A → B) (xs : List A) (y : B) → Contains (map f xs) y
    → (front : List A) × ((x : A) × ((back : List A) × (xs ≡ front ++ x ∷ back) × (f x ≡ y)))
contains-map f [] y at = absurd (omega (arith, at.1))
contains-map f (x ∷ xs) y (zero, within, is) = ([], (x, (xs, refl, is)))
contains-map f (x ∷ xs) y (suc k, within, is) =
    let there = contains-map f xs y (k, omega arith, is) in
    (x ∷ there.0, (there.1.0, (there.1.1.0, ap (λ ys. x ∷ ys) there.1.1.1, there.1.1.2)))

sends-split : (now : ℕ) (front : List Sent) (x : Sent) (back : List Sent)
    → sends_text now (front ++ x ∷ back)
    ≡ sends_text now front ++ (send_text now x ++ sends_text now back)
sends-split now [] x back = refl
sends-split now (y ∷ front) x back =
    ap (λ t. send_text now y ++ t) (sends-split now front x back)
    ∙ sym (append_assoc (send_text now y) (sends_text now front)
    (send_text now x ++ sends_text now back))

in-middle : {Is : List ℕ → Type 0} (text a b line : List ℕ) → AreLines Is a → AreLines Is b
    → free 10 line ≡ true → text ≡ a ++ ((line ++ 10 ∷ []) ++ b) → Contains (lines_in text) line
in-middle text a b line first last plain whole =
    let p = map-lines (λ l is. tt) first in
    let q = map-lines (λ l is. tt) last in
    let lines : List (List ℕ) = p.lines ++ line ∷ q.lines in
    let text_is : text ≡ with_ends lines =
    whole
    ∙ ap₂ (λ x y. x ++ y) p.whole (append_assoc line (10 ∷ []) b
    ∙ ap (λ t. line ++ 10 ∷ t) q.whole)
    ∙ sym (ended-append p.lines (line ∷ q.lines)) in
    subst (λ ls. Contains ls line)
    (sym (ap lines_in text_is
    ∙ lines-are (λ l. Unit {0}) lines
    (each-append (λ l. Unit {0}) p.lines (line ∷ q.lines) p.each ((plain, tt), q.each))))
    (Contains-append_left lines ([] ∷ []) line
    (Contains-append_right p.lines (line ∷ q.lines) line (0, omega arith, refl)))

regroup : (e s x t c r d : List ℕ)
    → e ++ (s ++ (x ++ t)) ++ c ++ r ++ d ≡ (e ++ s) ++ (x ++ (t ++ c ++ r ++ d))
regroup e s x t c r d = simp append_assoc

send-free : (now a : ℕ) (octets : List ℕ) → free 10 (send_line now a (encode_lower octets)) ≡ true
send-free now a octets =
    free-append 10 (decimal now) _ (decimal-free 10 now no-end)
    (free-append 10 (decimal a) (32 ∷ encode_lower octets) (decimal-free 10 a no-end)
    (hex-free 10 octets refl))

-- what is sent is printed
sent-stands : (now : ℕ) (answer : Result Step StepFault) (s : State) → HaveIds s.switches
    → (step : Step) → answer ≡ Ok step → (front : List Sent) (x : Sent) (back : List Sent)
    → step.sent ≡ front ++ x ∷ back
    → Contains (lines_in (step_text now answer s))
    (send_line now x.association (encode_lower x.octets))
sent-stands now answer s ids step done front x back split =
    let e : List ℕ = ended_text now step.ended in
    let c : List ℕ = commands_text now s step.commands in
    let r : List ℕ = ran_text now step.scan s in
    let d : List ℕ = closed_text now step.closed in
    let first =
    more-lines (ended-lines now answer s ids step.ended) (sends-lines now answer s ids front) in
    let last =
    more-lines (more-lines (more-lines (sends-lines now answer s ids back)
    (commands-lines now answer s ids step done step.commands (λ y at. at)))
    (ran-lines now answer s ids step.scan (ap scan_told done)))
    (closed-lines now answer s ids step.closed) in
    let whole : step_text now answer s
    ≡ (e ++ sends_text now front) ++ ((send_line now x.association (encode_lower x.octets)
    ++ 10 ∷ []) ++ (sends_text now back ++ c ++ r ++ d)) =
    ap (λ (a : Result Step StepFault). step_text now a s) done
    ∙ ap (λ (sent : List Sent). e ++ sends_text now sent ++ c ++ r ++ d) split
    ∙ ap (λ t. e ++ t ++ c ++ r ++ d) (sends-split now front x back
    ∙ ap (λ t. sends_text now front ++ (t ++ sends_text now back))
    (send-whole (decimal now) (decimal x.association) (encode_lower x.octets)))
    ∙ regroup e (sends_text now front) (send_line now x.association (encode_lower x.octets)
    ++ 10 ∷ []) (sends_text now back) c r d in
    in-middle (step_text now answer s) (e ++ sends_text now front)
    (sends_text now back ++ c ++ r ++ d) (send_line now x.association (encode_lower x.octets)) first
    last (send-free now x.association x.octets) whole

-- ---- a command

-- what the events before one of a history say of the keys
remote-in : (first : State) (later : List PastEvent) (p : PastEvent) (earlier past : List PastEvent)
    → past ≡ later ++ p ∷ earlier → AllRemote first past → AreAtRemote first earlier p.answer
remote-in first later p earlier past split all = at later (subst (AllRemote first) split all)
  where
    at : (later : List PastEvent) → AllRemote first (later ++ p ∷ earlier)
        → AreAtRemote first earlier p.answer
    at [] all = all.0
    at (x ∷ later) all = at later all.1

module _ (first : State) (past : List PastEvent) (steps : EachPast Steps first past)
    (ids : HaveIds first.switches) (begin load_text : List ℕ)
    (load_is : begin ≡ load_text ++ 10 ∷ []) (heard : Heard (bay_of first) first)
    (keys : AllRemote first past) where
  command-answered : (before : List (List ℕ)) (line : List ℕ) (at : Placed past before line)
      (l : IsCommandLine at.order.now at.order.answer at.order.after line)
      → (command : PrintedCommand) → printed_command line ≡ Some command
      → IsAnswered begin first past (load_text ∷ before) line command
  command-answered before line at l command reads =
      let order : PastEvent = at.order in
      let old : State = device_after first at.earlier in
      let all : EachPast (OperatesAt (bay_of first)) first past =
      (past-does (OperatesAt (bay_of first)) (Heard (bay_of first)) (operates-so (bay_of first))
      first past heard steps).0 in
      let here =
      (past-in (OperatesAt (bay_of first)) first at.later order at.earlier past at.split all).0 in
      let are : AreOperates order.now order.event (bay_of first) old.connections l.step =
      subst (λ (r : Result Step StepFault).
      IfOk r (AreOperates order.now order.event (bay_of first) old.connections)) l.done here in
      let from : FromOctets order.now order.event (bay_of first) old l.step l.command =
      of-event order.now (bay_of first) old l.step l.command l.has order.event are.replied in
      let sent =
      contains-map (λ (x : Sent). pdu_in x.octets) l.step.sent from.replied.response
      from.replied.replied in
      let x : Sent = sent.1.0 in
      let on : x.association ≡ from.association =
      All-contains (IsOn order.now from.association) l.step.sent x
      (subst (λ (r : Result Step StepFault). IfOk r (AllOn order.now from.association)) l.done
      (sent-on order.now from.association from.octets order.event old order.answer order.after
      from.event_is (order-steps first past steps ids before line at l).0))
      (subst (λ (xs : List Sent). Contains xs x) (sym sent.1.1.1)
      (Contains-append_right sent.0 (x ∷ sent.1.1.0) x (0, omega arith, refl))) in
      let switches =
      order-switches first past steps ids before line at l in
      subst (IsAnswered begin first past (load_text ∷ before) line)
      (order-read first past steps ids before line at l command reads)
      (record {
        later = at.later;
        order = order;
        earlier = at.earlier;
        split = at.split;
        ordered = subst (λ ls. IsCommandLineFor begin order at.earlier (load_text ∷ ls) line)
            (sym at.behind)
            (printed-for begin load_text load_is order at.earlier at.groups at.part at.rest line
            at.are at.own);
        moment = refl;
        association = from.association;
        octets = from.octets;
        event = from.event_is;
        operate = l.command;
        switch = l.switch;
        here = ap (λ ss. slice_get ss l.command.switch) (sym switches) ∙ l.here;
        named = refl;
        operation = refl;
        talk = from.talk;
        connected = from.connected;
        terms = from.replied.terms;
        pdu = from.replied.pdu;
        asked = from.replied.asked;
        reported = send_line order.now x.association (encode_lower x.octets);
        stands = sent-stands order.now order.answer order.after
            (subst HaveIds (sym switches) ids) l.step l.done sent.0 x sent.1.1.0 sent.1.1.1;
        sent = x.octets;
        digits = send-read order.now x.association (encode_lower x.octets)
            (hex-free 32 x.octets refl)
            ∙ ap (λ a. let o : Option PrintedSend =
            Some (record { association = decimal a; octets = encode_lower x.octets }) in o) on;
        accepts =
            subst (λ response. Contains (operates_in (observed_in_pdu order.now from.association
            from.replied.pdu (bay_of first) response)) l.command) (sym sent.1.1.2)
            from.replied.accepts;
        remote = All-contains (IsAtRemote first at.earlier) l.step.commands l.command
            (subst (AreAtRemote first at.earlier) l.done
            (remote-in first at.later order at.earlier past at.split keys)) l.has;
      })

run-answered : (parts : ScenarioParts) (first : State) (text : List ℕ) (status : ℕ)
    (run : IsRun parts first text status) → AreAnswered parts first text status run
run-answered parts first text status run before after line command e reads =
    let o =
    stands printed_command other-no-command load-no-command parts first text status run before after
    line command e reads in
    let l =
    of-command o.at.order.now o.at.order.answer o.at.order.after line command reads o.at.is in
    let known = known-run parts first text status run in
    let begin = report_text run.printed.report in
    let line_of_load = load parts first text status run in
    let quiet : IsIdle first = idle parts.bay parts.logic first run.loaded in
    subst (λ ls. IsAnswered begin first run.past ls line command) (sym o.begins)
    (command-answered first run.past run.steps known.ids begin line_of_load
    (load-is run.printed.report)
    (record {
      alike = record { domain = refl; switches = refl; names = refl };
      sized = idle-talks first quiet;
      eight = ap (λ talks. length talks) quiet.closed;
    })
    run.guarded.remote
    o.behind line o.at l command reads)

pub commands-are-answered : CommandsAreAnswered
commands-are-answered =
    of-each printed_command other-no-command load-no-command AreAnswered run-answered
