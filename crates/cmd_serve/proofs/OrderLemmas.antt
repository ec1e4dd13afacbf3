-- Behind each command of a turn stand octets that asked for it, an answer, and a scan.
use Rattle.std.proofs.Common.{◌≡◌, ◌<◌, ◌≤◌, ◌+◌, ◌-◌, ◌&&◌, nat_lt, Bool, true, false, cond, if◌then◌else◌, ℕ, List, [], ◌∷◌, ◌++◌, Option, Some, None, Result, Ok, Err, IfOk, inl, inr, refl, ap, sym, subst, ◌∙◌, append_assoc, arith}
use Rattle.std.specs.List.{Contains}
use Rattle.std.proofs.lemmas.List.Elements.{All-contains, Contains-append_cases, Contains-append_right}
use Rattle.bay_connection.specs.ConnectionStates.{ConnectionState, indications}
use Rattle.bay_mms_services.specs.ObservedEntries.{observed_in_pdu}
use Rattle.bay_mms_services.specs.Entries.{operates_in}
use Rattle.bay_mms_services.specs.declared.answer.Command.{Command}
use Rattle.bay_device.specs.Commands.{AreCommanded, IsReleasedAt}
use Rattle.bay_device.specs.Device.{State, bay_of}
use Rattle.bay_device.specs.Fresh.{PastEvent}
use Rattle.bay_device.specs.Operates.{AreOperates, AreReplied, AreRepliedForEvent, IsReplied}
use Rattle.bay_device.specs.Outcomes.{Outcome, last_moment, outcome, slot_of, refusal_outcome}
use Rattle.bay_device.specs.Steps.{Steps}
use Rattle.bay_device.specs.ObservedRuns.{pdu_in, pdus_in, connection_state_at}
use Rattle.bay_device.specs.declared.event.Event.{Event}
use Rattle.bay_device.specs.declared.event.Event.TheVariants.{Open, Recv, Close, Contact, Input, Measure, BadMeasure, Lost, Scan}
use Rattle.bay_device.specs.declared.event.Sent.{Sent}
use Rattle.bay_device.specs.declared.event.Step.{Step}
use Rattle.bay_device.specs.declared.fault.StepFault.{StepFault}
use Rattle.bay_device.specs.declared.fault.StepFault.TheVariants.{MomentTooLarge}
use Rattle.bay_device.proofs.CommandLemmas.{step-commanded}
use Rattle.bay_device.proofs.OperateLemmas.{step-operates}
use Rattle.bay_server_turn.specs.Turns.{ServerData}
use Rattle.bay_server_turn_laws.specs.Events.{ChosenEvent, answer_commands, commands_of, outcomes_at, turn_events}
use Rattle.bay_server_turn_laws.specs.Flows.{IsTidy, answer_to, end_to, replies_to}
use Rattle.bay_server_turn_laws.proofs.DoneLemmas.{IsBoth, done-append}
use Rattle.bay_server_turn_laws.proofs.GivenLemmas.{turn-brings}
use Rattle.bay_server_turn_laws.proofs.MoveLemmas.{sent-append}
use Rattle.bay_server_turn_laws.proofs.PartLemmas.{Part-turn}
use Rattle.bay_server_turn_laws.proofs.TurnFlows.{loses-nothing}
use Rattle.bay_server_turn_laws.proofs.UpLemmas.{number-of}
use Rattle.bay_server_turn_laws.proofs.ReadingLemmas.{few-read}
use Rattle.std.proofs.lemmas.Bool.{and_parts}
use Rattle.std.proofs.lemmas.Bool.Decides.{nat_tests}
use Rattle.cmd_serve.specs.Requests.{AreRequested, ReceivesOctets, IsRequested, IsPartOf}
use Rattle.cmd_serve.specs.Service.{AreTurns, DoneTurn, IsTurn, server_after, past_after}
use Rattle.cmd_serve.proofs.FrontLemmas.{OfAssociations, before-octets, same-events}
use Rattle.cmd_serve.proofs.HistoryLemmas.{Stands, aged, stands-events}
use Rattle.cmd_serve.proofs.OnceLemmas.{received-once}
use Rattle.cmd_serve.proofs.ScanLemmas.{released-by, remote-behind}
use Rattle.cmd_serve.proofs.SentLemmas.{Mapped, mapped, sent-to, stands-in}

none-among : {A : Type 0} (xs : List A) (x : A) → xs ≡ [] → Contains xs x → ⊥
none-among xs x none has =
    let empty : Contains [] x = subst (λ l. Contains l x) none has in omega (arith, empty.1)

-- ---- the event of a command

record Found (first : State) (now : ℕ) (es : List ChosenEvent) (s : State) (past : List PastEvent)
    (command : Command) : Type 0 where
  pub front : List ChosenEvent
  pub event : ChosenEvent
  pub back : List ChosenEvent
  pub split : es ≡ front ++ event ∷ back
  pub stands : Stands first (past_after now front s past) (outcomes_at now front s).after
  pub step : Step
  pub answered : (outcome event.0 now event.1 (outcomes_at now front s).after).answer ≡ Ok step
  pub has : Contains step.commands command

record Here (answer : Result Step StepFault) (command : Command) : Type 0 where
  step : Step
  is : answer ≡ Ok step
  has : Contains step.commands command

here : (answer : Result Step StepFault) (command : Command)
    → Contains (answer_commands answer) command → Here answer command
here (Ok step) command has = record { step = step; is = refl; has = has }
here (Err fault) command has = absurd (omega (arith, has.1))

module _ (first : State) (now : ℕ) (command : Command) where
  found : (es : List ChosenEvent) (s : State) (past : List PastEvent) → Stands first past s
      → Contains (commands_of (outcomes_at now es s).answers) command
      → Found first now es s past command
  found [] s past at has = absurd (omega (arith, has.1))
  found (e ∷ es) s past at has =
      elim (Contains-append_cases (answer_commands (outcome e.0 now e.1 s).answer)
      (commands_of (outcomes_at now es (outcome e.0 now e.1 s).after).answers) command has) [
        | inl now_has ↦ at-once (here (outcome e.0 now e.1 s).answer command now_has)
        | inr later_has ↦
            later (found es (outcome e.0 now e.1 s).after (past_after now (e ∷ []) s past)
            (stands-events first now (e ∷ []) s past at) later_has)
      ]
    where
      at-once : Here (outcome e.0 now e.1 s).answer command
          → Found first now (e ∷ es) s past command
      at-once h = record {
        front = [];
        event = e;
        back = es;
        split = refl;
        stands = at;
        step = h.step;
        answered = h.is;
        has = h.has;
      }

      later : Found first now es (outcome e.0 now e.1 s).after
          (past_after now (e ∷ []) s past) command → Found first now (e ∷ es) s past command
      later f = record {
        front = e ∷ f.front;
        event = f.event;
        back = f.back;
        split = ap (λ l. e ∷ l) f.split;
        stands = f.stands;
        step = f.step;
        answered = f.answered;
        has = f.has;
      }

-- ---- octets among octets

wider : (octets : List ℕ) (before all after : List ℕ) → IsPartOf octets all
    → IsPartOf octets (before ++ (all ++ after))
wider octets before all after stands = (
  before ++ stands.0,
  stands.1 ++ after,
  ap (λ l. before ++ (l ++ after)) stands.2
      ∙ grouped before stands.0 octets stands.1 after,
)
  where
    grouped : (v w x y z : List ℕ) → v ++ ((w ++ x ++ y) ++ z) ≡ (v ++ w) ++ x ++ (y ++ z)
    grouped v w x y z = simp append_assoc

answer-stands : (a : ℕ) (step : Step) (sent : Sent) → Contains step.sent sent
    → sent.association ≡ a → IsPartOf sent.octets (answer_to a (Ok step))
answer-stands a step sent has to =
    let in_all = stands-in a step.sent sent has to in (
      end_to a step.ended ++ in_all.0,
      in_all.1,
      ap (λ l. end_to a step.ended ++ l) in_all.2
          ∙ grouped (end_to a step.ended) in_all.0 sent.octets in_all.1,
    )
  where
    grouped : (w x y z : List ℕ) → w ++ (x ++ y ++ z) ≡ (w ++ x) ++ y ++ z
    grouped w x y z = simp append_assoc

sent-there : (a now : ℕ) (front : List ChosenEvent) (e : ChosenEvent) (back : List ChosenEvent)
    (s : State) (octets : List ℕ)
    → IsPartOf octets (answer_to a (outcome e.0 now e.1 (outcomes_at now front s).after).answer)
    → IsPartOf octets (replies_to a (outcomes_at now (front ++ e ∷ back) s).answers)
sent-there a now front e back s octets stands =
    let both : IsBoth now front (e ∷ back) s = done-append now front (e ∷ back) s in
    let mid : State = (outcomes_at now front s).after in
    let answer = (outcome e.0 now e.1 mid).answer in
    let rest = replies_to a (outcomes_at now back (outcome e.0 now e.1 mid).after).answers in
    subst (IsPartOf octets)
    (sym (ap (replies_to a) both.answers
    ∙ sent-append a (outcomes_at now front s).answers (outcomes_at now (e ∷ back) mid).answers))
    (wider octets (replies_to a (outcomes_at now front s).answers) (answer_to a answer) rest stands)

-- ---- the queue

-- an association that is open has one of eight numbers
below-if : (b : Bool) (a place : ℕ) → (b ≡ true → a < 9)
    → (if b then Some (a - 1) else None) ≡ Some place → a < 9
below-if true a place low e = low refl
below-if false a place low e = absurd cc

low-test : (a : ℕ) → nat_lt a 9 ≡ true → a < 9
low-test a e = grind (arith, nat_tests)

below : (a place : ℕ) → slot_of a ≡ Some place → a < 9
below a place e =
    below-if (nat_lt 0 a && nat_lt a 9) a place
    (λ both. low-test a (and_parts (nat_lt 0 a) (nat_lt a 9) both).1) e

placed : (o : Option ℕ) (a : ℕ) (talk : ConnectionState) (talks : List (Option ConnectionState))
    → slot_of a ≡ o
    → connection_state_at o talks ≡ Some talk → (place : ℕ) × (a ≡ place + 1) × (place < 8)
placed None a talk talks is spoken = absurd cc
placed (Some place) a talk talks is spoken =
    let number : a ≡ place + 1 = number-of a place is in
    let low : a < 9 = below a place is in
    (place, number, omega arith)

on-time : (late : Bool) (now : ℕ) (rest : Outcome) (s : State) (step : Step)
    → nat_lt last_moment now ≡ late
    → (cond late (refusal_outcome MomentTooLarge s) rest).answer ≡ Ok step → now ≤ last_moment
on-time true now rest s step is e = absurd cc
on-time false now rest s step is e = grind (arith, nat_tests)

pub stays-tidy : (h : ServerData) (t : DoneTurn) → IsTurn h t → IsTidy h → IsTidy (server_after t h)
stays-tidy h t is tidy =
    let kept = (loses-nothing t.now t.given t.script h tidy is.in_time is.all_offered).tidy in
    record { sized = kept.sized; empty = kept.empty }

-- ---- a command

module _ (first : State) (h : ServerData) (t : DoneTurn) (past : List PastEvent) (command : Command)
    (is : IsTurn h t) (tidy : IsTidy h) (at : Stands first past h.device) (front : List ChosenEvent)
    (choice : Option ℕ)
    (back : List ChosenEvent)
    (stands : Stands first (past_after t.now front h.device past)
    (outcomes_at t.now front h.device).after) (step : Step)
    (has : Contains step.commands command) where
  abbrev mid : State
  mid = (outcomes_at t.now front h.device).after

  -- the event is one of octets
  asked : (event : Event)
      → turn_events t.now t.given t.script h ≡ front ++ (choice, event) ∷ back
      → (outcome choice t.now event mid).answer ≡ Ok step
      → AreRepliedForEvent t.now event (bay_of first) mid.connections step
      → IsReleasedAt t.now mid command
      → IsRequested first h t past command
  asked (Open a) split answered replied allowed = absurd (none-among _ command replied has)
  asked (Recv a octets) split answered replied allowed =
      by-talk (connection_state_at (slot_of a) mid.connections) refl replied
    where
      before : OfAssociations front
      before =
          before-octets t.now t.given t.script h front choice a octets back (few-read t.given _ is.all_read)
          is.all_offered is.in_time split allowed.heard

      heard : ReceivesOctets h t
      heard = record {
        front = front;
        choice = choice;
        association = a;
        octets = octets;
        back = back;
        is = split;
        first = before;
        given = turn-brings a t.now t.given t.script h
            ∙ received-once t.now t.given t.script h choice a octets (few-read t.given _ is.all_read) is.all_offered
            (subst (λ es. Contains es (choice, Recv a octets)) (sym split)
            (Contains-append_right front ((choice, Recv a octets) ∷ back) (choice, Recv a octets)
            (0, omega arith, refl)));
        step = step;
        answered = answered;
      }

      by-talk : (o : Option ConnectionState) → connection_state_at (slot_of a) mid.connections ≡ o
          → AreReplied t.now a (bay_of first) octets.now o step
          → IsRequested first h t past command
      by-talk None spoken replied = absurd (none-among _ command replied has)
      by-talk (Some talk) spoken replied =
          let r : IsReplied t.now a (bay_of first) (indications talk octets.now)
          (pdus_in step.sent) command = replied command has in
          let m : Mapped (λ (s : Sent). pdu_in s.octets) step.sent r.response =
          mapped (λ (s : Sent). pdu_in s.octets) step.sent r.response r.replied in
          let there = placed (slot_of a) a talk mid.connections refl spoken in
          let to = sent-to t.now a choice mid octets step m.item answered m.among in
          record {
            heard = heard;
            talk = talk;
            is_open = spoken;
            terms = r.terms;
            pdu = r.pdu;
            asked = r.asked;
            sent = m.item;
            answers = m.among;
            to = to;
            stands = subst (λ es. IsPartOf m.item.octets
                (replies_to a (outcomes_at t.now es h.device).answers)) (sym split)
                (sent-there a t.now front (choice, Recv a octets) back h.device m.item.octets
                (subst (λ r. IsPartOf m.item.octets (answer_to a r)) (sym answered)
                (answer-stands a step m.item m.among to)));
            place = there.0;
            number = there.1;
            flows = (loses-nothing t.now t.given t.script h tidy is.in_time is.all_offered).flows
                there.0 there.2;
            accepts =
                subst (λ p. Contains (operates_in (observed_in_pdu t.now a r.pdu (bay_of first)
                p)) command) (sym m.is) r.accepts;
            allowed = allowed;
            released = released-by first past h.device mid t.now first.scan_max_age_ms command at
                (same-events t.now front h.device before)
                (aged first (past_after t.now front h.device past) mid stands) allowed;
            remote = remote-behind first past h.device mid t.now command at
                (same-events t.now front h.device before) allowed;
          }
  asked (Close a) split answered replied allowed = absurd (none-among _ command replied has)
  asked (Contact k position) split answered replied allowed =
      absurd (none-among _ command replied has)
  asked (Input k value) split answered replied allowed =
      absurd (none-among _ command replied has)
  asked (Measure k field value) split answered replied allowed =
      absurd (none-among _ command replied has)
  asked (BadMeasure k field) split answered replied allowed =
      absurd (none-among _ command replied has)
  asked Lost split answered replied allowed = absurd (none-among _ command replied has)
  asked Scan split answered replied allowed = absurd (none-among _ command replied has)

-- what stands behind a command of a turn
pub ordered : (first : State) (h : ServerData) (t : DoneTurn) (past : List PastEvent)
    (command : Command)
    → IsTurn h t → IsTidy h → Stands first past h.device → Contains t.reported.commands command
    → IsRequested first h t past command
ordered first h t past command is tidy at has =
    let events : List ChosenEvent = turn_events t.now t.given t.script h in
    let commands = is.commands ∙ (Part-turn t.now t.given t.script h).commands in
    let f : Found first t.now events h.device past command =
    found first t.now command events h.device past at
    (subst (λ cs. Contains cs command) commands has) in
    let mid : State = (outcomes_at t.now f.front h.device).after in
    let o = outcome f.event.0 t.now f.event.1 mid in
    let steps : Steps t.now f.event.1 mid o.answer o.after =
    record { choice = f.event.0; answered = refl; left = refl } in
    let operates : AreOperates t.now f.event.1 (bay_of first) mid.connections f.step =
    subst (λ r. IfOk r (AreOperates t.now f.event.1 (bay_of first) mid.connections)) f.answered
    (step-operates (bay_of first) t.now f.event.1 mid o.answer o.after f.stands.alike
    f.stands.sized steps) in
    let commanded : AreCommanded t.now mid f.step =
    subst (λ r. IfOk r (AreCommanded t.now mid)) f.answered
    (step-commanded t.now f.event.1 mid o.answer o.after steps) in
    asked first h t past command is tidy at f.front f.event.0 f.back f.stands f.step f.has f.event.1
    f.split f.answered operates.replied
    (All-contains (IsReleasedAt t.now mid) f.step.commands command commanded.released f.has)

pub all-ordered : (first : State) (h : ServerData) (past : List PastEvent) (ts : List DoneTurn)
    → AreTurns h ts → IsTidy h → Stands first past h.device → AreRequested first h past ts
all-ordered first h past [] are tidy at = tt
all-ordered first h past (t ∷ ts) are tidy at =
    let events : List ChosenEvent = turn_events t.now t.given t.script h in
    let whole = Part-turn t.now t.given t.script h in
    let behind : List PastEvent = past_after t.now events h.device past in (
      λ command has. ordered first h t past command are.0 tidy at has,
      all-ordered first (server_after t h) behind ts are.1 (stays-tidy h t are.0 tidy)
          (subst (Stands first behind) (sym whole.device)
          (stands-events first t.now events h.device past at)),
    )

-- its turn is at a moment that the device does not refuse
pub ordered-on-time : (first : State) (h : ServerData) (t : DoneTurn) (past : List PastEvent)
    (command : Command) → IsRequested first h t past command → t.now ≤ last_moment
ordered-on-time first h t past command order =
    on-time (nat_lt last_moment t.now) t.now _ _ order.heard.step refl order.heard.answered
