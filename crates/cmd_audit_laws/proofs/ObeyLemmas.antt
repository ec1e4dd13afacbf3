-- Releases that are refused in a set of processes, and rules that hold, along the turns of a server
-- and the events of a replay.
use Rattle.std.proofs.Common.{◌≡◌, ◌+◌, ℕ, ◌<◌, ◌≤◌, Bool, true, false, cond, All, List, [], ◌∷◌, length, position, is_none, is_some, Option, Some, None, Result, refl, sym, subst, slice_get, ap, ◌∙◌}
use Rattle.std.specs.Prelude.{IfSome}
use Rattle.std.proofs.lemmas.List.Elements.{All-cons, All-head, All-nil, All-tail, All-weaker}
use Rattle.std.specs.declared.net.socket_addr.SocketAddrV4.{SocketAddrV4}
use Rattle.bay_audit.specs.Rules.{RuleHolds, program_of}
use Rattle.bay_audit_laws.specs.Laws.{CommandsOutsideAt, IsOfType, IsOutside, ScanObeysAt, process_of}
use Rattle.bay_audit_laws.proofs.LawLemmas.{IsRefusedWhere, Led, Standing, Turned, commands-outside, led-step, outside, process-so, scan-obeys, standing-first, turned}
use Rattle.bay_base.specs.declared.switch.Operation.{Operation}
use Rattle.bay_config.specs.Laws.{IsBay}
use Rattle.bay_config.specs.declared.bay.Bay.{Bay}
use Rattle.bay_device.specs.Device.{State}
use Rattle.bay_device.specs.Fresh.{PastEvent}
use Rattle.bay_device.specs.Load.{initial_device}
use Rattle.bay_device.specs.Outcomes.{connection_at, outcome}
use Rattle.bay_device.specs.Steps.{OfAssociation, Steps}
use Rattle.bay_device.specs.declared.event.Event.{Event}
use Rattle.bay_device.specs.declared.event.Event.TheVariants.{Open, Recv, Close, Contact, Input, Measure, BadMeasure, Lost, Scan}
use Rattle.bay_device.specs.declared.event.Step.{Step}
use Rattle.bay_device.specs.declared.fault.StepFault.{StepFault}
use Rattle.bay_device.proofs.CommandLemmas.{step-commanded}
use Rattle.cmd_replay.specs.History.{EachPast, device_after}
use Rattle.bay_nodes.specs.declared.switch.Switch.{Switch}
use Rattle.bay_audit_rules.specs.Process.{Process}
use Rattle.bay_audit_rules.specs.declared.rule.Rule.{Rule}
use Rattle.bay_mms_services.specs.declared.answer.Command.{Command}
use Rattle.il_image.specs.Images.{Image}
use Rattle.bay_server_turn.specs.Calls.{ReadOutcome, Octets, Silence, StreamEnd, Failure}
use Rattle.bay_server_turn.specs.Turns.{ServerData, Reading, Script, after_turn, loss_event}
use Rattle.bay_server_turn.specs.declared.process_input.ProcessEvent.{ProcessEvent}
use Rattle.bay_server_turn.specs.declared.process_input.ProcessEvent.TheVariants as process
use Rattle.bay_server_turn.specs.declared.process_input.ProcessReport.{ProcessReport}
use Rattle.bay_server_turn_laws.specs.Events.{ChosenEvent, outcomes_at, with_memory, turn_events}
use Rattle.bay_server_turn_laws.specs.Order.{AreClosings, FirstThen, received_events, open_events, open_events_at, events_of_read, process_events}
use Rattle.bay_server_turn_laws.proofs.OrderLemmas.{in-order}
use Rattle.bay_server_turn_laws.proofs.PartLemmas.{Part-turn}
use Rattle.bay_server_turn_laws.proofs.ReadingLemmas.{few-read}
use Rattle.cmd_serve.specs.Requests.{IsRequested}
use Rattle.cmd_serve.specs.Service.{AreTurns, DoneTurn, server_after, past_after, past_of}
use Rattle.cmd_serve.proofs.FrontLemmas.{Begins, Behind, Reads, closings-all, reads-all, then-all, why_closed}
use Rattle.cmd_audit_laws.specs.Served.{OrdersAvoid}
use Rattle.cmd_audit_laws.proofs.IdLemmas.{ids-apart}
use Rattle.cmd_audit_laws.proofs.SoundLemmas.{Steady, steady-halts, steady-on}
use Rattle.cmd_audit_laws.proofs.TypeLemmas.{EventFits}

-- ---- the events of a turn are of their types

-- an event is of its type
abbrev pub IsTyped : ChosenEvent → Type 0
IsTyped e = IsOfType e.1

-- Each measure of the events has 32 bits.
abbrev pub AreTyped : List ChosenEvent → Type 0
AreTyped es = All IsTyped es

one : (e : ChosenEvent) → IsTyped e → AreTyped (e ∷ [])
one e h = All-cons IsTyped e [] h (All-nil IsTyped)

pub of-typed : (event : Event) → OfAssociation event → IsOfType event
of-typed (Open a) h = tt
of-typed (Recv a octets) h = tt
of-typed (Close a) h = tt
of-typed (Contact k position) h = tt
of-typed (Input k value) h = tt
of-typed (Measure k field value) h = absurd h
of-typed (BadMeasure k field) h = tt
of-typed Lost h = tt
of-typed Scan h = tt

told-typed : (o : Option ProcessEvent) → IfSome o EventFits → AreTyped (process_events o)
told-typed None h = All-nil IsTyped
told-typed (Some event) h = one _ h

first-typed : (given : ProcessReport) → AreTyped (process_events (loss_event given))
first-typed given = told-typed (loss_event given) (by-lost given.is_lost)
  where
    by-lost : (b : Bool) → IfSome (cond b (Some process.Lost) None) EventFits
    by-lost true = tt
    by-lost false = tt

opened-typed : (place : Option ℕ) (accepted : Option (Option SocketAddrV4))
    → AreTyped (open_events_at place accepted)
opened-typed (Some place) (Some (Some from)) = one _ tt
opened-typed (Some place) (Some None) = All-nil IsTyped
opened-typed (Some place) None = All-nil IsTyped
opened-typed None accepted = All-nil IsTyped

read-typed : (place : ℕ) (r : Reading) (d : State) → AreTyped (events_of_read place r d)
read-typed place r d = by-open (is_some (connection_at (Some place) d))
  where
    by-heard : (heard : ReadOutcome) → AreTyped (received_events (place + 1) r.choice heard)
    by-heard (Octets octets) = one _ tt
    by-heard Silence = All-nil IsTyped
    by-heard StreamEnd = one _ tt
    by-heard Failure = one _ tt

    by-open : (b : Bool) → AreTyped (cond b (received_events (place + 1) r.choice r.heard) [])
    by-open true = by-heard r.heard
    by-open false = All-nil IsTyped

pub events-typed : (now : ℕ) (given : ProcessReport) (script : Script) (h : ServerData)
    → length script.readings ≤ 8 → length script.offers ≡ 8 → IfSome given.event EventFits
    → AreTyped (turn_events now given script h)
events-typed now given script h readings offers fits =
    let reported = (after_turn now given script h).noted.closed in
    let why : ℕ → Bool = why_closed now given script h in
    let Last : State → List ChosenEvent → Type 0 = λ e rest. AreClosings why rest in
    then-all now reported IsTyped (λ a. tt) (open_events script.accepted h.device)
    (Begins now given script h)
    h.device
    (turn_events now given script h)
    (opened-typed (position is_none h.device.connections) script.accepted)
    (λ c begun begins. then-all now reported IsTyped (λ a. tt) (process_events (loss_event given))
    (Reads now given script h) c begun (first-typed given)
    (λ d es reads. reads-all now reported IsTyped (λ a. tt) (Behind now reported why given.event)
    (λ e behind t. then-all now reported IsTyped (λ a. tt) (process_events given.event)
    (FirstThen now reported (with_memory Scan ∷ []) Last) e behind (told-typed given.event fits)
    (λ f later u. then-all now reported IsTyped (λ a. tt) (with_memory Scan ∷ []) Last f later
    (one (with_memory Scan) tt)
    (λ g last closings. closings-all now reported IsTyped (λ a. tt) why last closings) u) t)
    read-typed 0 script.readings d es reads) begins)
    (in-order now given script h readings offers)

-- what each turn was given of the process is of its type
abbrev pub AreGiven : List DoneTurn → Type 0
AreGiven [] = Unit {0}
AreGiven (t ∷ ts) = IfSome t.given.event EventFits × AreGiven ts

-- each event of a history is of its type
abbrev pub AreTypedPast : State → List PastEvent → Type 0
AreTypedPast first past = EachPast (λ now event old answer new. IsOfType event) first past

-- so are those of turns
events-behind : (now : ℕ) (es : List ChosenEvent) (first s : State) (past : List PastEvent)
    → AreTyped es → AreTypedPast first past → AreTypedPast first (past_after now es s past)
events-behind now [] first s past typed before = before
events-behind now (e ∷ es) first s past typed before =
    let o = outcome e.0 now e.1 s in
    events-behind now es first o.after
    (record { now = now; event = e.1; answer = o.answer; after = o.after } ∷ past)
    (All-tail IsTyped e es typed) (All-head IsTyped e es typed, before)

pub turns-typed : (first : State) (ts : List DoneTurn) (h : ServerData) (past : List PastEvent)
    → AreTurns h ts → AreGiven ts → AreTypedPast first past
    → AreTypedPast first (past_of ts h past)
turns-typed first [] h past are given before = before
turns-typed first (t ∷ ts) h past are given before =
    let events = turn_events t.now t.given t.script h in
    turns-typed first ts (server_after t h) (past_after t.now events h.device past) are.1 given.1
    (events-behind t.now events first h.device past
    (events-typed t.now t.given t.script h (few-read t.given _ are.0.all_read) are.0.all_offered given.0) before)

-- ---- a device whose scans halt

module _ (bay : Bay) (image : Image) (is_bay : IsBay bay) where
  -- what is kept along the events
  abbrev pub Good : State → Type 0
  Good s = Standing bay image s × Steady s

  turn-of : (now : ℕ) (event : Event) (old : State) (answer : Result Step StepFault)
      (new : State) → IsOfType event → Steps now event old answer new → Good old
      → Turned now event old answer new
  turn-of now event old answer new typed steps g =
      turned now event old answer new typed steps
      (steady-halts now event old answer new (process-so bay image old g.0) g.1 steps)

  led : (now : ℕ) (event : Event) (old : State) (answer : Result Step StepFault) (new : State)
      → IsOfType event → Steps now event old answer new → Good old
      → Led bay image is_bay event answer new
  led now event old answer new typed steps g =
      led-step bay image is_bay now event old answer new g.0
      (turn-of now event old answer new typed steps g)

  good-step : (now : ℕ) (event : Event) (old : State) (answer : Result Step StepFault)
      (new : State) → IsOfType event → Steps now event old answer new → Good old → Good new
  good-step now event old answer new typed steps g = (
    (led now event old answer new typed steps g).goes_on,
    steady-on now event old answer new (process-so bay image old g.0) g.1 steps
        (turn-of now event old answer new typed steps g),
  )

  good-events : (now : ℕ) (es : List ChosenEvent) (s : State) → AreTyped es → Good s
      → Good (outcomes_at now es s).after
  good-events now [] s typed g = g
  good-events now (e ∷ es) s typed g =
      let o = outcome e.0 now e.1 s in
      good-events now es o.after (All-tail IsTyped e es typed)
      (good-step now e.1 s o.answer o.after (All-head IsTyped e es typed)
      (record { choice = e.0; answered = refl; left = refl }) g)

  -- a device as it is loaded
  pub good-first : Steady (initial_device bay image) → Good (initial_device bay image)
  good-first steady = (standing-first bay image is_bay, steady)

  -- ---- turns

  module _ (set : Process → Bool) (k : ℕ) (operation : Operation) (there : k < length bay.switches)
      (refused : IsRefusedWhere (program_of bay image) set k operation) where
    -- a command to the switch with the id of this one, of this operation, is not issued in the set
    by-id : (s : State) (command : Command) (named switch : Switch)
        → IsOutside set k operation s command → slice_get bay.switches command.switch ≡ Some named
        → slice_get bay.switches k ≡ Some switch → named.id ≡ switch.id
        → command.operation ≡ operation → set (process_of s) ≡ false
    by-id s command named switch outside here own same on =
        outside (ids-apart bay is_bay command.switch k named switch here own same) on

    pub turns-avoid : (first : State) → first.switches ≡ bay.switches → (ts : List DoneTurn)
        (h : ServerData) (past : List PastEvent) → AreTurns h ts → AreGiven ts → Good h.device
        → OrdersAvoid set k operation first h past ts
    turns-avoid first of_bay [] h past are given g = tt
    turns-avoid first of_bay (t ∷ ts) h past are given g =
        let events = turn_events t.now t.given t.script h in
        let typed : AreTyped events =
        events-typed t.now t.given t.script h (few-read t.given _ are.0.all_read) are.0.all_offered given.0 in
        let avoids : (command : Command) (o : IsRequested first h t past command)
        → IsOutside set k operation (outcomes_at t.now o.heard.front h.device).after command =
        λ command o.
        outside bay image set k operation there refused t.now
        (outcomes_at t.now o.heard.front h.device).after command
        (good-events t.now o.heard.front h.device
        (All-weaker (λ (e : ChosenEvent). OfAssociation e.1) IsTyped (λ e of. of-typed e.1 of)
        o.heard.front o.heard.first) g).0 o.allowed in (
          avoids,
          λ printed p switch here named on.
              by-id (outcomes_at t.now p.ordered.heard.front h.device).after p.command p.switch
              switch
              (avoids p.command p.ordered)
              (ap (λ ss. slice_get ss p.command.switch) (sym of_bay) ∙ p.here)
              (ap (λ ss. slice_get ss k) (sym of_bay) ∙ here) (sym p.named ∙ named)
              (sym p.operation ∙ on),
          turns-avoid first of_bay ts (server_after t h)
              (past_after t.now events h.device past) are.1 given.1
              (subst Good (sym (Part-turn t.now t.given t.script h).device)
              (good-events t.now events h.device typed g)),
        )

  -- ---- a history

  -- what each event of a good device does is done in each history
  module _ (Does : ℕ → Event → State → Result Step StepFault → State → Type 0)
      (does : (now : ℕ) (event : Event) (old : State) (answer : Result Step StepFault) (new : State)
      → Standing bay image old → Steps now event old answer new
      → Led bay image is_bay event answer new
      → Does now event old answer new) where
    past-goes : (first : State) (past : List PastEvent) → EachPast Steps first past
        → AreTypedPast first past → Good first
        → EachPast Does first past × Good (device_after first past)
    past-goes first [] steps typed g = (tt, g)
    past-goes first (p ∷ past) steps typed g =
        let before = past-goes first past steps.1 typed.1 g in
        let old : State = device_after first past in (
          (
            does p.now p.event old p.answer p.after before.1.0 steps.0
                (led p.now p.event old p.answer p.after typed.0 steps.0 before.1),
            before.0,
          ),
          good-step p.now p.event old p.answer p.after typed.0 steps.0 before.1,
        )

  pub past-scans : (rule : Rule) → rule.switch < length bay.switches
      → RuleHolds (program_of bay image) rule → (first : State) (past : List PastEvent)
      → EachPast Steps first past → AreTypedPast first past → Good first
      → EachPast (ScanObeysAt rule) first past
  past-scans rule there holds_so first past steps typed g =
      (past-goes (ScanObeysAt rule) (λ now event old answer new o steps led.
      scan-obeys bay image rule there holds_so is_bay now event old answer new led) first past steps
      typed g).0

  -- each command of a history is issued outside a set in which its release is refused
  pub past-avoids : (set : Process → Bool) (k : ℕ) (operation : Operation)
      → k < length bay.switches → IsRefusedWhere (program_of bay image) set k operation
      → (first : State) (past : List PastEvent) → EachPast Steps first past
      → AreTypedPast first past
      → Good first → EachPast (CommandsOutsideAt set k operation) first past
  past-avoids set k operation there refused first past steps typed g =
      (past-goes (CommandsOutsideAt set k operation)
      (λ now event old answer new o steps led.
      commands-outside bay image (IsOutside set k operation)
      (outside bay image set k operation there refused) now old answer o
      (step-commanded now event old answer new steps)) first past steps typed g).0
