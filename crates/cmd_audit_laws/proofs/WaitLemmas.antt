-- A rule with a time that a timer bears, along the turns of a server and the events of a replay.
use Rattle.std.proofs.Common.{ℕ, ◌<◌, Bool, List, [], ◌∷◌, length, Result, refl, sym, subst}
use Rattle.std.proofs.lemmas.List.Elements.{All-head, All-tail, All-weaker}
use Rattle.bay_audit.specs.Process.{IsProcess}
use Rattle.bay_audit.specs.Rules.{IsByTimer, program_of}
use Rattle.bay_audit_laws.specs.Laws.{IsOfType, process_of, scans_after}
use Rattle.bay_audit_laws.proofs.LawLemmas.{Standing, Turned, led-step, process-so, standing-first, turned}
use Rattle.bay_audit_laws.proofs.WaitLemmas.{Waiting, commands-wait, has-waited, led-step-wait, waiting-first}
use Rattle.bay_config.specs.Laws.{IsBay}
use Rattle.bay_config.specs.declared.bay.Bay.{Bay}
use Rattle.bay_device.specs.Device.{State}
use Rattle.bay_device.specs.Fresh.{PastEvent}
use Rattle.bay_device.specs.Load.{initial_device}
use Rattle.bay_device.specs.Outcomes.{outcome}
use Rattle.bay_device.specs.Steps.{OfAssociation, Steps}
use Rattle.bay_device.specs.declared.event.Event.{Event}
use Rattle.bay_device.specs.declared.event.Step.{Step}
use Rattle.bay_device.specs.declared.fault.StepFault.{StepFault}
use Rattle.bay_device.proofs.CommandLemmas.{step-commanded}
use Rattle.cmd_replay.specs.History.{EachPast, device_after}
use Rattle.bay_audit_rules.specs.declared.rule.Rule.{Rule}
use Rattle.bay_audit_rules.specs.declared.rule.Timing.{Timing}
use Rattle.bay_server_turn.specs.Turns.{ServerData}
use Rattle.bay_server_turn_laws.specs.Events.{ChosenEvent, outcomes_at, turn_events}
use Rattle.bay_server_turn_laws.proofs.PartLemmas.{Part-turn}
use Rattle.bay_server_turn_laws.proofs.ReadingLemmas.{few-read}
use Rattle.cmd_serve.specs.Service.{AreTurns, DoneTurn, server_after, past_after}
use Rattle.il_image.specs.Images.{Image}
use Rattle.cmd_audit_laws.specs.Waits.{OrdersWait, PastWaits, scans_after_events, scans_of}
use Rattle.cmd_audit_laws.proofs.ObeyLemmas.{AreGiven, AreTyped, IsTyped, events-typed, of-typed}
use Rattle.cmd_audit_laws.proofs.SoundLemmas.{Steady, steady-halts, steady-on}

module _ (bay : Bay) (image : Image) (rule : Rule) (timing : Timing) (n : ℕ) (is_bay : IsBay bay)
    (there : rule.switch < length bay.switches)
    (bears : IsByTimer (program_of bay image) rule timing n) where
  -- a device that waits, and whose scans halt
  pub record Ready (scans : List (ℕ × Bool)) (s : State) : Type 0 where
    pub stands : Standing bay image s
    pub steady : Steady s
    pub waiting : Waiting bay image rule timing n is_bay there bears scans s

  ready-step : (now : ℕ) (event : Event) (old : State) (answer : Result Step StepFault)
      (new : State) (scans : List (ℕ × Bool)) → IsOfType event → Steps now event old answer new
      → Ready scans old → Ready (scans_after timing.condition now event old answer scans) new
  ready-step now event old answer new scans typed steps r =
      let is : IsProcess (process_of old) = process-so bay image old r.stands in
      let turn : Turned now event old answer new =
      turned now event old answer new typed steps
      (steady-halts now event old answer new is r.steady steps) in
      record {
        stands =
            (led-step bay image is_bay now event old answer new r.stands turn).goes_on;
        steady = steady-on now event old answer new is r.steady steps turn;
        waiting = (led-step-wait bay image rule timing n is_bay there bears scans now event old
            answer new r.stands r.waiting turn).goes_on;
      }

  ready-events : (now : ℕ) (es : List ChosenEvent) (s : State) (scans : List (ℕ × Bool))
      → AreTyped es → Ready scans s
      → Ready (scans_after_events timing.condition now es s scans) (outcomes_at now es s).after
  ready-events now [] s scans typed r = r
  ready-events now (e ∷ es) s scans typed r =
      let o = outcome e.0 now e.1 s in
      ready-events now es o.after (scans_after timing.condition now e.1 s o.answer scans)
      (All-tail IsTyped e es typed)
      (ready-step now e.1 s o.answer o.after scans (All-head IsTyped e es typed)
      (record { choice = e.0; answered = refl; left = refl }) r)

  pub turns-wait : (first : State) (ts : List DoneTurn) (h : ServerData) (scans : List (ℕ × Bool))
      (past : List PastEvent) → AreTurns h ts → AreGiven ts → Ready scans h.device
      → OrdersWait rule timing first h scans past ts
  turns-wait first [] h scans past are given r = tt
  turns-wait first (t ∷ ts) h scans past are given r =
      let events = turn_events t.now t.given t.script h in
      let typed : AreTyped events =
      events-typed t.now t.given t.script h (few-read t.given _ are.0.all_read) are.0.all_offered given.0 in
      let behind = scans_after_events timing.condition t.now events h.device scans in (
        λ command o.
            has-waited bay image rule timing n is_bay there bears
            (scans_after_events timing.condition t.now o.heard.front h.device scans) t.now
            (outcomes_at t.now o.heard.front h.device).after command
            (ready-events t.now o.heard.front h.device scans
            (All-weaker (λ (e : ChosenEvent). OfAssociation e.1) IsTyped (λ e of. of-typed e.1 of)
            o.heard.front o.heard.first) r).waiting o.allowed,
        turns-wait first ts (server_after t h) behind
            (past_after t.now events h.device past) are.1 given.1
            (subst (Ready behind) (sym (Part-turn t.now t.given t.script h).device)
            (ready-events t.now events h.device scans typed r)),
      )

  pub past-waits : (first : State) (past : List PastEvent) → EachPast Steps first past
      → EachPast (λ now event old answer new. IsOfType event) first past → Ready [] first
      → PastWaits rule timing first past
      × Ready (scans_of timing.condition first past) (device_after first past)
  past-waits first [] steps typed r = (tt, r)
  past-waits first (p ∷ past) steps typed r =
      let before = past-waits first past steps.1 typed.1 r in
      let old : State = device_after first past in
      let scans = scans_of timing.condition first past in (
        (
          commands-wait bay image rule timing n is_bay there bears scans p.now p.event old p.answer
              p.after before.1.waiting
              (step-commanded p.now p.event old p.answer p.after steps.0),
          before.0,
        ),
        ready-step p.now p.event old p.answer p.after scans typed.0 steps.0 before.1,
      )

  -- a device as it is loaded
  pub ready-first : Steady (initial_device bay image) → Ready [] (initial_device bay image)
  ready-first steady = record {
    stands = standing-first bay image is_bay;
    steady = steady;
    waiting = waiting-first bay image rule timing n is_bay there bears;
  }
