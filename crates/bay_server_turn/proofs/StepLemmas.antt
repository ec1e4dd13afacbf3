-- Steps of the device within a turn.
use Rattle.std.proofs.Common.{◌≡◌, ℕ, ◌+◌, List, [], Option, None, Some, Result, Ok, Err, ap, subst, sym, ◌∙◌}
use Rattle.std.specs.Borrow.{Bor}
use Rattle.bay_mms_services.specs.declared.answer.Command.{Command}
use Rattle.bay_mms_services.specs.declared.answer.ControlDecision.{ControlDecision}
use Rattle.bay_device.specs.Code.{step_code_of}
use Rattle.bay_device.specs.Device.{State}
use Rattle.bay_device.specs.Outcomes.{Outcome, outcome}
use Rattle.bay_device.specs.Steps.{IsOutcome, Steps}
use Rattle.bay_device.specs.declared.event.Event.{Event}
use Rattle.bay_device.specs.declared.event.Event.TheVariants.{Recv}
use Rattle.bay_device.specs.declared.event.Sent.{Sent}
use Rattle.bay_device.specs.declared.event.Step.{Step}
use Rattle.bay_device.specs.declared.fault.StepFault.{StepFault}
use Rattle.bay_trace.specs.Resolving.{borrow_of}
use Rattle.bay_server_turn.specs.Recorded.{Recording, recorded}
use Rattle.bay_server_turn.specs.Served.{HandlesOctets}
use Rattle.bay_server_turn.specs.Turns.{ServerData, TurnData, TurnState, with_decisions, event_of, after_device_close, start_closing_if_closed, put_all, after_event, after_process_event, after_reported, answer_after, put_ended, quiet_after, turn_state, with_commands, with_device, with_noted, with_recorded}
use Rattle.bay_server_turn.specs.declared.process_input.ProcessEvent.{ProcessEvent}
use Rattle.bay_server_turn.proofs.RecordingLemmas.{answer-recorded, ended-recorded, with_record}

held-as : (h : ServerData) (device : State) (queues : List (List ℕ)) (recording : Option Recording)
    → h.device ≡ device → h.queues ≡ queues → h.recording ≡ recording
    → h ≡ record { device = device; queues = queues; recording = recording }
held-as h device queues recording p q r =
    let with_recording : Option Recording → ServerData =
    λ x. record { device = h.device; queues = h.queues; recording = x } in
    let with_queues : List (List ℕ) → ServerData =
    λ qs. record { device = h.device; queues = qs; recording = recording } in
    let with_state : State → ServerData =
    λ d. record { device = d; queues = queues; recording = recording } in
    ap with_recording r ∙ ap with_queues q ∙ ap with_state p

-- the server after a step
stepped : (now : ℕ) (source : List ℕ) (e : Event) (h after : ServerData) (noted : TurnData)
    (device : State) → after.device ≡ device → after.queues ≡ h.queues
    → after.recording ≡ recorded now source e h.recording
    → turn_state after noted
    ≡ with_record (recorded now source e) (with_device device (turn_state h noted))
stepped now source e h after noted device left queues record_is =
    ap (λ (x : ServerData). turn_state x noted)
    (held-as after device h.queues (recorded now source e h.recording) left queues record_is)

-- In these, of any outcome, the definitions of the device need not be looked into.
module _ (now : ℕ) (source : List ℕ) (e : Event) (o : Outcome) (h after : ServerData)
    (noted : TurnData) (result : Result Step StepFault) (queues : after.queues ≡ h.queues)
    (record_is : after.recording ≡ recorded now source e h.recording) where
  quieted-by : (step : Step) (t : TurnState) → IsOutcome o result after.device → result ≡ Ok step
      → t ≡ put_ended step.ended (turn_state after noted)
      → t ≡ with_recorded now source e (quiet_after o (turn_state h noted))
  quieted-by step t gives ok put =
      let s : TurnState = with_device o.after (turn_state h noted) in
      put ∙ ap (put_ended step.ended)
      (stepped now source e h after noted o.after gives.left queues record_is)
      ∙ ended-recorded (recorded now source e) step.ended s
      ∙ ap (λ (a : Result Step StepFault). with_recorded now source e
      (quiet_after (record { answer = a; after = o.after }) (turn_state h noted)))
      (sym ok ∙ gives.answered)

  unquieted-by : (fault : StepFault) → IsOutcome o result after.device → result ≡ Err fault
      → turn_state after noted ≡ with_recorded now source e (quiet_after o (turn_state h noted))
  unquieted-by fault gives refused =
      stepped now source e h after noted o.after gives.left queues record_is
      ∙ ap (λ (a : Result Step StepFault). with_recorded now source e
      (quiet_after (record { answer = a; after = o.after }) (turn_state h noted)))
      (sym refused ∙ gives.answered)

  told-by : (step : Step) (t : TurnState) → IsOutcome o result after.device → result ≡ Ok step
      → t ≡ put_ended step.ended (turn_state after noted)
      → t ≡ with_recorded now source e (after_reported o (turn_state h noted))
  told-by step t gives ok put =
      let s : TurnState = with_device o.after (turn_state h noted) in
      put ∙ ap (put_ended step.ended)
      (stepped now source e h after noted o.after gives.left queues record_is)
      ∙ ended-recorded (recorded now source e) step.ended s
      ∙ ap (λ (a : Result Step StepFault). with_recorded now source e
      (after_reported (record { answer = a; after = o.after }) (turn_state h noted)))
      (sym ok ∙ gives.answered)

  untold-by : (fault : StepFault) (refused : TurnData) → IsOutcome o result after.device
      → result ≡ Err fault → refused ≡ record noted { refused = Some (step_code_of fault) }
      → turn_state after refused ≡ with_recorded now source e (after_reported o (turn_state h noted))
  untold-by fault refused gives fails noted_is =
      ap (turn_state after) noted_is
      ∙ ap (λ (x : TurnState). with_noted (record x.noted { refused = Some (step_code_of fault) }) x)
      (stepped now source e h after noted o.after gives.left queues record_is)
      ∙ ap (λ (a : Result Step StepFault). with_recorded now source e
      (after_reported (record { answer = a; after = o.after }) (turn_state h noted)))
      (sym fails ∙ gives.answered)

  taken-by : (slot : ℕ) (left : TurnData) (step : Step) (sends : List Sent)
      (commands : List Command) (decisions : List ControlDecision) (t u v : TurnState)
      (n : TurnData) → IsOutcome o result after.device → result ≡ Ok step
      → left ≡ start_closing_if_closed slot step.closed noted
      → t ≡ put_ended step.ended (turn_state after left)
      → sends ≡ step.sent → u ≡ put_all sends t
      → commands ≡ step.commands → v ≡ with_commands commands u
      → decisions ≡ step.decisions → n ≡ with_decisions slot decisions v.noted
      → with_noted n v ≡ with_recorded now source e (answer_after slot o (turn_state h noted))
  taken-by slot left step sends commands decisions t u v n gives ok leaves put all_sent puts
      all-told tells all-decided decided =
      let f : Option Recording → Option Recording = recorded now source e in
      let s : TurnState = with_device o.after (turn_state h noted) in
      let first : turn_state after left ≡ with_record f (after_device_close slot step.closed s) =
      ap (turn_state after) leaves
      ∙ ap (after_device_close slot step.closed)
      (stepped now source e h after noted o.after gives.left queues record_is) in
      let whole : v ≡ with_commands step.commands
      (put_all step.sent (put_ended step.ended
      (with_record f (after_device_close slot step.closed s)))) =
      tells ∙ ap (λ (cs : List Command). with_commands cs u) all-told
      ∙ ap (λ (x : TurnState). with_commands step.commands x)
      (puts ∙ ap (λ (xs : List Sent). put_all xs t) all_sent
      ∙ ap (λ (x : TurnState). put_all step.sent x)
      (put ∙ ap (λ (x : TurnState). put_ended step.ended x) first)) in
      ap (λ (m : TurnData). with_noted m v) decided
      ∙ ap (λ (ds : List ControlDecision). with_noted (with_decisions slot ds v.noted) v)
      all-decided
      ∙ ap (λ (x : TurnState). with_noted (with_decisions slot step.decisions x.noted) x) whole
      ∙ answer-recorded f slot (Ok step) s
      ∙ ap (λ (a : Result Step StepFault). with_recorded now source e
      (answer_after slot (record { answer = a; after = o.after }) (turn_state h noted)))
      (sym ok ∙ gives.answered)

-- an event that sends nothing but the report that an operation ended was applied
pub quieted : (now : ℕ) (e : Event) (h after : ServerData) (noted : TurnData)
    (result : Result Step StepFault) (step : Step) (t : TurnState)
    → IsOutcome (outcome None now e h.device) result after.device → result ≡ Ok step
    → after.queues ≡ h.queues → after.recording ≡ recorded now [] e h.recording
    → t ≡ put_ended step.ended (turn_state after noted)
    → t ≡ after_event now e (turn_state h noted)
quieted now e h after noted result step t gives ok queues record_is put =
    quieted-by now [] e (outcome None now e (turn_state h noted).server.device) h after noted result
    queues record_is step t gives ok put

-- an event that the device refuses was recorded
pub unquieted : (now : ℕ) (e : Event) (h after : ServerData) (noted : TurnData)
    (result : Result Step StepFault) (fault : StepFault)
    → IsOutcome (outcome None now e h.device) result after.device → result ≡ Err fault
    → after.queues ≡ h.queues → after.recording ≡ recorded now [] e h.recording
    → turn_state after noted ≡ after_event now e (turn_state h noted)
unquieted now e h after noted result fault gives refused queues record_is =
    unquieted-by now [] e (outcome None now e (turn_state h noted).server.device) h after noted
    result queues record_is fault gives refused

-- the outcome of an event of the process
of-event : (now : ℕ) (event : ProcessEvent) (h after : ServerData) (e : Event)
    (result : Result Step StepFault) → e ≡ event_of event
    → IsOutcome (outcome None now e h.device) result after.device
    → IsOutcome (outcome None now (event_of event) h.device) result after.device
of-event now event h after e result is gives =
    subst (λ (x : Event). IsOutcome (outcome None now x h.device) result after.device) is gives

-- what happens to the process was done
pub told : (now : ℕ) (source : List ℕ) (event : ProcessEvent) (h after : ServerData)
    (noted : TurnData) (e : Event)
    (result : Result Step StepFault) (step : Step) (t : TurnState) → e ≡ event_of event
    → IsOutcome (outcome None now e h.device) result after.device → result ≡ Ok step
    → after.queues ≡ h.queues → after.recording ≡ recorded now source e h.recording
    → t ≡ put_ended step.ended (turn_state after noted)
    → t ≡ after_process_event now source event (turn_state h noted)
told now source event h after noted e result step t is gives ok queues record_is put =
    told-by now source (event_of event)
    (outcome None now (event_of event) (turn_state h noted).server.device) h after noted result
    queues (record_is ∙ ap (λ (x : Event). recorded now source x h.recording) is) step t
    (of-event now event h after e result is gives) ok put

-- what happens to the process was refused
pub untold : (now : ℕ) (source : List ℕ) (event : ProcessEvent) (h after : ServerData)
    (noted refused : TurnData) (e : Event)
    (result : Result Step StepFault) (fault : StepFault) → e ≡ event_of event
    → IsOutcome (outcome None now e h.device) result after.device → result ≡ Err fault
    → after.queues ≡ h.queues → after.recording ≡ recorded now source e h.recording
    → refused ≡ record noted { refused = Some (step_code_of fault) }
    → turn_state after refused ≡ after_process_event now source event (turn_state h noted)
untold now source event h after noted refused e result fault is gives fails queues record_is
    noted_is =
    untold-by now source (event_of event)
    (outcome None now (event_of event) (turn_state h noted).server.device) h after noted result
    queues (record_is ∙ ap (λ (x : Event). recorded now source x h.recording) is) fault refused
    (of-event now event h after e result is gives) fails noted_is

-- octets were taken in
pub taken : (now slot : ℕ) (octets : Bor (List ℕ)) (h after : ServerData) (noted left : TurnData)
    (result : Result Step StepFault) (step : Step) (sends : List Sent) (commands : List Command)
    (decisions : List ControlDecision) (t u v : TurnState) (n : TurnData)
    → Steps now (Recv (slot + 1) octets) h.device result after.device → result ≡ Ok step
    → after.queues ≡ h.queues
    → after.recording ≡ recorded now [] (Recv (slot + 1) octets) h.recording
    → left ≡ start_closing_if_closed slot step.closed noted
    → t ≡ put_ended step.ended (turn_state after left)
    → sends ≡ step.sent → u ≡ put_all sends t
    → commands ≡ step.commands → v ≡ with_commands commands u
    → decisions ≡ step.decisions → n ≡ with_decisions slot decisions v.noted
    → HandlesOctets now slot octets.now (turn_state h noted) (with_noted n v)
taken now slot octets h after noted left result step sends commands decisions t u v n steps ok
    queues record_is leaves put all_sent puts all-told tells all-decided decided =
    record {
      choice = steps.choice;
      is = taken-by now [] (Recv (slot + 1) (borrow_of octets.now))
          (outcome steps.choice now (Recv (slot + 1) (borrow_of octets.now))
          (turn_state h noted).server.device) h after noted result queues record_is slot left step
          sends commands decisions t u v n
          (record { answered = steps.answered; left = steps.left }) ok leaves put all_sent puts
          all-told tells all-decided decided;
    }
