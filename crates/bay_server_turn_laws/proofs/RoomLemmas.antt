-- What each part of a turn puts into queues is within their room; and a server as it is made.
use Rattle.std.proofs.Common.{All, Err, List, None, Ok, Option, Result, [], ap, arith, false, get_or, inl, inr, leb, length, refl, replicate, subst, sym, true, ℕ, ◌++◌, ◌+◌, ◌<◌, ◌≡◌, ◌≤◌, ◌⊎◌}
use Rattle.std.proofs.Math.ListN.{get_or-eq_default}
use Rattle.std.proofs.lemmas.Bool.{leb-true}
use Rattle.std.proofs.lemmas.Bool.Decides.{leb_tells}
use Rattle.std.proofs.lemmas.List.{get_or-replicate, length-append}
use Rattle.std.proofs.lemmas.List.Elements.{All-get_or, All-replicate, All-set}
use Rattle.bay_device.specs.Device.{State}
use Rattle.bay_device.specs.Outcomes.{outcome}
use Rattle.bay_device.specs.declared.event.Event.{Event}
use Rattle.bay_device.specs.declared.event.Event.TheVariants.{Close, Open, Recv, Scan}
use Rattle.bay_device.specs.declared.event.Step.{Step}
use Rattle.bay_device.specs.declared.event.Why.TheVariants.{Ended}
use Rattle.bay_device.specs.declared.fault.StepFault.{StepFault}
use Rattle.bay_trace.specs.Resolving.{borrow_of}
use Rattle.bay_server_turn.specs.Calls.{Call}
use Rattle.bay_server_turn.specs.Recorded.{Recording}
use Rattle.bay_server_turn.specs.Turns.{ServerData, Script, TurnState, after_event, after_turn, close_at_once, event_of, start_closing, after_device_close, put_answer, put_ended, record_refusal, server_queue, turn_queue, turn_begin, turn_calls, with_device, with_noted, with_queue}
use Rattle.bay_server_turn.specs.declared.process_input.ProcessReport.{ProcessReport}
use Rattle.bay_server_turn.specs.declared.turn_report.CloseReason.{CloseReason}
use Rattle.bay_server_turn.specs.declared.turn_report.CloseReason.TheVariants as closing
use Rattle.bay_server_turn_laws.specs.Events.{ChosenEvent, turn_events}
use Rattle.bay_server_turn_laws.specs.Flows.{IsTidy}
use Rattle.bay_server_turn_laws.specs.Room.{AreInRoom}
use Rattle.bay_server_turn_laws.proofs.Acts.{Act, Asks, Breaks, Can, Fills, HangsUp, Hears, Offers, Parts, Scans, Tells, after}
use Rattle.bay_server_turn_laws.proofs.PutLemmas.{IsPut, puts-all, puts-ended, puts-quiet}
use Rattle.bay_server_turn_laws.proofs.KeptLemmas.{turned-keeps}
use Rattle.bay_server_turn_laws.proofs.WalkLemmas.{Begins, Opening, Quietly, turn-is-acts}

abbrev Fits : List ℕ → Type 0
Fits queue = length queue ≤ 262144

abbrev Holds : TurnState → Type 0
Holds s = All Fits s.server.queues

holds-queue : (slot : ℕ) (queue : List ℕ) (s : TurnState) → Fits queue → Holds s
    → Holds (with_queue slot queue s)
holds-queue slot queue s fits p = All-set Fits s.server.queues slot queue fits p

holds-put : IsPut Holds
holds-put = record {
  fits = λ slot octets s room p.
      holds-queue slot (turn_queue slot s ++ octets) s
      (omega (
        arith,
        leb-true (length (turn_queue slot s) + length octets) 262144 room,
        length-append (turn_queue slot s) octets,
      )) p;
  fills = λ slot s p. p;
}

-- ---- what is offered

fits-at : (queues : List (List ℕ)) (slot : ℕ)
    → ((leb (length queues) slot ≡ true) × (length queues ≤ slot))
    ⊎ ((leb (length queues) slot ≡ false) × (slot < length queues))
    → All Fits queues → Fits (get_or queues slot [])
fits-at queues slot (inl x) p = subst Fits (sym (get_or-eq_default queues [] x.1)) (omega arith)
fits-at queues slot (inr x) p = All-get_or Fits queues slot [] x.1 p

pub in-room : (h : ServerData) (slot : ℕ) → AreInRoom h → length (server_queue slot h) ≤ 262144
in-room h slot p = fits-at h.queues slot (leb_tells (length h.queues) slot) p

-- ---- events

module _ (now : ℕ) where
  holds-stepped : (event : Event) (s : TurnState) → Holds s → Holds (after_event now event s)
  holds-stepped event s p =
      let o = outcome None now event s.server.device in
      puts-quiet Holds holds-put o.answer (with_device o.after s) p

  holds-cut : (why : CloseReason) (slot : ℕ) (s : TurnState) → Holds s
      → Holds (close_at_once now why slot s)
  unfolding close_at_once
  holds-cut why slot s p =
      holds-queue slot [] (after_event now (Close (slot + 1)) s) (omega arith)
      (holds-stepped (Close (slot + 1)) s p)

  holds-answer : (slot : ℕ) (answer : Result Step StepFault) (s : TurnState) → Holds s
      → Holds (put_answer slot answer s)
  holds-answer slot (Err fault) s p = p
  holds-answer slot (Ok step) s p =
      puts-all Holds holds-put step.sent
      (put_ended step.ended (after_device_close slot step.closed s))
      (puts-ended Holds holds-put step.ended (after_device_close slot step.closed s) p)

  holds-told : (answer : Result Step StepFault) (s : TurnState) → Holds s
      → Holds (record_refusal answer s)
  holds-told (Err fault) s p = p
  holds-told (Ok step) s p = puts-ended Holds holds-put step.ended s p

  holds-act : (most : ℕ) (a : Act) (s : TurnState) → Can most a s → Holds s → Holds (after now a s)
  holds-act most (Asks call) s can p = p
  holds-act most (Hears slot choice octets) s can p =
      let o = outcome choice now (Recv (slot + 1) (borrow_of octets)) s.server.device in
      holds-answer slot o.answer (with_device o.after s) p
  holds-act most (HangsUp slot) s can p =
      holds-stepped (Close (slot + 1)) (with_noted (start_closing slot Ended s.noted) s) p
  holds-act most (Tells source event) s can p =
      let o = outcome None now (event_of event) s.server.device in
      holds-told o.answer (with_device o.after s) p
  holds-act most Scans s can p = holds-stepped Scan s p
  holds-act most (Fills slot) s can p = holds-cut closing.QueueFull slot s p
  holds-act most (Breaks slot calls) s can p = holds-cut closing.LinkFailed slot s p
  holds-act most (Offers slot calls left) s can p =
      let o = can.offered in
      holds-queue slot left s
      (omega (
        arith,
        length-append o.taken left,
        ap length o.is,
        fits-at s.server.queues slot (leb_tells (length s.server.queues) slot) p,
      )) p
  holds-act most (Parts slot calls) s can p = holds-queue slot [] s (omega arith) p

  holds-begins : (most : ℕ) (h : ServerData) (s : TurnState) (c : List Call) (e : List ChosenEvent)
      → Begins now most h s c e → AreInRoom h → Holds s
  holds-begins most h s c e Quietly p = p
  holds-begins most h s c e (Opening slot from free) p =
      holds-stepped (Open (slot + 1)) (turn_begin h) p

  pub holds-turn : (given : ProcessReport) (script : Script) (h : ServerData) → AreInRoom h
      → AreInRoom (after_turn now given script h).server
  holds-turn given script h p =
      let most = length script.readings + length script.offers in
      let m = turn-is-acts now most given script h (omega arith) (omega arith) in
      turned-keeps now most (λ c e r s. Holds s) (λ a c e r s sized can q. holds-act most a s can q)
      h script.accepted (after_turn now given script h) (turn_calls now given script h)
      (turn_events now given script h) m
      (holds-begins most h m.start m.calls m.events m.begins p)

-- ---- a server as it is made

abbrev made : State → Option Recording → ServerData
made device recording =
    record { device = device; queues = replicate 8 []; recording = recording }

pub made-in-room : (device : State) (recording : Option Recording)
    → AreInRoom (made device recording)
made-in-room device recording = All-replicate Fits 8 [] (omega arith)

pub made-tidy : (device : State) (recording : Option Recording) → IsTidy (made device recording)
made-tidy device recording =
    record { sized = refl; empty = λ slot low up. get_or-replicate 8 slot [] [] low }
