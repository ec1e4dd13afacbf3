-- The turns of a service are done one after the other, and what happens in them is one history.
use Rattle.std.proofs.Common.{◌≡◌, ℕ, zero, suc, nat_lt, Bool, true, false, if◌then◌else◌, List, [], ◌∷◌, Option, Some, None, Result, Ok, Err, inl, inr, refl, ap, sym, subst, ◌∙◌, arith}
use Rattle.std.proofs.lemmas.Bool.Decides.{nat_tests}
use Rattle.bay_device.specs.Device.{State}
use Rattle.bay_device.specs.Fresh.{IsHistory, PastEvent}
use Rattle.bay_device.specs.Outcomes.{last_moment}
use Rattle.bay_io.specs.Calls.{WriteCall}
use Rattle.bay_io.specs.Watched.{WriterState}
use Rattle.bay_io.specs.declared.outbox.WriteFault.{WriteFault}
use Rattle.bay_server_turn.specs.Calls.{Call}
use Rattle.bay_server_turn.specs.Served.{TurnInput, turn_refusal}
use Rattle.bay_server_turn.specs.Turns.{ServerData, moment_at, with_recording}
use Rattle.bay_server_turn.specs.declared.fault.ServeFault.TheVariants.{MomentTooLarge}
use Rattle.bay_server_turn_laws.specs.Events.{turn_events}
use Rattle.bay_server_turn_laws.specs.Flows.{IsInTime}
use Rattle.bay_server_turn_laws.proofs.PartLemmas.{Part-turn}
use Rattle.bay_server.specs.Clock.{moment_read}
use Rattle.bay_server.specs.Host.{HostCall}
use Rattle.bay_server.specs.ServeReport.{AfterTurn, AwaitsNext, ServiceState, ServesTurns, TurnServed, chosen_input}
use Rattle.cmd_serve.specs.Service.{AreTurns, DoneTurn, IsService, IsTurn, server_after_all, server_after, later_turns, past_after, past_of, turn_in, turns_in}
use Rattle.cmd_serve.proofs.HistoryLemmas.{Stands, one-run, stands-events, stands-first}

-- ---- all turns

pub stands-turns : (first : State) (ts : List DoneTurn) (h : ServerData) (past : List PastEvent)
    → Stands first past h.device → Stands first (past_of ts h past) (server_after_all ts h).device
stands-turns first [] h past at = at
stands-turns first (t ∷ ts) h past at =
    let events = turn_events t.now t.given t.script h in
    let whole = Part-turn t.now t.given t.script h in
    stands-turns first ts (server_after t h) (past_after t.now events h.device past)
    (subst (Stands first (past_after t.now events h.device past)) (sym whole.device)
    (stands-events first t.now events h.device past at))

-- ---- those that were served

in-time : (clock : ℕ) (given : TurnInput) (h : ServerData) → turn_refusal clock given h ≡ None
    → IsInTime (moment_at clock h) h
in-time clock (Err fault) h e = absurd cc
in-time clock (Ok event) h e = by-late (nat_lt last_moment (moment_at clock h)) refl e
  where
    by-late : (late : Bool) → nat_lt last_moment (moment_at clock h) ≡ late
        → (if late then Some MomentTooLarge else None) ≡ None → IsInTime (moment_at clock h) h
    by-late true is e = absurd cc
    by-late false is e =
        record { not_before = omega arith; not_past = grind (arith, nat_tests) }

later-are : (Ends Goes : Type 0) (h : ServerData) (reported : Result ℕ WriteFault)
    (rest : AfterTurn reported Ends Goes) (more : Goes → List DoneTurn)
    → ((goes : Goes) → AreTurns h (more goes))
    → AreTurns h (later_turns Ends Goes reported rest more)
later-are Ends Goes h (Err fault) rest more each = tt
later-are Ends Goes h (Ok status) goes more each = each goes

module _ {L H W : Type 0} (step : L → Call → L → Type 0) (acts : H → HostCall L → H → Type 0)
    (contents : W → Option (List ℕ)) (asks : W → WriteCall → W → Type 0) where
  pub paused-held : (after next : ServiceState L H) → AwaitsNext acts after next
      → next.held ≡ after.held
  paused-held after next awaits = ap (λ (b : ServiceState L H). b.held) awaits.1

  -- the server after it, of which the record was written
  pub turned-to : (before : ServiceState L H) (old : WriterState W) (after : ServiceState L H)
      (new : WriterState W)
      (answer : Result ℕ WriteFault)
      (goes : TurnServed step acts contents asks before old after new answer)
      → after.held
      ≡ server_after (turn_in step acts contents asks before old after new answer goes) before.held
  turned-to before old after new answer goes =
      ap (λ (h : ServerData). with_recording after.held.recording h) goes.serves.server

  pub is-turn : (before : ServiceState L H) (old : WriterState W) (after : ServiceState L H)
      (new : WriterState W)
      (answer : Result ℕ WriteFault)
      (goes : TurnServed step acts contents asks before old after new answer)
      → IsTurn before.held (turn_in step acts contents asks before old after new answer goes)
  is-turn before old after new answer goes = record {
    all_read = goes.serves.all_read;
    all_offered = goes.serves.all_offered;
    in_time =
        in-time (moment_read goes.clocks before.clock) (chosen_input goes.clocks before).next.given
        before.held
        goes.right;
    commands = goes.serves.commands;
  }

  pub turned : (turns : ℕ) (before : ServiceState L H) (old : WriterState W)
      (host : H) (new : WriterState W) (answer : Result ℕ WriteFault)
      (serves : ServesTurns step acts contents asks turns before old host new answer)
      → AreTurns before.held
      (turns_in step acts contents asks turns before old host new answer serves)
  turned zero before old host new answer serves = tt
  turned (suc turns) before old host new answer (inl fails) = tt
  turned (suc turns) before old host new answer (inr did) = (
    is-turn _ _ _ _ _ did.3,
    later-are _ _ _ did.2 did.4 _ (λ rest.
        subst (λ h. AreTurns h (turns_in step acts contents asks turns rest.0 did.1 host new answer
        rest.2)) (paused-held did.0 rest.0 rest.1 ∙ turned-to before old did.0 did.1 did.2 did.3)
        (turned turns rest.0 _ host new answer rest.2)),
  )

  pub service-of : (turns : ℕ) (before : ServiceState L H)
      (old new : WriterState W) (host : H) (answer : Result ℕ WriteFault)
      (serves : ServesTurns step acts contents asks turns before old host new answer)
      → IsHistory [] before.held.device → IsService before.held
      (turns_in step acts contents asks turns before old host new answer serves)
  service-of turns before old new host answer serves begin =
      let ts = turns_in step acts contents asks turns before old host new answer serves in
      let first : State = before.held.device in
      record {
        are = turned turns before old host new answer serves;
        run = one-run first (past_of ts before.held []) (server_after_all ts before.held).device
            begin
            (stands-turns first ts before.held [] (stands-first first begin));
      }
