-- Where it is told that a queue was full.
use Rattle.std.proofs.Common.{Bool, ap, arith, false, inl, inr, length, length-append, refl, sym, true, ℕ, ◌+◌, ◌<◌, ◌∙◌, ◌≡◌, ◌≤◌}
use Rattle.bay_server_turn.specs.AssociationStates.{is_close_reported}
use Rattle.bay_server_turn.specs.Turns.{ServerData, Script, TurnState, after_turn, has_open, server_queue, state_at, turn_calls}
use Rattle.bay_server_turn.specs.declared.process_input.ProcessReport.{ProcessReport}
use Rattle.bay_server_turn_laws.specs.Events.{outcomes_at, turn_events}
use Rattle.bay_server_turn_laws.specs.Flows.{IsInTime, IsTidy, replies_to, written_by_calls}
use Rattle.bay_server_turn_laws.specs.Fullness.{IsOpenIn, IsReportedIfFull}
use Rattle.bay_server_turn_laws.specs.Room.{AreInRoom}
use Rattle.bay_server_turn_laws.proofs.CauseFlows.{knows-turn}
use Rattle.bay_server_turn_laws.proofs.OpenFlows.{turned-open}
use Rattle.bay_server_turn_laws.proofs.RoomLemmas.{holds-turn, in-room}
use Rattle.bay_server_turn_laws.proofs.TurnFlows.{loses-nothing}

told-by : (b u : Bool) → u ≡ false → (b ≡ false → u ≡ true) → b ≡ true
told-by true u e f = refl
told-by false u e f = absurd (let no : false ≡ true = sym e ∙ f refl in cc)

pub told-where-full : (now : ℕ) (given : ProcessReport) (script : Script) (h : ServerData)
    → IsTidy h
    → IsInTime now h → AreInRoom h → length script.readings ≤ 8
    → length script.offers ≡ 8 → (p : ℕ) → p < 8 → IsOpenIn p script h
    → IsReportedIfFull now given script h p
told-where-full now given script h tidy time room readings offers p low up =
    let t : TurnState = after_turn now given script h in
    let taken = written_by_calls (p + 1) (turn_calls now given script h) in
    let held = server_queue p h in
    let sent =
    replies_to (p + 1) (outcomes_at now (turn_events now given script h) h.device).answers in
    let flows = loses-nothing now given script h tidy time offers in
    let f = flows.flows p low in
    let knows = knows-turn now given script h tidy time readings offers p low in
    let sizes : length taken + length f.rest ≡ length held + length sent =
    sym (length-append taken f.rest) ∙ ap length f.is ∙ length-append held sent in
    let inside : length (server_queue p t.server) ≤ 262144 =
    in-room t.server p (holds-turn now given script h room) in (
      (λ reported. (
          let more = flows.full p low reported in
          let none = knows.caused.queue reported in
          record {
            over_full = omega (arith, more, sizes);
            no_failure = none.0;
            no_end = none.1;
            no_close = none.2;
          })),
      (λ n. elim f.kept [
        | inl e ↦ absurd (omega (arith, n.over_full, sizes, inside, ap length e))
        | inr down ↦ knows.reported
            (told-by (is_close_reported (state_at p t)) (has_open p t.server) down.1
            (turned-open now p low given script h time readings offers up))
            n.no_failure n.no_end n.no_close
      ]),
    )
