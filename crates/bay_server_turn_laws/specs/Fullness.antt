-- When a turn reports that the queue of an association was full, by octets alone.
use Rattle.std.specs.Prelude.{◌≡◌, ℕ, ◌+◌, ◌<◌, ◌↔◌, ◌⊎◌, Bool, true, false, List, [], length, Some}
use Rattle.std.specs.declared.net.socket_addr.SocketAddrV4.{SocketAddrV4}
use Rattle.bay_device.specs.declared.event.Why.{Why}
use Rattle.bay_server_turn.specs.Turns.{ServerData, Script, lowest_free_association, has_open, server_queue, turn_calls, after_turn}
use Rattle.bay_server_turn.specs.declared.process_input.ProcessReport.{ProcessReport}
use Rattle.bay_server_turn_laws.specs.Causes.{ends_for, fails_for, has_some, is_queue_full, reasons_of, reports_close}
use Rattle.bay_server_turn_laws.specs.Events.{outcomes_at, turn_events}
use Rattle.bay_server_turn_laws.specs.Flows.{replies_to, written_by_calls}

-- Of what the queue held and what was sent, the link left more than a queue has room for; and no
-- call failed, no end came, and the device did not close the association.
pub record HasNoRoom (taken held sent : List ℕ) (failed over : Bool) (reasons : List Why)
    : Type 0 where
  pub over_full : 262144 + length taken < length held + length sent
  pub no_failure : failed ≡ false
  pub no_end : over ≡ false
  pub no_close : reasons ≡ []

-- an association is open when the turn begins, or the turn opens it
abbrev pub IsOpenIn : ℕ → Script → ServerData → Type 0
IsOpenIn slot script h =
    (has_open slot h ≡ true)
    ⊎ ((lowest_free_association h ≡ Some slot)
    × (from : SocketAddrV4) × (script.accepted ≡ Some (Some from)))

-- A turn reports a full queue of an association exactly if its octets have no room (`HasNoRoom`).
abbrev pub IsReportedIfFull : ℕ → ProcessReport → Script → ServerData → ℕ → Type 0
IsReportedIfFull now given script h slot =
    (reports_close is_queue_full (slot + 1) (after_turn now given script h).noted.closed ≡ true)
    ↔ HasNoRoom (written_by_calls (slot + 1) (turn_calls now given script h)) (server_queue slot h)
    (replies_to (slot + 1) (outcomes_at now (turn_events now given script h) h.device).answers)
    (has_some (fails_for (slot + 1)) (turn_calls now given script h))
    (has_some (ends_for (slot + 1)) (turn_calls now given script h))
    (reasons_of (slot + 1) (outcomes_at now (turn_events now given script h) h.device).answers)
