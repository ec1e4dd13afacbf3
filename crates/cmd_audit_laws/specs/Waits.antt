-- What a rule with a time implies for the commands of turns and of a history.
use Rattle.std.specs.Prelude.{ℕ, Bool, List, [], ◌∷◌}
use Rattle.bay_audit_laws.specs.Laws.{CommandsWaitAt, HasWaited, scans_after}
use Rattle.bay_device.specs.Device.{State}
use Rattle.bay_device.specs.Fresh.{PastEvent}
use Rattle.bay_device.specs.Outcomes.{outcome}
use Rattle.cmd_replay.specs.History.{device_after}
use Rattle.bay_audit_rules.specs.declared.rule.ConditionItem.{ConditionItem}
use Rattle.bay_audit_rules.specs.declared.rule.Rule.{Rule}
use Rattle.bay_audit_rules.specs.declared.rule.Timing.{Timing}
use Rattle.bay_mms_services.specs.declared.answer.Command.{Command}
use Rattle.bay_server_turn.specs.Turns.{ServerData}
use Rattle.bay_server_turn_laws.specs.Events.{ChosenEvent, outcomes_at, turn_events}
use Rattle.cmd_serve.specs.Requests.{IsRequested}
use Rattle.cmd_serve.specs.Service.{DoneTurn, server_after, past_after}

-- ---- turns

-- the scans after these events, at this moment
abbrev pub scans_after_events : List ConditionItem → ℕ → List ChosenEvent → State → List (ℕ × Bool)
    → List (ℕ × Bool)
scans_after_events condition now [] s scans = scans
scans_after_events condition now (e ∷ es) s scans =
    let o = outcome e.0 now e.1 s in
    scans_after_events condition now es o.after (scans_after condition now e.1 s o.answer scans)

-- For each command of one of the turns, however it was ordered, at the device just before the
-- client's octets: if the rule applies to what the process had last reported, its condition had
-- held for the time at the last scan.
abbrev pub OrdersWait : Rule → Timing → State → ServerData → List (ℕ × Bool) → List PastEvent
    → List DoneTurn → Type 0
OrdersWait rule timing first h scans past [] = Unit {0}
OrdersWait rule timing first h scans past (t ∷ ts) =
    ((command : Command) (o : IsRequested first h t past command)
    → HasWaited rule timing (scans_after_events timing.condition t.now o.heard.front h.device scans)
    (outcomes_at t.now o.heard.front h.device).after command)
    × OrdersWait rule timing first (server_after t h)
    (scans_after_events timing.condition t.now (turn_events t.now t.given t.script h) h.device
    scans)
    (past_after t.now (turn_events t.now t.given t.script h) h.device past) ts

-- ---- a history

-- the scans among these events
abbrev pub scans_of : List ConditionItem → State → List PastEvent → List (ℕ × Bool)
scans_of condition first [] = []
scans_of condition first (p ∷ past) =
    scans_after condition p.now p.event (device_after first past) p.answer
    (scans_of condition first past)

-- Each command of these events waits for the time of the rule.
abbrev pub PastWaits : Rule → Timing → State → List PastEvent → Type 0
PastWaits rule timing first [] = Unit {0}
PastWaits rule timing first (p ∷ past) =
    CommandsWaitAt rule timing (scans_of timing.condition first past) p.now p.event
    (device_after first past) p.answer p.after
    × PastWaits rule timing first past
