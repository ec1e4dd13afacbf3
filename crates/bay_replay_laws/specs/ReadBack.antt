-- A line that is printed is read back.
use Rattle.std.specs.Prelude.{ℕ, ◌≡◌, ◌+◌, ◌<◌, ◌^◌, true, List, [], ◌∷◌, ◌++◌, Some}
use Rattle.std.specs.Fmt.{decimal}
use Rattle.hex.specs.Hex.{encode_lower}
use Rattle.bay_config.specs.Key.{is_identifier}
use Rattle.bay_base.specs.declared.switch.Operation.{Operation}
use Rattle.bay_nodes.specs.declared.switch.Switch.{Switch}
use Rattle.bay_device.specs.Device.{State}
use Rattle.bay_device.specs.LookUps.{may_close, may_open}
use Rattle.bay_device.specs.declared.event.Sent.{Sent}
use Rattle.bay_load.specs.declared.report.Report.{Report}
use Rattle.bay_report.specs.Lines.{command_line, scan_text, send_text}
use Rattle.bay_report.specs.Report.{report_text}
use Rattle.bay_replay_laws.specs.Printed.{PrintedSwitch, printed_budget, printed_command, printed_scan, printed_send}

-- Each switch has an id as a bay file has it.
abbrev pub HaveIds : List Switch → Type 0
HaveIds [] = Unit {0}
HaveIds (switch ∷ switches) = (is_identifier 16 switch.id ≡ true) × HaveIds switches

-- the switches of a device, from index k on, and whether each may be opened and closed
abbrev pub switches_digits : State → ℕ → List Switch → List PrintedSwitch
switches_digits s k [] = []
switches_digits s k (switch ∷ switches) =
    record { id = switch.id; opens = may_open s k; closes = may_close s k }
    ∷ switches_digits s (k + 1) switches

-- a text is one line, with its end
abbrev pub IsEnded : List ℕ → List ℕ → Type 0
IsEnded text line = text ≡ line ++ 10 ∷ []

-- The line of a load is read back.
abbrev pub ReadsBudgets : Type 0
ReadsBudgets =
    (report : Report) → report.budget < 2 ^ 64
    → (line : List ℕ) × IsEnded (report_text report) line
    × (printed_budget line ≡ Some report.budget)

-- The line of a scan is read back.
abbrev pub ReadsScans : Type 0
ReadsScans =
    (now steps : ℕ) (s : State) → now < 2 ^ 64 → steps < 2 ^ 64 → HaveIds s.switches
    → (line : List ℕ) × IsEnded (scan_text now steps s) line
    × (printed_scan line ≡ Some (record
    { moment = now; steps = steps; switches = switches_digits s 0 s.switches }))

-- The line of a command is read back.
abbrev pub ReadsCommands : Type 0
ReadsCommands =
    (now : ℕ) (id : List ℕ) (operation : Operation) → now < 2 ^ 64 → is_identifier 16 id ≡ true
    → (line : List ℕ) × IsEnded (command_line now id operation) line
    × (printed_command line ≡ Some (record
    { moment = now; id = id; operation = operation }))

-- The line of sent octets is read back.
abbrev pub ReadsSends : Type 0
ReadsSends =
    (now : ℕ) (sent : Sent)
    → (line : List ℕ) × IsEnded (send_text now sent) line
    × (printed_send line ≡ Some (record
    { association = decimal sent.association; octets = encode_lower sent.octets }))
