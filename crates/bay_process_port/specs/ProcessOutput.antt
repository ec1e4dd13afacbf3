-- What a process receives after a turn.
use Rattle.std.specs.Prelude.{ℕ, ◌+◌, nat_le, Bool, false, List, [], ◌++◌, codes, length, slice_get, Option, None, Some, if◌then◌else◌}
use Rattle.std.specs.Fmt.{decimal}
use Rattle.bay_device.specs.Device.{State}
use Rattle.bay_lines.specs.Puts as puts
use Rattle.bay_nodes.specs.declared.switch.Switch.{Switch}
use Rattle.bay_process_port.specs.Supervised.{WatchData}
use Rattle.bay_report.specs.Lines.{commands_text, refusal_line}
use Rattle.bay_server_turn.specs.declared.turn_report.Turn.{Turn}

-- the refusal of the event of the process, if there was one
abbrev pub refusal_text : ℕ → Option ℕ → List ℕ
refusal_text now None = []
refusal_text now (Some code) = refusal_line now code

-- the refusal and the commands, as they are printed, by the device after the turn
abbrev pub process_turn_text : ℕ → Turn → State → List ℕ
process_turn_text now turn s = refusal_text now turn.refused ++ commands_text now s turn.commands

-- ---- what only a supervised process receives

-- a turn: its moment, the text of its report, and the switch whose operate expired in it
pub record ReportedTurn : Type 0 where
  pub now : ℕ
  pub text : List ℕ
  pub over : Option ℕ

-- the turn at a moment, by its report and the device after it
abbrev pub reported_turn : ℕ → Turn → State → ReportedTurn
reported_turn now turn s =
    record { now = now; text = process_turn_text now turn s; over = turn.over }

-- the operate of the switch with this id has expired
abbrev pub over_line : ℕ → List ℕ → List ℕ
over_line now id = decimal now ++ codes " over " ++ id ++ codes "\n"

-- the line of an operate of this switch that has expired; nothing without a switch
abbrev pub expiry_part : ℕ → Option Switch → List ℕ
expiry_part now None = []
expiry_part now (Some switch) = over_line now switch.id

-- the line of an operate that has expired, if one has
abbrev pub expiry_text : ℕ → State → Option ℕ → List ℕ
expiry_text now s None = []
expiry_text now s (Some k) = expiry_part now (slice_get s.switches k)

-- only a supervised process receives the line of an operate that has expired
abbrev pub expiry_for : Option WatchData → Option ℕ → Option ℕ
expiry_for None over = None
expiry_for (Some w) over = over

-- the server is alive, if the turn took a line by which the process is
abbrev pub lives_in : Option WatchData → Bool
lives_in None = false
lives_in (Some w) = w.lives

-- the line that the server is alive, if it must be sent
abbrev pub alive_text : ℕ → Bool → List ℕ
alive_text now lives = if lives then decimal now ++ codes " alive\n" else []

-- the greeting: the longest silence, and the bay of the server
abbrev pub greeting_text : ℕ → State → Option WatchData → List ℕ
greeting_text now s None = []
greeting_text now s (Some w) =
    decimal now ++ codes " process " ++ decimal w.settings.limit ++ codes " " ++ s.domain
    ++ codes " "
    ++ s.revision ++ codes "\n"

-- ---- the queue

-- a queue of at most 65,536 octets has room for a text too
abbrev pub fits_in : List ℕ → List ℕ → Bool
fits_in queue text = nat_le (length queue + length text) 65536

-- whether a queue has room for this text; if it has, the text was appended
abbrev pub PutsWhole : List ℕ → List ℕ → List ℕ → Bool → Type 0
PutsWhole = puts.PutsWhole 65536
