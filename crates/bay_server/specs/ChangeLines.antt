-- The log lines of a turn: what it reports, and what has changed in it.
use Rattle.std.specs.Prelude.{◌≡◌, Bool, true, false, ℕ, ◌+◌, List, [], ◌∷◌, ◌++◌, bytes_eq, codes, length, map, take, Option, None, Some, if◌then◌else◌}
use Rattle.std.specs.List.{flat_map, range_with_len}
use Rattle.bay_io.specs.Moments.{utc_text}
use Rattle.bay_base.specs.declared.position.Dbpos.{Dbpos}
use Rattle.bay_base.specs.declared.position.Dbpos.TheVariants.{Intermediate, Off, On, Bad}
use Rattle.bay_tree.specs.declared.leaf.Leaf.{Leaf}
use Rattle.bay_tree.specs.declared.leaf.Leaf.TheVariants as leaf
use Rattle.bay_device.specs.Device.{State}
use Rattle.bay_device.specs.LookUps.{enabled_of, operating_in, position_of}
use Rattle.bay_mms_services.specs.declared.answer.Command.{Command}
use Rattle.bay_server_turn.specs.Served.{report_in}
use Rattle.bay_server_turn.specs.declared.turn_report.Turn.{Turn}
use Rattle.bay_server.specs.ConnectionLines.{count_at, count_at_closings, count_at_memory, first_ten, left_out, left_out_log}
use Rattle.bay_server.specs.LogLines.{decisions_log, closed_line, id_of, concat, memory_line, opened_log, refused_log}
use Rattle.bay_server.specs.declared.change_lines.Column.{Column}
use Rattle.bay_server.specs.declared.change_lines.Column.TheVariants.{Position, Release}
use Rattle.bay_server.specs.declared.change_lines.SwitchView.{SwitchView}
use Rattle.bay_server.specs.declared.change_lines.BayView.{BayView}
use Rattle.bay_server.specs.declared.connection_lines.LineCount.{LineCount}
use Rattle.bay_server.specs.declared.process.NextInput.{NextInput}

-- ---- the view of the bay

-- the position that the control of a switch has
abbrev pub dbpos_in : Option Leaf → Option Dbpos
dbpos_in (Some (leaf.Dbpos position)) = Some position
dbpos_in other = None

-- the view of the switch at an index
abbrev pub switch_view_at : State → ℕ → SwitchView
switch_view_at s k = record { position = dbpos_in (position_of s k); release = enabled_of s k }

-- the view of 32 switches, how many the bay has, and the switch that is operating
abbrev pub bay_view : State → BayView
bay_view s = record {
  switches = map (switch_view_at s) (range_with_len 0 32);
  count = length s.switches;
  operating = operating_in s;
}

-- the views of the bay's own switches
abbrev pub own_switches : BayView → List SwitchView
own_switches v = take v.count v.switches

-- These are the views of the switches from index k on.
abbrev pub AreSeen : State → ℕ → List SwitchView → Type 0
AreSeen s k [] = Unit {0}
AreSeen s k (view ∷ more) = (view ≡ switch_view_at s k) × AreSeen s (k + 1) more

-- ---- positions and releases

-- a position in a word (IEC 61850-8-1, Dbpos)
abbrev pub position_word : Option Dbpos → List ℕ
position_word None = []
position_word (Some Intermediate) = codes " intermediate\n"
position_word (Some Off) = codes " open\n"
position_word (Some On) = codes " closed\n"
position_word (Some Bad) = codes " bad\n"

-- whether a switch may be opened, and closed
abbrev pub release_word : Option (Bool × Bool) → List ℕ
release_word None = []
release_word (Some (true, true)) = codes " open=1 close=1\n"
release_word (Some (true, false)) = codes " open=1 close=0\n"
release_word (Some (false, true)) = codes " open=0 close=1\n"
release_word (Some (false, false)) = codes " open=0 close=0\n"

-- a word on a switch, if it is another than before
abbrev pub word_log : ℕ → List ℕ → List ℕ → List ℕ → List ℕ → List (List ℕ)
word_log now what id before after =
    if bytes_eq before after then [] else concat (utc_text now ∷ what ∷ id ∷ after ∷ []) ∷ []

-- the position or the release of a switch, if it has changed from the first view to the second
abbrev pub view_log : Column → ℕ → List ℕ → SwitchView → SwitchView → List (List ℕ)
view_log Position now id before after =
    word_log now (codes " position ") id (position_word before.position)
    (position_word after.position)
view_log Release now id before after =
    word_log now (codes " release ") id (release_word before.release) (release_word after.release)

-- the change of the switch at an index
abbrev pub switch_log : Column → ℕ → State → ℕ → SwitchView → List (List ℕ)
switch_log column now s k before = view_log column now (id_of s k) before (switch_view_at s k)

-- the changes of the switches from index k on
abbrev pub switches_log : Column → ℕ → State → ℕ → List SwitchView → List (List ℕ)
switches_log column now s k [] = []
switches_log column now s k (before ∷ more) =
    switch_log column now s k before ++ switches_log column now s (k + 1) more

-- ---- ends of operates

-- the operate of a switch has ended, and why
abbrev pub end_line : ℕ → State → List ℕ → ℕ → List ℕ
end_line now s why k = concat (utc_text now ∷ codes " operate of " ∷ id_of s k ∷ why ∷ [])

-- the line of an operate that has ended, if one has
abbrev pub end_log : ℕ → State → List ℕ → Option ℕ → List (List ℕ)
end_log now s why None = []
end_log now s why (Some k) = end_line now s why k ∷ []

-- the switch of the first command
abbrev pub commanded_switch : List Command → Option ℕ
commanded_switch [] = None
commanded_switch (command ∷ commands) = Some command.switch

-- the switch that operates in a turn: the one that did before, unless its time has expired, or else
-- that of a command
abbrev pub operates_in : Option ℕ → Option ℕ → Option ℕ → Option ℕ
operates_in None (Some k) command = Some k
operates_in None None command = command
operates_in (Some over) before command = command

-- that switch has reached its position, if no switch operates after the turn
abbrev pub reached_in : Option ℕ → Option ℕ → Option ℕ
reached_in (Some after) operating = None
reached_in None operating = operating

-- the operates that have ended in a turn: because the time expired, or the position was reached
abbrev pub ends_log : ℕ → BayView → State → Turn → List (List ℕ)
ends_log now before s turn =
    end_log now s (codes " ended: time over\n") turn.over
    ++ end_log now s (codes " ended: position reached\n")
    (reached_in (operating_in s)
    (operates_in turn.over before.operating (commanded_switch turn.commands)))

-- ---- a turn

-- the process is lost
abbrev pub lost_log : ℕ → Bool → List (List ℕ)
lost_log now is_lost =
    if is_lost then concat (utc_text now ∷ codes " process lost\n" ∷ []) ∷ [] else []

-- The lines of a turn with this input: how many lines of connections were left out in the second
-- before, if it has passed; an association was opened, the process was lost, the event of the line
-- was refused, controls were requested, associations were closed; operates ended; and the positions
-- that have changed, before the releases that have. Of the lines of associations that are opened
-- and closed only the first ten in a second are written; the count is of those before the turn.
abbrev pub turn_log : ℕ → LineCount → NextInput → BayView → State → Turn → List (List ℕ)
turn_log now count next before s turn =
    left_out_log now (left_out now count)
    ++ first_ten (count_at now count) (opened_log now turn.opened)
    ++ lost_log now (report_in next.given).is_lost
    ++ refused_log now turn.refused next.shown
    ++ flat_map (decisions_log now s) turn.decisions
    ++ map (closed_line now) (first_ten (count_at_closings now turn count) turn.closed)
    ++ map (memory_line now) (first_ten (count_at_memory now turn count) turn.memory)
    ++ ends_log now before s turn
    ++ (switches_log Position now s 0 (own_switches before)
    ++ switches_log Release now s 0 (own_switches before))
