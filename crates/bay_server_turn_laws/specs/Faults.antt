-- Faults of a link that a turn reports.
use Rattle.std.specs.Prelude.{ℕ, ◌||◌, Bool, true, false, List, [], ◌∷◌}
use Rattle.bay_server_turn.specs.declared.turn_report.CloseReason.{CloseReason}
use Rattle.bay_server_turn.specs.declared.turn_report.CloseReason.TheVariants.{Ended, Fault, QueueFull, LinkFailed}

-- it was closed because the link failed
abbrev pub is_link_failed : CloseReason → Bool
is_link_failed Ended = false
is_link_failed (Fault code) = false
is_link_failed QueueFull = false
is_link_failed LinkFailed = true

-- the report that the connection of an association failed
abbrev pub reports_failure : List (ℕ × CloseReason) → Bool
reports_failure [] = false
reports_failure (entry ∷ entries) = is_link_failed entry.1 || reports_failure entries
