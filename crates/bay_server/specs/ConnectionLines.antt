-- The log lines of clients' connections that come and go: the first ten in a second are written,
-- and the others are counted.
use Rattle.std.specs.Prelude.{ℕ, zero, suc, ◌+◌, ◌-◌, ◌/◌, ◌^◌, ◌==◌, min, List, [], ◌∷◌, codes, length, take, Option, None, Some, if◌then◌else◌}
use Rattle.std.specs.Fmt.{decimal}
use Rattle.std.specs.declared.net.socket_addr.SocketAddrV4.{SocketAddrV4}
use Rattle.bay_io.specs.Moments.{utc_text}
use Rattle.bay_server_turn.specs.declared.turn_report.Turn.{Turn}
use Rattle.bay_server.specs.LogLines.{concat}
use Rattle.bay_server.specs.declared.connection_lines.LineCount.{LineCount}

-- ---- the count

-- no line has come in this second of the log's clock
abbrev pub new_second : ℕ → LineCount
new_second second = record { second = second; lines = 0 }

-- the count of a server that starts
abbrev pub no_lines : LineCount
no_lines = new_second 0

-- the count at a moment: it begins anew with each second
abbrev pub count_at : ℕ → LineCount → LineCount
count_at now c = if now / 1000 == c.second then c else new_second (now / 1000)

-- n more lines have come, whether written or not
abbrev pub with_lines : ℕ → LineCount → LineCount
with_lines n c = record { second = c.second; lines = min (c.lines + n) (2 ^ 64 - 1) }

-- ---- which lines are written

-- of what has a line each after a count, those whose line is written: ten in a second
abbrev pub first_ten : {A : Type 0} → LineCount → List A → List A
first_ten c items = take (10 - c.lines) items

-- how many lines of the count's second were left out, if this second has passed
abbrev pub left_out : ℕ → LineCount → ℕ
left_out now c = if now / 1000 == c.second then 0 else c.lines - 10

-- the line that says how many were left out
abbrev pub left_out_line : ℕ → ℕ → List ℕ
left_out_line now n =
    concat (utc_text now ∷ codes " " ∷ decimal n ∷ codes " lines of connections left out\n" ∷ [])

-- the line that says how many were left out, if some were
abbrev pub left_out_log : ℕ → ℕ → List (List ℕ)
left_out_log now zero = []
left_out_log now (suc n) = left_out_line now (suc n) ∷ []

-- ---- a turn

-- how many lines an opened association has
abbrev pub opened_lines : Option (ℕ × SocketAddrV4) → ℕ
opened_lines None = 0
opened_lines (Some opened) = 1

-- the count before the lines of a turn's closed associations
abbrev pub count_at_closings : ℕ → Turn → LineCount → LineCount
count_at_closings now turn c = with_lines (opened_lines turn.opened) (count_at now c)

-- the count before the lines of those that were closed because memory ran out
abbrev pub count_at_memory : ℕ → Turn → LineCount → LineCount
count_at_memory now turn c = with_lines (length turn.closed) (count_at_closings now turn c)

-- the count after a turn
abbrev pub count_after : ℕ → Turn → LineCount → LineCount
count_after now turn c = with_lines (length turn.memory) (count_at_memory now turn c)
