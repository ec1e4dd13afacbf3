-- The number of a text's last line.
use Rattle.std.specs.Prelude.{ℕ, ◌+◌, ◌&&◌, ◌==◌, nat_lt, if◌then◌else◌, List, [], ◌∷◌, length}

-- ---- own: lines of a text

-- the number of the last line: a line end begins another line if something follows it
unfoldable pub last_line : List ℕ → ℕ
last_line [] = 1
last_line (x ∷ xs) = if x == 10 && nat_lt 0 (length xs) then last_line xs + 1 else last_line xs
