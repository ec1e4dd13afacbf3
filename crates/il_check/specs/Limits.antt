-- Limits of a program, beside those of the machine.
use Rattle.std.specs.Prelude.{ℕ}

-- ---- own: limits

-- the most labels
abbrev pub most_labels : ℕ
most_labels = 256

-- the greatest nesting depth of parentheses
abbrev pub most_nested : ℕ
most_nested = 16
