-- The steps of scans in the text of a report.
use Rattle.std.specs.Prelude.{ℕ, ◌≡◌, ◌≤◌, List, [], ◌∷◌, Option, Some}
use Rattle.std.specs.List.{Contains}
use Rattle.cmd_replay.specs.Replay.{ScenarioReport}
use Rattle.bay_replay_laws.specs.Printed.{PrintedScan, lines_in, printed_budget, printed_scan}

-- the first of some lines
abbrev pub first_line : List (List ℕ) → List ℕ
first_line [] = []
first_line (line ∷ lines) = line

-- Each line of a scan has at most as many steps as the first line allows.
abbrev pub AreWithinBudget : List ℕ → Type 0
AreWithinBudget text =
    (line : List ℕ) (scan : PrintedScan) → Contains (lines_in text) line
    → printed_scan line ≡ Some scan
    → (budget : ℕ) × (printed_budget (first_line (lines_in text)) ≡ Some budget)
    × (scan.steps ≤ budget)

-- In each report the lines of scans are within the budget.
abbrev pub ScansAreWithinBudget : Type 0
ScansAreWithinBudget =
    (scenario : List ℕ) (log : Option (List ℕ)) (text : List ℕ) (status : ℕ)
    → ScenarioReport scenario log text status → AreWithinBudget text
