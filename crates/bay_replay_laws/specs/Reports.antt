-- Statements on each report.
use Rattle.std.specs.Prelude.{ℕ, ◌≡◌, ◌⊎◌, List, Option, None, Some}
use Rattle.std.specs.List.{Contains}
use Rattle.bay_device.specs.Device.{State}
use Rattle.cmd_replay.specs.Replay.{ScenarioReport}
use Rattle.cmd_replay.specs.Runs.{IsRun}
use Rattle.cmd_replay.specs.Scenario.{ScenarioParts, scenario_of}
use Rattle.bay_replay_laws.specs.Printed.{lines_in}

-- No line of a text is read as such a line.
abbrev pub HasNoLine : {A : Type 0} → (List ℕ → Option A) → List ℕ → Type 0
HasNoLine read text = (line : List ℕ) → Contains (lines_in text) line → read line ≡ None

-- A report is the text of a run of its scenario's device, and the statement holds for this run.
pub record HoldsOfRun (Are : (parts : ScenarioParts) (first : State) (text : List ℕ) (status : ℕ)
    → IsRun parts first text status → Type 0) (scenario text : List ℕ) (status : ℕ) : Type 0 where
  pub parts : ScenarioParts
  pub cut : scenario_of scenario ≡ Some parts
  pub first : State
  pub run : IsRun parts first text status
  pub are : Are parts first text status run

-- Each report has no such line, or is the text of such a run.
abbrev pub OfEachReport : {A : Type 0} → (List ℕ → Option A)
    → ((parts : ScenarioParts) (first : State) (text : List ℕ) (status : ℕ)
    → IsRun parts first text status → Type 0) → Type 0
OfEachReport read Are =
    (scenario : List ℕ) (log : Option (List ℕ)) (text : List ℕ) (status : ℕ)
    → ScenarioReport scenario log text status
    → HasNoLine read text ⊎ HoldsOfRun Are scenario text status
