-- The releases in a scan's line are those that the text of the program means.
use Rattle.std.specs.Prelude.{ℕ, ◌≡◌, ◌+◌, List, [], ◌∷◌, ◌++◌, map, Some}
use Rattle.bay_base.specs.declared.point.Source.{Source}
use Rattle.bay_base.specs.declared.point.SwitchPoint.TheVariants.{EnableOpen, EnableClose}
use Rattle.bay_nodes.specs.declared.switch.Switch.{Switch}
use Rattle.bay_process.specs.Values.{output_of}
use Rattle.il_check.specs.Program.{Checked}
use Rattle.il_compile.specs.Compiled.{point_of}
use Rattle.il_compile.specs.Meaning.{Memory, mean}
use Rattle.il_image.specs.declared.value.Value.{Value}
use Rattle.il_scan.specs.Scans.{outputs_of}
use Rattle.bay_device.specs.Device.{State}
use Rattle.bay_device.specs.Fresh.{PastEvent}
use Rattle.bay_device.specs.Meaning.{memory_before}
use Rattle.bay_device.specs.declared.event.Event.TheVariants.{Scan}
use Rattle.bay_report.specs.Report.{report_text}
use Rattle.cmd_replay.specs.History.{device_after}
use Rattle.cmd_replay.specs.Runs.{IsRun}
use Rattle.cmd_replay.specs.Scenario.{ScenarioParts}
use Rattle.bay_replay_laws.specs.Printed.{PrintedScan, PrintedSwitch, lines_in, printed_scan}
use Rattle.bay_replay_laws.specs.Released.{IsCommandLineFor}
use Rattle.bay_replay_laws.specs.Reports.{OfEachReport}

-- The entries of a line are, switch by switch and in their order, its id and the values of its
-- EnaOpn and its EnaCls in the outputs; a value that the program does not name is FALSE.
abbrev pub AreValues : List Source → List Value → ℕ → List Switch → List PrintedSwitch → Type 0
AreValues writes outputs k [] reported = reported ≡ []
AreValues writes outputs k (switch ∷ switches) reported =
    (more : List PrintedSwitch)
    × (reported ≡ record {
      id = switch.id;
      opens = output_of k EnableOpen writes outputs;
      closes = output_of k EnableClose writes outputs;
    } ∷ more)
    × AreValues writes outputs (k + 1) switches more

-- A scan's line is one of the lines for a scan of this history, and has what the program means:
-- from the variables that the device retains, and from the positions, inputs and measured values
-- that it has by then.
pub record IsMeant (c : Checked) (begin : List ℕ) (first : State) (past : List PastEvent)
    (before : List (List ℕ)) (line : List ℕ) (read : PrintedScan) : Type 0 where
  pub later : List PastEvent
  pub scan : PastEvent
  pub earlier : List PastEvent
  pub split : past ≡ later ++ scan ∷ earlier
  pub printed : IsCommandLineFor begin scan earlier before line
  pub scanned : scan.event ≡ Scan
  pub moment : read.moment ≡ scan.now
  pub after : Memory
  pub means : mean scan.now c.items (memory_before c (device_after first earlier)) ≡ Some after
  pub values : AreValues first.writes (outputs_of (map point_of c.externals) after.externals) 0
      first.switches read.switches

-- Each line of a scan in the text of a run has what the program means.
abbrev pub AreMeant : (parts : ScenarioParts) (first : State) (text : List ℕ) (status : ℕ)
    → IsRun parts first text status → Type 0
AreMeant parts first text status run =
    (before after : List (List ℕ)) (line : List ℕ) (read : PrintedScan)
    → lines_in text ≡ before ++ line ∷ after → printed_scan line ≡ Some read
    → IsMeant run.loaded.made.checked (report_text run.printed.report) first run.past before line
    read

-- A report has no line of a scan, or is the text of a run in which each has what the text of the
-- program means.
abbrev pub ScansAreMeant : Type 0
ScansAreMeant = OfEachReport printed_scan AreMeant
