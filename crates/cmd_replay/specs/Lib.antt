-- The report of a scenario. `Replay` is the main file: what is printed for a scenario, and its
-- status. It is a relation, since memory may run out while a scenario is read or loaded, and at a
-- line with octets: for each line there is a choice whose answer is printed. `fault 121` alone is
-- printed exactly if a read failed or the scenario is too long.
--
-- `Scenario`: the three parts, separated by the first two lines that are `%%`, and the maximum
-- size. `LineAnswers`: what is printed for a line, as a function of a choice: memory runs out for
-- the octets of the line (only if they are more than in any line before), or in the device. `Runs`:
-- each text is that of a run of the scenario's device, and what holds of this run; `History`: the
-- events of a device since load. `Answering` is private to how a line is answered: with which
-- choice, and by which steps. `ScenarioView` maps the code's slices to plain data.

-- What public clauses cite of the crates below.
pub use Rattle.bay_device.specs.Commands
pub use Rattle.bay_device.specs.Fresh
pub use Rattle.bay_device.specs.Meaning
pub use Rattle.bay_device.specs.Operates
pub use Rattle.bay_device.specs.Steps
pub use Rattle.bay_device.specs.ObservedRuns
pub use Rattle.bay_report.specs.Lines
pub use Rattle.bay_load.specs.Loads
pub use Rattle.bay_report.specs.Report
pub use Rattle.bay_report.specs.TextLines
pub use Rattle.bay_trace.specs.Resolving
pub use Rattle.bay_trace.specs.Trace
-- Its own definitions.
pub mod Answering
pub mod History
pub mod LineAnswers
pub mod Replay
pub mod Runs
pub mod Scenario
pub mod ScenarioView
