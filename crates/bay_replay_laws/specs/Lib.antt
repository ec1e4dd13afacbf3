-- The text of a report, as it is read back.
--
-- `Printed`: how a line is read, by its words alone; `ReadBack`: each line that is printed is read
-- so. `Released` is the main file: the scan before a command's line; `Answered`: the request and
-- the response of a command, and the key of its switch. `Texts`: scans are within the budget;
-- `Meant`: their lines have what the program means; `Reports`: statements on each report.

-- What public clauses cite of the crates below.
pub use Rattle.bay_device.specs.Fresh
pub use Rattle.bay_device.specs.Meaning
pub use Rattle.bay_device.specs.ObservedRuns
pub use Rattle.cmd_replay.specs.Replay
pub use Rattle.cmd_replay.specs.Runs
-- Its own definitions.
pub mod Answered
pub mod Meant
pub mod Printed
pub mod ReadBack
pub mod Released
pub mod Reports
pub mod Texts
