-- The command `serve`, and laws on all its turns together. The effect of a call of the system is a
-- relation that its implementation defines.
--
-- `Serve` is the main file: files are read and loaded, the line of the load is printed, the ports
-- are opened, and turns are served, which are one run of the device; if one of these fails, it
-- defines what is printed, and nothing more is done. If rules or a diagram are named, they are
-- judged before any port is opened. `Permits`: whether the service goes on after that. `Sums`: what
-- is logged of the files that are served.
--
-- `Service`: the turns that were served, one after the other, and all events of the device in them
-- since load, which are one run of it. `Requests`: the request, the answer and the scan of each
-- command that a turn reports; `Texts`: the same for the lines that are printed. `Live`: a
-- supervised process was alive when a turn with a command began. `SessionRecord`: what the file of
-- the record takes in all turns is a prefix of the lines of their events.

-- What public clauses cite of the crates below.
pub use Rattle.bay_cli.specs.JobView
pub use Rattle.bay_device.specs.Commands
pub use Rattle.bay_device.specs.Fresh
pub use Rattle.bay_device.specs.Meaning
pub use Rattle.bay_device.specs.Operates
pub use Rattle.bay_device.specs.Steps
pub use Rattle.bay_device.specs.ObservedRuns
pub use Rattle.bay_files.specs.Files
pub use Rattle.bay_files.specs.Keys
pub use Rattle.bay_process_port.specs.Ports
pub use Rattle.bay_process_port.specs.Supervision
pub use Rattle.bay_process_port.specs.Supervised
pub use Rattle.cmd_audit.specs.Auditing
pub use Rattle.cmd_audit.specs.Judging
pub use Rattle.cmd_audit.specs.JudgingDiagram
pub use Rattle.cmd_replay.specs.History
pub use Rattle.bay_load.specs.Loads
pub use Rattle.bay_report.specs.Report
pub use Rattle.bay_report.specs.TextLines
pub use Rattle.bay_replay_laws.specs.Printed
pub use Rattle.bay_replay_laws.specs.ReadBack
pub use Rattle.bay_server_turn.specs.Calls
pub use Rattle.bay_server_turn.specs.Recorded
pub use Rattle.bay_server_turn.specs.Turns
pub use Rattle.bay_server_turn_laws.specs.Events
pub use Rattle.bay_server_turn_laws.specs.Records
pub use Rattle.bay_server.specs.Host
pub use Rattle.bay_server.specs.LogLines
pub use Rattle.bay_server.specs.ServeReport
-- Its own definitions.
pub mod Live
pub mod SessionRecord
pub mod Requests
pub mod Permits
pub mod Serve
pub mod Service
pub mod Sums
pub mod Texts
