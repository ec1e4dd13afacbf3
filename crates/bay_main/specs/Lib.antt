-- The commands of the program. `Commands` is the main file: what any command line does. The job
-- that the arguments spell is executed, with what is printed, the exit status and what becomes of
-- files; or the arguments are refused, and nothing is read, printed or touched; or memory runs out
-- while they are read. An image is written to a new file beside its own, which then replaces that.
--
-- `Program`: the program's output, the writing of what is queued of it, and the exit status.
-- `Check`: what is printed for a load alone, and its status. `Ending`: the exit status of a
-- command, and what it writes to standard error. Serving, replaying, audits and files are defined
-- in cmd_serve, cmd_replay, cmd_audit and bay_files.

-- What public clauses cite of the crates below.
pub use Rattle.bay_files.specs.Files
pub use Rattle.cmd_replay.specs.Replay
pub use Rattle.bay_load.specs.Loads
pub use Rattle.bay_report.specs.Report
pub use Rattle.bay_server_turn.specs.Calls
pub use Rattle.bay_server.specs.Host
pub use Rattle.cmd_serve.specs.Serve
pub use Rattle.bay_cli.specs.Jobs
-- Its own definitions.
pub mod Check
pub mod Commands
pub mod Ending
pub mod Program
