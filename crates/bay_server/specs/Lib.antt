-- Serving over ports, turn by turn. The effect of a call of the system is a relation that its
-- implementation defines.
--
-- `ServeReport` is the main file: a number of turns, each with its input. In each the clock is
-- read, the turn is one of bay_server_turn's, and what it reports is printed and flushed; up to a
-- turn that is refused, or whose lines could not be written.
--
-- `Host`: the calls of the system: ports and links, the times of two clocks, a pause and a wait.
-- `Clock`: the server's clock, which advances as the steady one does. `Cycle`: how long turns last.
-- `TurnLines`: what is printed for a turn, and for one that is refused. `LogLines`: what is logged
-- of ports, of associations, of the process and of the end, line by line; `ChangeLines`: of a turn;
-- `RecordLine`: of a record.
-- `ConnectionLines`: how many lines of clients' connections are logged in a second.
-- `Logging`: lines that are logged one after the other. `Serving`: the result of one try of a turn.

-- What public clauses cite of the crates below.
pub use Rattle.bay_io.specs.Sent
pub use Rattle.bay_lines.specs.Escaped
pub use Rattle.bay_process_port.specs.Polling
pub use Rattle.bay_process_port.specs.Ports
pub use Rattle.bay_process_port.specs.ProcessOutput
pub use Rattle.bay_report.specs.Lines
pub use Rattle.bay_report.specs.Report
pub use Rattle.bay_report.specs.TextLines
pub use Rattle.bay_server_turn.specs.Calls
pub use Rattle.bay_server_turn.specs.Recorded
pub use Rattle.bay_server_turn.specs.Served
pub use Rattle.bay_server_turn.specs.Turns
-- Its own definitions.
pub mod ChangeLines
pub mod Clock
pub mod ConnectionLines
pub mod Cycle
pub mod Host
pub mod LogLines
pub mod Logging
pub mod RecordLine
pub mod ServeReport
pub mod Serving
pub mod TurnLines
