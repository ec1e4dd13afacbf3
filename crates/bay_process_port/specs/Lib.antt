-- The process of a server: one connection that sends lines and receives the reports of turns.
--
-- `Ports` is the main file: what is buffered and queued, and the input of a turn from the port: a
-- line, or the loss of the process. `Supervised`: the supervision settings, and how a line is
-- classified; `Introduction`: its first line. `Fit`: lines by their events alone. `ProcessOutput`:
-- what the process receives after a turn. `Polling`: how the connection is served after a turn, by
-- the results of the link.
--
-- `Releases`: which releases the process receives, and which it then knows.
--
-- `Laws`, turn after turn: after a closing nothing is buffered and the link is not called before a
-- turn has handled the loss of the process. No line of the port is refused. While the process is
-- connected, the link takes the reports in order; what it does not take stays queued, or is lost if
-- the connection is closed. `Uses`: of the octets that the link reads since a process was accepted,
-- no line is lost, repeated or joined with another; and a process that receives releases knows
-- them. `Supervision`: laws of a supervised process. `Examples`: a process that has sent the
-- beginning of a line. `Code` numbers the reasons for closing.

-- What public clauses cite of the crates below.
pub use Rattle.bay_lines.specs.FirstLines
pub use Rattle.bay_report.specs.Lines
pub use Rattle.bay_server_turn.specs.Calls
-- Its own definitions.
pub mod Polling
pub mod Code
pub mod Examples
pub mod Fit
pub mod Introduction
pub mod Laws
pub mod Ports
pub mod Releases
pub mod Supervision
pub mod ProcessOutput
pub mod Uses
pub mod Supervised
