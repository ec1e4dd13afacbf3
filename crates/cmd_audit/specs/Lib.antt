-- What an audit of files prints. `Auditing`: which files are read, and what is printed with which
-- status. `Judging`: whether each rule of a text holds. `JudgingDiagram`: whether each release is
-- harmless in a single line diagram. `Text`: the lines of the answers. `Names`: the names of slots
-- and timers in them. `Judged`: which releases are judged right in a diagram. `HazardText`: their
-- lines. `Refusals`: the lines of rules and diagram files that are refused. `Verdicts`: how a line
-- is read as a rule that holds. `Written` is inner.
pub mod Auditing
pub mod HazardText
pub mod Judged
pub mod Judging
pub mod JudgingDiagram
pub mod Names
pub mod Refusals
pub mod Text
pub mod Verdicts
pub mod Written
