-- Which rules a bay's program obeys.
--
-- `Rules` is the main file: when a rule is obeyed, when it holds (for every process, in each state
-- that the program can reach), and which answers are right. `Process`: the values that a program's
-- points read, and a process that is lost. `Cases`: a case is a list of tests with their answers,
-- and allows some values of each point. `Conditions`: the truth values that a condition can have in
-- a case. `Effort`: how the answers share passes. `Laws`: a case has exactly the processes that its
-- text allows.
pub mod Cases
pub mod Conditions
pub mod Effort
pub mod Laws
pub mod Process
pub mod Rules
