-- The slots that a scan of a machine may leave.
--
-- `Ranges` defines which values are in a range. `Predictions` is the main file: which machines
-- scans reach, what a scan leaves, and which ranges predict it. `Laws`: what holds of each scan.

pub mod Predictions
pub mod Laws
pub mod Ranges
-- Inner ones: private functions, invariants and proofs cite them, public clauses don't.
pub mod Effects
pub mod Outcomes
pub mod Pending
pub mod Starts
