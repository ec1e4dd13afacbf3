-- A scan is a run of the machine of il_image, without a trap.
--
-- `Scans` is the main file: which inputs a scan has (one for each point that may only be read, in
-- the image's order, of its type), the slots with them, which inputs the slots already hold, the
-- outputs, and what a scan is: a run of the machine's definition from these slots, timers and time,
-- to HALT and within the budget. It also defines for which images creating a machine may run out of
-- memory. `Laws`: each scan of verified code ends so, from all slots and timers of its types.
--
-- `Words`: words of 64 bits encode typed values, each by its number. `Places`: the value of a point
-- that may be written, by its index. `Loan`: what the outputs of a scan are borrowed from.
-- `MachineStates` is for invariants and proofs: words that encode a state that an agreeing table
-- allows, and what a machine holds between scans.

pub mod Laws
pub mod Loan
pub mod OutputValues
pub mod Scans
pub mod MachineStates
pub mod Words
-- Inner ones: private functions, invariants and proofs cite them, public clauses don't.
pub mod PointIndices
pub mod WordEffects
