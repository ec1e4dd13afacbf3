-- Which images can't go wrong, and the first fault of the others.
--
-- `Verdicts` is the main file: what holds of an accepted image. The image fits the bay; some table
-- of kinds agrees with its code, and the code writes only what it may; the budget is the number of
-- instructions on a longest path to a HALT; the depth is the length of a longest list of kinds.
--
-- `Binding`: an image fits a bay if each of its points is one of the bay's, with the same name (as
-- Instruction List compares names), type and access, none occurs twice, and it has at most 512
-- slots and 64 timers. `Slots`: points and then variables, each with its type and whether the code
-- may write it.
--
-- `Judging`: the faults that one instruction has on the kinds before it, in their order: no such
-- slot or timer, too few values, a wrong kind, a divisor that may be zero, a write to a point that
-- may only be read, more than 32 values. It uses `Effects` of il_image, so no rule of kinds is
-- stated twice.
--
-- `Refusals`: the first fault of an image. The kinds at an offset are the least that include all
-- kinds that reach it; the definition refers to all of these, while the code has one frame for each
-- offset. `Refusals` also defines for which images verifying may run out of memory. `Codes` has the
-- numbers and the words of the faults.

-- What public clauses cite of the crates below.
pub use Rattle.il_image.specs.Images
-- Its own definitions.
pub mod Binding
pub mod Codes
pub mod Judging
pub mod Refusals
pub mod Slots
pub mod Verdicts
-- Inner ones: private functions, invariants and proofs cite them, public clauses don't.
pub mod Frames
pub mod Passing
pub mod Sizes
