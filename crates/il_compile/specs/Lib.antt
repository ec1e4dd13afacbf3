-- The meaning of a program, and that its code does what it means (IEC 61131-3:2003, 3.2 and table
-- 52).
--
-- `Meaning` is the main file. It follows the structure of the program, on a current result that may
-- be unset, the values of externals, variables and timers, and a time. Items are executed in order,
-- or skipped up to a label; a parenthesis begins with an unset result, and its operator takes the
-- result at its end. There is no meaning if an instruction uses an unset result, a missing name, a
-- value of another type or a divisor of 0. `OperatorClasses` classifies the operators: an operator
-- connects BOOLs, computes with numbers of one width, or compares values of one type.
--
-- `Code` is the list of instructions of operations, parentheses, calls and items, with the
-- distances of jumps in octets. `Compiled` is the image, its size, and which programs are too long
-- for one. `Correct` joins the two: code does what the text means. `Faults`: the numbers and the
-- words of the faults. `Laws`: the meaning of the items after a label.

-- What public clauses cite of the crates below.
pub use Rattle.bay_base.specs.Exact
pub use Rattle.il_check.specs.Program
pub use Rattle.il_check.specs.ProgramViews
pub use Rattle.il_check.specs.TypedProgram
pub use Rattle.il_image.specs.Tables
-- Its own definitions.
pub mod Code
pub mod Compiled
pub mod Correct
pub mod Faults
pub mod Laws
pub mod Meaning
pub mod OperatorClasses
-- Inner ones: private functions, invariants and proofs cite them, public clauses don't.
pub mod Continuation
