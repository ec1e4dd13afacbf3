-- Laws over the whole language. `ByNames`: reading and writing an external, a variable or a timer
-- is reading and changing a map from names, at its own name.
--
-- No code cites the rest, which defines the language a second time, in its own terms (IEC
-- 61131-3:2003, tables 10, 24, 26, 28, 38 and 52), with il_check's tables of operators. `Table`:
-- the types of the other instructions, and of numbers. `Instructions`: which instructions are
-- valid, each by itself; `RightText`: one after the other. `Integers`: the results of operators on
-- integers and on values. `TypedText`: the types of a checked program, compared with its text.
--
-- `LineEnds`: CR LF in place of LF. `VersionOne`: version 1 of the format of images. No code cites
-- these either.

-- What public clauses cite of the crates below.
pub use Rattle.il_check.specs.Checking
pub use Rattle.il_check.specs.Declaring
pub use Rattle.il_check.specs.Operators
pub use Rattle.il_check.specs.Program
pub use Rattle.il_check.specs.Rules
pub use Rattle.il_compile.specs.Meaning
pub use Rattle.il_compile.specs.OperatorClasses
pub use Rattle.il_image.specs.Arithmetic
pub use Rattle.il_image.specs.Decoding
pub use Rattle.il_image.specs.Images
pub use Rattle.il_text.specs.Listing
pub use Rattle.il_text.specs.Respelling
pub use Rattle.il_text.specs.Texts
-- Its own definitions.
pub mod ByNames
pub mod Instructions
pub mod Integers
pub mod LineEnds
pub mod RightText
pub mod Table
pub mod TypedText
pub mod VersionOne
