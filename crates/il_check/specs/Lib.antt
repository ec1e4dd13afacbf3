-- Which programs are valid with the points of a bay, and the least fault of the others (IEC
-- 61131-3:2003, 2.4.3 and 3.2).
--
-- `RightProgram` is the main file, the one to read first: a program is valid if each declaration is
-- valid after those before it, and some labelling makes every instruction valid. `check` accepts
-- exactly these. `Labelling` defines labellings: each label has a type of the current result, or is
-- unset; each instruction is reached and valid; and each path to a label brings its type or the
-- label is unset.
--
-- The code computes instead. `Declaring`: the meaning of declarations, and their faults.
-- `SourceOperands`: an instruction with its names resolved. `Operators` (table 52): on which types
-- an operator works, and the type of its result, as tables. `Rules` (3.2.2): what an instruction
-- requires of the current result, and the result after it; it is wrong (72) if no type that the
-- result may have makes it valid, and its result is unset (73) if it uses one that has no type.
-- `WellTyped`: the faults of each item, with the least types; where paths meet, the result has a
-- type only if it has the same one on both. `Checking`: all faults of a program, the checked
-- program of one without a fault, and the result of a check. `Faults`: the least fault by line, and
-- then by number. The laws `some_labelling` and `least_types` connect the two.
--
-- `Program` is a checked program as plain data, `Typing` the typed form of a valid instruction.
-- `TypedProgram` defines which of them are well typed, without names; `Sound` what holds of each;
-- `Keeping` that a check preserves the content of the text; `OwnDeclarations` that a name means its
-- own declaration. `Limits`: how many labels and parentheses there may be. `Contents` and
-- `ProgramViews` map the code's values to plain data; `Code`: the numbers, lines and words of the
-- faults.

-- What public clauses cite of the crates below.
pub use Rattle.bay_base.specs.Exact
pub use Rattle.il_text.specs.Listing
pub use Rattle.il_text.specs.Views
-- Its own definitions.
pub mod Checking
pub mod Code
pub mod Contents
pub mod Declaring
pub mod Faults
pub mod SourceOperands
pub mod Keeping
pub mod Labelling
pub mod Limits
pub mod Operators
pub mod OwnDeclarations
pub mod Program
pub mod ProgramViews
pub mod RightProgram
pub mod Rules
pub mod Sound
pub mod TypedProgram
pub mod Typing
pub mod WellTyped
-- Inner ones: private functions, invariants and proofs cite them, public clauses don't.
pub mod DeclarationsView
pub mod LabelsView
pub mod NamesView
pub mod PartsView
pub mod WalkView
