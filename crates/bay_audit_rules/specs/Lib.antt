-- The rules that a text spells for a bay, or its first fault: the one with the least line, and
-- within a line with the least number.
--
-- `Meaning` is the main file: the tokens of a line, its rules, and the lines of a text. `Grammar`:
-- the grammar of a rule, over the tokens of its line, with the items of each condition in postfix
-- order. `Facts`: the items of a name with a value. `Process`: the values that the process last
-- reported, and whether a condition is TRUE for them. `Laws`: a text has one reading, and the truth
-- of a condition is that of its parts.
--
-- `Words`, `Numbers` and `Pieces`: the words and signs, the numbers and times, and how a line is
-- split. `Running`, `TokenParsing`, `Turns` and `Reading` describe how the code reads the tokens;
-- no public clause cites them. `Code`: the numbers, lines and words of the faults.

pub mod Code
pub mod Facts
pub mod Grammar
pub mod Laws
pub mod Meaning
pub mod Numbers
pub mod Pieces
pub mod Process
pub mod Reading
pub mod Running
pub mod TokenParsing
pub mod Advances
pub mod Words
