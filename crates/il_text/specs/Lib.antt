-- The program of a text, or its first faulty line (IEC 61131-3:2003). There are two definitions: a
-- grammar, and a function that the code follows. Laws state that the two agree.
--
-- `Texts` is the main file: how a text is read. Within a line the leftmost bad token or literal
-- comes first; then a line without a form, or one after which the lines so far can't become a
-- program (or the text ends there too early); then more than 16 open parentheses; then more than
-- 4,000 lines with an instruction or `)`.
--
-- Read it bottom up. `Characters`, `Lexemes`, `Tokens`, `Symbols` and `Literals` (2.1, 2.2, annex
-- B.1) cut a text by longest match into lexemes: blanks, line ends and tokens. A comment is blank,
-- but its line ends still end lines. `DurationGrammar` (2.2.3.1) defines durations by their
-- grammar: numbers with units, each unit smaller than the one before. `Parts` and `Forms` (annexes
-- B.1.4.3, B.1.5.3, B.2) define which parts a line has (`L: LD a` has two). A form is made of
-- smaller ones by the combinators of `TokenForms`, and is both a function that reads tokens and a
-- relation.
-- `Grammar` (2.5.3, annex B.2) derives a program from the parts of its lines. `Listing`: a program
-- as plain data, with a line for each item; items nest. `Places`: the last line.
--
-- `Respelling` and `LetterCase` (2.1.1, 2.1.4, 2.1.5): other blanks or whole comments, CR LF for LF
-- and letters in either case change nothing but the spelling of names.
--
-- `Steps` and `Reading` read line by line, with a list of the open parentheses, as the code does.
-- `Code` has the numbers, lines and words of the faults, `Words` the token of each reserved word;
-- `Views` and `ItemViews` map the code's values to plain data.

pub mod Characters
pub mod Code
pub mod DurationGrammar
pub mod Forms
pub mod Grammar
pub mod ItemViews
pub mod LetterCase
pub mod Listing
pub mod Literals
pub mod Parts
pub mod Lexemes
pub mod Places
pub mod Reading
pub mod Respelling
pub mod Steps
pub mod Symbols
pub mod Texts
pub mod TokenForms
pub mod Tokens
pub mod Views
pub mod Words
-- Inner ones: private functions, invariants and proofs cite them, public clauses don't.
pub mod Declaring
pub mod Durations
pub mod FormViews
pub mod ListingViews
pub mod ReaderViews
pub mod Runs
pub mod TokenViews
