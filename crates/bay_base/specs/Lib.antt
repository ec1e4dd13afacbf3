-- What all crates share: definitions for the contracts of other crates; none of them is main.
--
-- `Exact` is cited by the contract of a call that allocates: its result, under a view, is the value
-- of a definition, unless an allocation fails. `Results` and `Options` chain steps (`>>=`): the
-- first refusal, or the first missing value, ends the chain. `Results` also defines that a result,
-- under a view, is the value of a definition, including each refusal.
--
-- `Decimals`: the number that decimal digits spell. `Positions`: the positions of a switch.
--
-- The rest follows IEC 61131-3:2003. `Names` (2.1.2): names are the same if they differ only in
-- case; every crate compares names by this definition. `Types` (table 10): when two elementary
-- types are the same. `Words` (table 52, annex C): each reserved word with its spelling, in one
-- table.

pub mod Decimals
pub mod Exact
pub mod Names
pub mod Options
pub mod Positions
pub mod Results
pub mod Types
pub mod Words
