-- The bay that a bay file describes, or the first reason why the file is refused. The file is a
-- table that the library `toml` reads from a text of at most 262,144 octets.
--
-- `Bay` is the main file: the sections, the first refusal, and the bay. The refusals have this
-- order: the text is not TOML or is too long; a section is unknown; section by section, the section
-- is missing, has a wrong form or has too many tables, and then, table by table, its unknown keys
-- and its keys in their order; two points have the same name; the name of a point is a reserved
-- word; the key of a switch is not an input.
--
-- `Key`, `Section` and `Switch` define as data which keys the tables of a section have, which
-- values each key may have, which keys a kind of control excludes, and how many tables a section
-- has; a missing list counts as an empty one. `Point`: the five points of a switch, the one point
-- of an input and the six points of a meter, each with its name, its type, its source and whether a
-- program may write it. `Remote`: the inputs of the switches' keys. `Laws`: the properties of every
-- bay that is read. `Code` has the numbers and the words of the faults.

-- The definitions of lower crates that public clauses cite.
pub use Rattle.bay_base.specs.Exact
-- Its own definitions.
pub mod Bay
pub mod Code
pub mod Key
pub mod Laws
pub mod Point
pub mod Remote
pub mod Section
pub mod Switch
