-- The rows of a bay's logical nodes (IEC 61850-7-4): LLN0, LPHD, XCBR, XSWI, CSWI, CILO, MMXU and
-- GGIO.
--
-- `Node` is the main file: it defines each logical node of each profile as a tree of parts, lists
-- its rows depth first, and puts the nodes of a bay in the order of the tree. `NodeRows` has the
-- same rows line by line, as the tables of the code hold them; `Subjects` the values that the rows
-- of a node take from its switch, its meter or its input.
--
-- `Names`: the names by which rows are found. A switch's values are below its node XCBR or XSWI,
-- with its number among the switches of its class, and below the nodes CSWI and CILO, with its
-- number in the file; so are the rows of its control (stSeld, SBO, SBOw, Oper, Cancel). A meter's
-- values are below its node MMXU, an input's below GGIO1; the health of the device is below LLN0 and
-- LPHD1.

-- The definitions of lower crates that public clauses cite.
pub use Rattle.bay_tree.specs.Rows
-- Its own definitions.
pub mod Names
pub mod Node
pub mod NodeRows
pub mod Subjects
