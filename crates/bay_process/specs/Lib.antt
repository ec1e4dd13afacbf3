-- The effects of the process and of the program on the rows of a bay (IEC 61850-7-3, 7-4).
-- Definitions identify rows by name, the code by handle.
--
-- `Values` is the main file. A reported position that changes the value or the quality sets both
-- and their time, below the switch and below its control, and counts an operation if the switch
-- reached an end position. A measured value that changes is written likewise, with good quality; a
-- report that it is invalid sets its quality to invalid and leaves the value. After a scan each
-- EnaOpn and EnaCls has the value of its point, and a new time if its value or quality changed.
--
-- `Names`: the names of one field of a meter, beside those of bay_nodes. `Sources`: the source of
-- an image's point is that of the bay's point with the same name, type and writability. `Layout`:
-- the names and types of the rows at handles, so that contracts can speak of a handle by its name.
-- `Nodes` and `Controls`: the handles of the rows of switches and controls in a tree. `Scans`: what
-- a scan reads and writes, by handle. `Releases`: the text of the interlocking values.
-- `ReportedRows`: the stored text has the values of the rows, which have good quality after a scan.
-- `Model`: what events do to the rows that profile 2 adds, by name; `ModelRows` the same by handle.
-- `Parts`: the parts of a device's state.

-- The definitions of lower crates that public clauses cite.
pub use Rattle.bay_nodes.specs.Names as NodeNames
pub use Rattle.bay_tree.specs.LeafTypes
pub use Rattle.bay_tree.specs.Rows
-- Its own definitions.
pub mod Controls
pub mod Layout
pub mod Model
pub mod ModelRows
pub mod Names
pub mod Nodes
pub mod Parts
pub mod Releases
pub mod Scans
pub mod Sources
pub mod ReportedRows
pub mod Values
