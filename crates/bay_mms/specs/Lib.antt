-- MMS requests and answers (ISO 9506-2, with the profile of IEC 61850-8-1). Requests are values; a
-- form (`Forms` of bay_ber) defines how they are read and how they are encoded. Laws prove that the
-- two agree, so octets encode at most one request.
--
-- `Requests`: the requests of clients: an initiate, a conclude, or a service with an invoke id.
-- `Grammar` has the forms, one for each production of the standard: names, variables, data,
-- services and the request; the initiate is that of bay_mms_initiate. `RequestRelations`: the
-- octets encode a request, a request for a service that is not served, one with too many variables,
-- or none of these, with the invoke id if they begin with one.
--
-- `RequestResults`: the request that some octets encode, or their fault. An allocation can fail
-- only for a read or a write that names a variable or has data.
--
-- `Data`, `Types`, `Float` and `Utc`: data and types of named variables as trees with their
-- canonical texts, and the octets of a float and of a time. `Nodes`: the rows below a row of the
-- tree, as data and as a type. `Marks`: the rows of a tree as clients see them. `Controls`: the
-- parameters of Oper, SBOw and Cancel, their data, and their ranges; laws prove that their text can
-- be read back.
--
-- `Responses`: the one text of each response, error and reject. `Pages`: the greatest number of
-- names, up to 100, whose response fits into a PDU. `Reports`: LastApplError and
-- CommandTermination. `Writing`: the results of calls that write. `Laws`: plain data, which can be
-- read back from their text. `Code`: the numbers of the faults. `Views`, `RequestViews` and
-- `ControlViews`: views of the code's values.

-- Definitions of the crates below that public clauses cite.
pub use Rattle.bay_base.specs.Exact
pub use Rattle.bay_ber.specs.Forms
pub use Rattle.bay_ber.specs.Octets
pub use Rattle.bay_ber.specs.Spelling
pub use Rattle.bay_ber.specs.Values
pub use Rattle.bay_tree.specs.Page
pub use Rattle.bay_tree.specs.Rows
-- The definitions of this crate.
pub mod RequestResults
pub mod RequestRelations
pub mod Code
pub mod ControlViews
pub mod Controls
pub mod Data
pub mod Float
pub mod Grammar
pub mod Laws
pub mod Marks
pub mod Nodes
pub mod Pages
pub mod Reports
pub mod RequestViews
pub mod Requests
pub mod Responses
pub mod Types
pub mod Utc
pub mod Views
pub mod Writing
