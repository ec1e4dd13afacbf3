-- Transport and association combined: what a client's octets complete.
--
-- `ConnectionStates` is the main file. It maps each doing of the stream, in order, to an
-- indication; a TSDU to that of its meaning for the association in its phase. An indication is an
-- answer with the octets to send, a PDU of MMS with the terms on which it can be answered (the size
-- of a TPDU, and the phase), a release, the end, or the number of a fault. Nothing follows a
-- release, an end, an abort or a fault. `ConnectionStates` also defines the octets that send a PDU
-- on such terms. A law proves that the indications of a list followed by a piece are those of the
-- list, followed by those of the piece from the state after the list.
--
-- `Feeding` relates one `feed` to this: its indication, the number of octets it consumes, and the
-- state after it. `Stack`: what the two layers hold. `Faults`: the words of a fault, by its number.

-- Definitions of the crates below that public clauses cite.
pub use Rattle.bay_assoc.specs.Receives
pub use Rattle.bay_transport.specs.Doings
pub use Rattle.bay_transport.specs.Feeding as StreamFeeding
-- The definitions of this crate.
pub mod ConnectionStates
pub mod Faults
pub mod Feeding
pub mod Stack
