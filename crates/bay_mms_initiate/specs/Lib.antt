-- The request that opens an MMS association, and its answer (ISO 9506-2).
--
-- `Initiate` is the main file: how the request is read and encoded, as forms (`Forms` of bay_ber).
-- A law of bay_mms proves that the two agree. `Agreed`: the one text of the answer. `Sizes`: the
-- sizes of PDUs.

-- Definitions of the crates below that public clauses cite.
pub use Rattle.bay_ber.specs.Forms
pub use Rattle.bay_ber.specs.EncoderBuffers
pub use Rattle.bay_ber.specs.Values
-- The definitions of this crate.
pub mod InitiateResponse
pub mod Initiate
pub mod Sizes
