-- The meaning of a TSDU for an association: session (X.225), presentation (ISO 8823-1), association
-- control (ISO 8650-1). A message is a form of bay_ber, which is both a reader and a relation of
-- how the message is encoded. Laws prove that the two agree: octets that encode a message are read
-- as exactly that message; and a TSDU that is encoded wrongly is refused for its outermost wrong
-- layer.
--
-- `TsduMeanings` is the main file: the verdict on a TSDU in a phase, layer by layer, is its meaning
-- and the phase after it, or the fault. `Session` has the SPDUs, made of units of identifier,
-- length and content, which `SessionReading` reads one after another; `Presentation` has the
-- request for a connection, its contexts, and user data, `Acse` the requests for an association and
-- a release.
--
-- `Texts`: the texts that are sent. `Receives`: the result of a call, and the phase after it.
-- `Sized`: the sizes of PDUs and result. `TakesMemory`: which TSDUs make the code allocate.
-- `Tags`: tags and object identifiers. `Code`: the numbers and the words of the faults. `Views`
-- and `SessionViews`: views of the code's values.

-- Definitions of the crates below that public clauses cite.
pub use Rattle.bay_ber.specs.Octets
pub use Rattle.bay_mms_initiate.specs.Sizes
-- The definitions of this crate.
pub mod Acse
pub mod Code
pub mod TsduMeanings
pub mod Receives
pub mod Presentation
pub mod Session
pub mod SessionReading
pub mod SessionViews
pub mod Sized
pub mod Tags
pub mod Allocating
pub mod Texts
pub mod Views
