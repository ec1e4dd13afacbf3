-- The device: the effect of an event on it, and its answer (IEC 61850-7-2, 7-3, 7-4).
--
-- `Outcomes` is the main file, **the device's step**: a function of the choice, the time, the event
-- and the device, to the answer and the device after it. Only the choice is free: at which point an
-- allocation failed, which closes the association, or that none did. It matters only for octets of
-- clients. A refused event (110 to 114) changes nothing. Any other event first ends what has
-- expired.
--
-- `Device`: the state of a device, and the effects on it without a client; `Receiving`: the effects
-- of a client's octets. bay_connection defines the indications of octets; the device answers and
-- carries out each PDU, as bay_mms_services defines, before it reads the next. `Steps`: the promise
-- of a step: its answer and the device after it are the outcome of some choice; a run is such
-- steps, one after the other.
--
-- `Load`: the device of what was loaded, or the number and the line of the load's error.
-- `Accepts`: the texts that load accepts, by what they spell. `BoundBay`: the parts that load makes
-- from a bay. `Meaning`: each scan ends at HALT within the budget, and leaves the values that the
-- program's text means.
--
-- On commands: `Commands`: each is issued after a fresh scan with EnaCls or EnaOpn TRUE, while no
-- switch operates. `Operates`: each is an operate that a PDU requested and a response accepted;
-- responses belong to PDUs by their order. `Fresh`: a scan precedes it that is not too old and
-- since which no value of the process has changed, and the process is not lost. `Remote`: if the
-- switch has a key, the process has reported that it is at remote, and since then not that it is at
-- local, nor was the process lost since. `Entries`: the requests on controls and which of them were
-- accepted, with the state of the device; `ObservedRuns`: the same by events and answers alone,
-- through the layers of transport, session and presentation. These are the entries that `Backing`
-- of bay_control is about. `LookUps`, `Table`: the indices of names. `Code` numbers the faults.
-- `StateView`, `Connections` and `ReceivingViews` map the code's fields to the definitions.

-- The definitions of lower crates that public clauses cite.
pub use Rattle.bay_base.specs.Exact
pub use Rattle.bay_config.specs.Bay
pub use Rattle.bay_load.specs.Loads
pub use Rattle.bay_load.specs.Report
pub use Rattle.il_check.specs.Program
pub use Rattle.il_image.specs.Decoding
pub use Rattle.il_image.specs.Images
pub use Rattle.il_text.specs.Reading
-- Its own definitions.
pub mod Accepts
pub mod BoundBay
pub mod Code
pub mod Commands
pub mod Connections
pub mod Device
pub mod Entries
pub mod Fresh
pub mod Receiving
pub mod ReceivingViews
pub mod Load
pub mod LookUps
pub mod Meaning
pub mod Modelled
pub mod Operates
pub mod Outcomes
pub mod Remote
pub mod StateView
pub mod Steps
pub mod Table
pub mod ObservedRuns
