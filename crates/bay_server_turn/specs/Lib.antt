-- Serving a device over any link. A link may fail at any call.
--
-- `Turns` is the main file: **one turn**, a function of the time, of the input of the turn, of the
-- server before it and of a script. The script holds all that the turn does not decide itself:
-- whether a connection waited, what each association brought, where memory ran out for it, and how
-- much of each queue the link took. A turn accepts one connection; reports the loss of the process
-- to the device, if the process is lost; reads each association; applies the line; runs the program
-- once; and offers each queue to the link. After each of these it closes an association to which a
-- reply did not fit. `Turns` also has the calls on the link in their order. Each event is the
-- device's step (`Outcomes` of bay_device).
--
-- `Calls`: the calls of a link (accept, read, write, close, each with the number of an association)
-- with their results; None is a failure. A link counts failures up to 18,446,744,073,709,551,615.
-- `Offers`: octets are offered until none is left, a write takes none, or one fails.
-- `AssociationStates`: the state of an association within a turn, as open or closed with a queue
-- that will be offered once more; which of these accept replies.
--
-- `Recorded`: the record of a session. An event adds its line as a whole, or ends the record; a write
-- hands what waits to the file, which takes a prefix of it.
--
-- `Served`: why a turn is refused, and what a turn promises that is not: there is a script such
-- that the calls, the server after the turn and its report are the script's. `Supervised`: the
-- lines of a supervised process, each with its moment. `Room`: a turn reports each closed
-- association once. `Code`: the numbers and the words of the reasons of closings, and the numbers
-- of the faults.

-- What public clauses cite of the crates below.
pub use Rattle.bay_device.specs.Device
pub use Rattle.bay_device.specs.Outcomes
pub use Rattle.bay_trace.specs.Resolving
pub use Rattle.bay_trace.specs.Recording
pub use Rattle.bay_trace.specs.Trace
-- Its own definitions.
pub mod Calls
pub mod Code
pub mod Offers
pub mod Recorded
pub mod Room
pub mod Served
pub mod AssociationStates
pub mod Supervised
pub mod Turns
