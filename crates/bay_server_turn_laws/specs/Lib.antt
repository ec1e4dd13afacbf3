-- Laws of a turn of bay_server_turn, in words that need not know how a turn proceeds.
--
-- `Events`: the events of a turn with their choices, as the device was stepped by them. `Order`: in
-- which order they occur, by what the link brought, the line, and the device at each event.
-- `Flows`: what the link read for an association, and what the device received from it; what the
-- link took for an association, what its queue held and holds, and what was sent to it: no octet is
-- lost, at a time that the device does not refuse, for a server that queues nothing for closed
-- associations. `CloseReports`: how often the closing of an association is reported. `Causes`: with
-- which reason, by the calls on the link and the device's answers. `Faults`: the report of a failed
-- link. `Room`: no queue has more than its room. `Fullness`: when a reply had no room, by octets
-- alone. `Records`: the record of a session, and what its file takes, by the lines of the events.

-- What public clauses cite of the crates below.
pub use Rattle.bay_device.specs.Device
pub use Rattle.bay_device.specs.Outcomes
pub use Rattle.bay_server_turn.specs.Calls
pub use Rattle.bay_server_turn.specs.Recorded
pub use Rattle.bay_server_turn.specs.Served
pub use Rattle.bay_server_turn.specs.Turns
pub use Rattle.bay_trace.specs.Trace
-- Its own definitions.
pub mod Causes
pub mod Events
pub mod Faults
pub mod Flows
pub mod Fullness
pub mod Order
pub mod Records
pub mod Room
pub mod CloseReports
