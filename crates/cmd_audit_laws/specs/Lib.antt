-- What an audited rule, and a release that holds by a diagram, imply for the commands of a service
-- and of a replay.
--
-- `Served` is the main file: the turns of each service obey the answers of an audit of the same
-- octets; `Guarded`: the turns of a service with rules obey each of them, and no command of one
-- with a diagram is a hazard in it; `Replayed`: the events of each replay obey an audit. `Audited`:
-- how an audit answers a rule and judges a release; `PrintedHolds`: the line of an audit for a rule
-- that holds.
-- `Waits`: what a rule with a time implies for commands; `ScanWaits`: what it implies for scans.
-- `PortUses`: the turns of a service are uses of the port of its process. `Orders`: small runs that
-- `IsReleasedBy`, `IsHeard`, `IsOrdered` and what obeys a rule distinguish.
pub mod Audited
pub mod Guarded
pub mod Orders
pub mod Replayed
pub mod Served
pub mod PortUses
pub mod PrintedHolds
pub mod ScanWaits
pub mod Waits
