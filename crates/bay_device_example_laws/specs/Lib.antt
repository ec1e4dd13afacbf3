-- Small runs, right and wrong, that the relations of the headline accept and refuse. `Selects`: for
-- `IsBacked`; `Commands`: for `CommandedAt`; `Keys`: for `IsAtRemote`; `Operates`: for
-- `AreOperates` and `AllOperate`; `Scans`: for `HasScan`, `HaltsAt` and `MeansAt`. `Chains`: the
-- clauses of a run speak of one chain of devices.
pub mod Chains
pub mod Commands
pub mod Keys
pub mod Operates
pub mod Scans
pub mod Selects
