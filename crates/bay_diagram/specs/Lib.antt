-- Which operations of switches are hazards in a single line diagram.
--
-- `Hazards` is the main file: each hazard as a truth value over walks, with the standard that it
-- rests on. `Walks`: the branches that a walk may take. `Joined`: the nodes that branches
-- join, and that this is a walk. `Reading`: what is known of switches and sources, of a process and
-- of a case.
-- `Network`: kinds of nodes and branches. `Shown`: the walks that show a hazard. `Laws`: where less
-- is known nothing becomes harmless.
pub mod Hazards
pub mod Joined
pub mod Laws
pub mod Network
pub mod Reading
pub mod Shown
pub mod Walks
