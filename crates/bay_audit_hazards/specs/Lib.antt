-- Whether releases are hazards in a single line diagram.
--
-- `Judged` is the main file: which answers to a release are right. `Parts`: what is found of a case
-- and of several.
pub mod Judged
pub mod Parts
