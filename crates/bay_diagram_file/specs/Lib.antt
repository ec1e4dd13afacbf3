-- The single line diagram of a diagram file, for the bay of a bay file.
--
-- `Diagram` is the main file: the first refusal of a text, and the diagram that it describes.
-- `Row`: the tables of a file, each by itself. `Checks`: what they must be together. `Parts`: the
-- nodes and branches that they describe. `Code`: the number and the words of each fault. `Words`: a
-- hazard in words.
pub mod Checks
pub mod Code
pub mod Diagram
pub mod Parts
pub mod Row
pub mod Words
