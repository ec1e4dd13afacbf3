-- What is loaded from the octets of a bay file and of a program or an image.
--
-- `Loads` is the main file: a bay, the names of its program and a verified image, or the first
-- error. `Errors`: the errors of a load, with their numbers, lines and words. `Names`: the names
-- that a program declares. `Report`: instructions, depth and budget of an image. `Verified`: the
-- image of a checked program is verified, with the points that it was checked with.

-- What public clauses cite of the crates below.
pub use Rattle.bay_config.specs.Bay
pub use Rattle.il_check.specs.Checking
pub use Rattle.il_compile.specs.Compiled
pub use Rattle.il_image.specs.Decoding
pub use Rattle.il_text.specs.Reading
pub use Rattle.il_verify.specs.Verdicts
-- Its own definitions.
pub mod Errors
pub mod Loads
pub mod Names
pub mod Report
pub mod Verified
