-- Reads and writes that may fail. Each implementation of a source or a sink defines its own
-- relation of what a call does; these definitions describe the results of the calls, and what is
-- known after them.
--
-- `Calls`: one read, one write, one flush or one line of a log with its result; None means that the
-- call failed. `Sent`: which of the octets put into a buffered writer reached its sink, which are
-- still in the buffer, and what is logged. `Watched`: what is known of a reader (whether a read has
-- failed) and of a writer (whether a write or a flush has failed, whether it was flushed since its
-- last write, whether it logs). `Input`: the octets of reads up to the end or a limit, and which
-- faults mean a failed read. `Moments`: a moment as a text.

pub mod Calls
pub mod Input
pub mod Moments
pub mod Sent
pub mod Watched
